use Rattle.std.proofs.Common.{◌∙◌, arith}
use Rattle.norbd_run.proofs.Settling.{next-step}
use Rattle.norbd_run.proofs.settle.settle_all.Goals as goal

pub loop-step-preserved : goal.loop-step-preserved
loop-step-preserved g c =
    let i = c.loop-step.invariant in
    let e = c.in_ok-settle_step.ensures in
    record {
      renewed = next-step c.loop-step.step c.args.disk.now.map.memory c.loop-step.disk.map.memory c.settle_step.new.self.map.memory i.renewed e.journals e.block;
      within = omega (arith, c.loop-step-test.true, c.settle_steps-steps.ensures);
      size = e.size ∙ i.size;
      contents = e.contents i.sound ∙ i.contents;
      sound = e.sound ∙ i.sound;
      ready = e.latches.1;
      cuts = omega (arith, i.cuts, e.goes.cuts);
      slows = omega (arith, i.slows, e.goes.slows);
    }
