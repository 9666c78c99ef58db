use Rattle.std.proofs.Common.{◌≡◌, ◌∙◌, ap, arith, false}
use Rattle.std.proofs.lemmas.Bool.{false≢true}
use Rattle.chip_model.specs.Chip.{Chip}
use Rattle.chip_simulator.specs.Plan.{Armed}
use Rattle.chip_simulator.specs.Simulated.{Pace, after_frame, is_accepted}
use Rattle.chip_simulator.specs.Sim.{armed_of, chip_of, pace_of}
use Rattle.chip_watch.proofs.SimLaws.{never_strikes, stays_unarmed, stays_prompt, like_frame}
use Rattle.chip_watch.proofs.simulator.exchange.Goals as goal

pub unreachable-requires : goal.unreachable-requires
unreachable-requires c = false≢true (c.in-Err.ensures.spared c.requires.calm.powered (never_strikes (armed_of c.args.chip.now) (is_accepted (chip_of c.args.chip.now) c.args.send.now) c.requires.calm.unarmed))

pub returns-clause-calm : goal.returns-clause-calm
returns-clause-calm c =
    let h = c.requires.calm in
    let e = c.in-Ok.ensures in
    let stuck = ap (λ (p : Pace). p.stuck) h.prompt in
    let none = h.quick in
    let left : chip_of c.transact.new.self ≡ after_frame false (chip_of c.args.chip.now) c.args.send.now =
    e.whole (omega (arith, none)) ∙ ap (λ b. after_frame b (chip_of c.args.chip.now) c.args.send.now) stuck in
    record {
      powered = ap (λ (d : Chip). d.powered) left ∙ ((like_frame (chip_of c.args.chip.now) c.args.send.now).powered ∙ h.powered);
      unarmed = ap (λ (p : Armed). p.armed) (e.one_frame_less h.powered) ∙ stays_unarmed (armed_of c.args.chip.now) (is_accepted (chip_of c.args.chip.now) c.args.send.now) h.unarmed;
      prompt = e.pace ∙ stays_prompt (pace_of c.args.chip.now) (is_accepted (chip_of c.args.chip.now) c.args.send.now) h.prompt;
      quick = e.quick stuck ∙ h.quick;
      steady = ap (λ (d : Chip). d.weak) left ∙ (like_frame (chip_of c.args.chip.now) c.args.send.now).steady h.steady;
    }
