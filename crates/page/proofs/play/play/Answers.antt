use Rattle.std.proofs.Common.{◌≡◌, ◌≢◌, ◌∙◌, ◌<◌, refl, ap, sym, subst, arith, length, not, false}
use Rattle.std.proofs.lemmas.List.{length-set}
use Rattle.block_device.specs.Facts.{Facts}
use Rattle.page.specs.Story.{StepDoes, power_after, step_at}
use Rattle.page.specs.Steps.{PlaysStep, is_unarmed}
use Rattle.page.specs.declared.step.Step.{Step}
use Rattle.page.specs.declared.step.Power.{Power}
use Rattle.page.proofs.Playing.{does_of, on_after, story_start, story_step, power_step, goes_on, goes_same}
use Rattle.page.proofs.play.play.Goals as goal

pub loop-k-init : goal.loop-k-init
loop-k-init g c = record {
  sound = c.requires.sound;
  quick = c.requires.quick;
  story = story_start (g.D.Disk.facts c.args.disk.now).contents c.args.script.now c.args.answers.now;
  power = refl;
  on = ap not (sym c.requires.ready);
  long = refl;
  goes = goes_same (g.D.Disk.facts c.args.disk.now) _ refl;
}

pub play_step-answer-requires-clause-sectors : goal.play_step-answer-requires-clause-sectors
play_step-answer-requires-clause-sectors g c =
    ap (λ (x : Facts). length x.contents) c.arm.ensures ∙ (c.loop-k.invariant.goes.size ∙ c.requires.sectors)

pub play_step-answer-requires-clause-sound : goal.play_step-answer-requires-clause-sound
play_step-answer-requires-clause-sound g c = ap (λ (x : Facts). x.sound) c.arm.ensures ∙ c.loop-k.invariant.sound

pub play_step-answer-requires-clause-quick : goal.play_step-answer-requires-clause-quick
play_step-answer-requires-clause-quick g c = ap (λ (x : Facts). x.slow) c.arm.ensures ∙ c.loop-k.invariant.quick

pub loop-k-preserved : goal.loop-k-preserved
loop-k-preserved g c =
    let facts = g.D.Disk.facts in
    let inv = c.loop-k.invariant in
    let old : Facts = facts c.loop-k.disk in
    let new : Facts = facts c.play_step-answer.new.disk in
    let answer = c.play_step-answer.result in
    let script = c.args.script.now in
    let step : Step = step_at script c.loop-k.k in
    let plays : PlaysStep step answer old new =
    subst (λ s. PlaysStep s answer old new) c.step_at-step.ensures
    (subst (λ f. PlaysStep c.step_at-step.result answer f new) c.arm.ensures c.play_step-answer.ensures.plays) in
    let quick : answer ≢ 69 = λ e. absurd (omega (arith, c.if-answer-eq-SLOW.false, e)) in
    let asked : is_unarmed step answer c.loop-k.power ≡ false =
    subst (λ s. is_unarmed s answer c.loop-k.power ≡ false) c.step_at-step.ensures (sym c.is_unarmed.ensures ∙ c.if-is_unarmed.false) in
    let low : c.loop-k.k < length c.loop-k.answers = omega (arith, c.loop-k-test.true, inv.long) in
    let does = does_of step answer c.loop-k.power old new quick asked inv.on plays in
    let after : c.power_after-power.result ≡ power_after step answer c.loop-k.power =
    c.power_after-power.ensures ∙ ap (λ s. power_after s answer c.loop-k.power) c.step_at-step.ensures in
    record {
      sound = plays.sound quick;
      quick = plays.quick quick;
      story = story_step (facts c.args.disk.now).contents script c.loop-k.answers c.loop-k.k answer old.contents new.contents low inv.story
          (subst (λ p. StepDoes step answer p old.contents new.contents) inv.power does);
      power = after ∙ (ap (λ p. power_after step answer p) inv.power ∙ power_step script c.loop-k.answers c.loop-k.k answer low);
      on = ap (λ (p : Power). p.on) after ∙ on_after step answer c.loop-k.power old new quick inv.on plays;
      long = length-set c.loop-k.answers c.loop-k.k answer ∙ inv.long;
      goes = goes_on (facts c.args.disk.now) old new inv.goes plays.goes;
    }
