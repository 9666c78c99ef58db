use Rattle.std.proofs.Common.{◌∙◌, ◌+◌, subst, sym, arith, inl, inr}
use Rattle.std.specs.Prelude.{None}
use Rattle.std.proofs.lemmas.Bool.{cases_eq}
use Rattle.erase_journal.proofs.Calls.{repeated-more}
use Rattle.sector_survey.specs.Cleanness.{FreeBlockTells}
use Rattle.sector_survey.proofs.Erasing.{tells-none}
use Rattle.erase_journal.specs.Steps.{RefusesFirmly, SucceedsSettled}
use Rattle.nor_driver.proofs.CallLaws.{fails-as}
use Rattle.erase_journal.proofs.Calls.{repeated-refuses}
use Rattle.sector_survey.proofs.groups.first_dirty_group.Goals as goal

pub loop-block-preserved : goal.loop-block-preserved
loop-block-preserved g c =
    let m = c.args.journal.now.memory in
    let b = c.loop-block.block in
    record {
      same = c.dirty_byte.ensures.same ∙ c.loop-block.invariant.same;
      since = repeated-more b (b + 1) c.args.journal.now c.loop-block.journal c.dirty_byte.new.journal c.loop-block.invariant.since c.in_ok-byte.ensures.ends;
      before = λ d low. elim (cases_eq d b) as (λ _. FreeBlockTells None m d) [
        | inl same ↦ subst (λ q. FreeBlockTells None m q) (sym same) (subst (λ z. FreeBlockTells None z b) c.loop-block.invariant.same (tells-none c.in_ok-byte.field-0 c.loop-block.journal.memory b c.in_default.not-Some c.in_ok-byte.ensures.told))
        | inr other ↦ c.loop-block.invariant.before d (omega (arith, low, other))
      ];
    }

pub returns-in_err-byte-clause-ends : goal.returns-in_err-byte-clause-ends
returns-in_err-byte-clause-ends g c =
    let s0 = c.args.journal.now in
    let s1 = c.loop-block.journal in
    let s2 = c.dirty_byte.new.journal in
    fails-as c.from_residual.result _ (λ _. SucceedsSettled s0 s2) (λ e. RefusesFirmly e s0 s2) c.from_residual.ensures.1
    (repeated-refuses c.loop-block.block _ s0 s1 s2 c.loop-block.invariant.since c.in_err-byte.ensures.ends)
