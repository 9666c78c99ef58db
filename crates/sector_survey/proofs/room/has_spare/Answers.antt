use Rattle.std.proofs.Common.{◌∙◌, ◌+◌, sym, subst, arith, inl, inr}
use Rattle.std.proofs.lemmas.Bool.{cases_eq}
use Rattle.sector_slots.specs.Slots.{IsSpareIn}
use Rattle.erase_journal.specs.Steps.{RefusesFirmly}
use Rattle.nor_driver.proofs.CallLaws.{fails-as}
use Rattle.erase_journal.specs.Steps.{SucceedsSettled}
use Rattle.erase_journal.proofs.Calls.{repeated-more, repeated-then, repeated-refuses}
use Rattle.sector_survey.proofs.room.has_spare.Goals as goal

pub loop-block-preserved : goal.loop-block-preserved
loop-block-preserved g c =
    let m = (g.S.SlotCalls.state c.args.slots.now).memory in
    let b = c.loop-block.block in
    record {
      same = c.is_spare.ensures.same ∙ c.loop-block.invariant.same;
      since = repeated-more b (b + 1) (g.S.SlotCalls.state c.args.slots.now) (g.S.SlotCalls.state c.loop-block.slots) (g.S.SlotCalls.state c.is_spare.new.slots) c.loop-block.invariant.since c.in_ok-is_spare.ensures.ends;
      none = λ d low s. elim (cases_eq d b) [
        | inl e ↦ c.in_ok-is_spare.ensures.not_spare (cc c.if-branch.false) (subst (λ z. IsSpareIn z b) (sym c.loop-block.invariant.same) (subst (λ z. IsSpareIn m z) e s))
        | inr ne ↦ c.loop-block.invariant.none d (omega (arith, low, ne)) s
      ];
    }

pub returns-in_err-is_spare-clause-ends : goal.returns-in_err-is_spare-clause-ends
returns-in_err-is_spare-clause-ends g c =
    let s0 = g.S.SlotCalls.state c.args.slots.now in
    let s1 = g.S.SlotCalls.state c.loop-block.slots in
    let s2 = g.S.SlotCalls.state c.is_spare.new.slots in
    fails-as c.from_residual.result _ (λ _. SucceedsSettled s0 s2) (λ e. RefusesFirmly e s0 s2) c.from_residual.ensures.1
    (repeated-refuses c.loop-block.block _ s0 s1 s2 c.loop-block.invariant.since c.in_err-is_spare.ensures.ends)

pub returns-then-branch-clause-ends : goal.returns-then-branch-clause-ends
returns-then-branch-clause-ends g c =
    let s0 = g.S.SlotCalls.state c.args.slots.now in
    let s1 = g.S.SlotCalls.state c.loop-block.slots in
    repeated-then c.loop-block.block s0 s1 (g.S.SlotCalls.state c.is_spare.new.slots) c.loop-block.invariant.since c.in_ok-is_spare.ensures.ends
