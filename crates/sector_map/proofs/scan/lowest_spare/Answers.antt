use Rattle.std.proofs.Common.{◌∙◌, ◌+◌, subst, arith}
use Rattle.sector_slots.specs.Slots.{IsSpareIn}
use Rattle.erase_journal.proofs.Calls.{repeated-more}
use Rattle.erase_journal.specs.Steps.{RefusesFirmly}
use Rattle.nor_driver.proofs.CallLaws.{fails-as}
use Rattle.erase_journal.specs.Steps.{SucceedsSettled}
use Rattle.sector_map.proofs.Moving.{repeated-perhaps}
use Rattle.sector_map.proofs.Retiring.{refuses-perhaps, succeeds-perhaps}
use Rattle.sector_map.proofs.Founds.{seen-not}
use Rattle.sector_map.proofs.scan.lowest_spare.Goals as goal

pub loop-block-preserved : goal.loop-block-preserved
loop-block-preserved g c =
    let m = (g.S.SlotCalls.state c.args.slots.now).memory in
    let here = subst (λ z. IsSpareIn z c.loop-block.block → ⊥) c.loop-block.invariant.same (c.in_ok-is_spare.ensures.not_spare c.if-branch.false) in
    record {
      same = c.is_spare.ensures.same ∙ c.loop-block.invariant.same;
      since = repeated-more c.loop-block.block (c.loop-block.block + 1) (g.S.SlotCalls.state c.args.slots.now) (g.S.SlotCalls.state c.loop-block.slots) (g.S.SlotCalls.state c.is_spare.new.slots) c.loop-block.invariant.since c.in_ok-is_spare.ensures.ends;
      none = λ d low s. seen-not m c.loop-block.block here c.loop-block.invariant.none d (omega (arith, low)) s;
    }

pub returns-in_err-is_spare-clause-ends : goal.returns-in_err-is_spare-clause-ends
returns-in_err-is_spare-clause-ends g c =
    let s0 = g.S.SlotCalls.state c.args.slots.now in
    let s1 = g.S.SlotCalls.state c.loop-block.slots in
    let s2 = g.S.SlotCalls.state c.is_spare.new.slots in
    fails-as c.from_residual.result _ (λ _. SucceedsSettled s0 s2) (λ e. RefusesFirmly e s0 s2) c.from_residual.ensures.1
    (refuses-perhaps _ s0 s1 s2 (repeated-perhaps c.loop-block.block s0 s1 c.loop-block.invariant.since) c.in_err-is_spare.ensures.ends)

pub returns-then-branch-clause-ends : goal.returns-then-branch-clause-ends
returns-then-branch-clause-ends g c =
    let s0 = g.S.SlotCalls.state c.args.slots.now in
    let s1 = g.S.SlotCalls.state c.loop-block.slots in
    succeeds-perhaps s0 s1 (g.S.SlotCalls.state c.is_spare.new.slots) (repeated-perhaps c.loop-block.block s0 s1 c.loop-block.invariant.since) c.in_ok-is_spare.ensures.ends
