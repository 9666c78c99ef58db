use Rattle.std.proofs.Common.{◌≡◌, ◌∙◌, ◌+◌, ◌<◌, suc, ap, subst, arith}
use Rattle.std.specs.Prelude.{Some}
use Rattle.sector_slots.specs.Slots.{data_blocks, kind_at}
use Rattle.sector_map.specs.Found.{FoundBelow, noted_where}
use Rattle.erase_journal.proofs.Calls.{repeated-more}
use Rattle.sector_map.proofs.Founds.{found-step, allowed-noted, alone-more}
use Rattle.sector_survey.specs.Steps.{IsKindFault}
use Rattle.sector_survey.proofs.Faults.{kind-explains}
use Rattle.erase_journal.specs.Steps.{RefusesFirmly, SucceedsSettled}
use Rattle.nor_driver.proofs.CallLaws.{fails-as}
use Rattle.erase_journal.proofs.Calls.{repeated-refuses}
use Rattle.sector_survey.proofs.blocks.read_kinds.Goals as goal

pub returns-in-Err-clause-fault : goal.returns-in-Err-clause-fault
returns-in-Err-clause-fault g c =
    let m = (g.S.SlotCalls.state c.args.slots.now).memory in
    let is : c.in_ok-kind.kind ≡ kind_at m c.loop-block.block = c.in_ok-kind.ensures.ok ∙ ap (λ z. kind_at z c.loop-block.block) c.loop-block.invariant.same in
    let fault : IsKindFault c.in-Err.fault c.args.groups c.loop-block.found c.loop-block.block (kind_at m c.loop-block.block) (data_blocks m) =
    subst (λ k. IsKindFault c.in-Err.fault c.args.groups c.loop-block.found c.loop-block.block k (data_blocks m)) is (subst (λ n. IsKindFault c.in-Err.fault c.args.groups c.loop-block.found c.loop-block.block c.in_ok-kind.kind n) c.blocks-count.ensures.count c.in-Err.ensures.fault) in
    let low : c.loop-block.block < data_blocks m = omega (arith, c.loop-block-test.true, c.blocks-count.ensures.count) in
    kind-explains c.in-Err.fault c.args.groups c.loop-block.found m c.loop-block.block fault low c.loop-block.invariant.found c.requires.groups

pub loop-block-preserved : goal.loop-block-preserved
loop-block-preserved g c =
    let m = (g.S.SlotCalls.state c.args.slots.now).memory in
    let is : c.in_ok-kind.kind ≡ kind_at m c.loop-block.block = c.in_ok-kind.ensures.ok ∙ ap (λ z. kind_at z c.loop-block.block) c.loop-block.invariant.same in
    let some : noted_where c.args.groups c.loop-block.found c.loop-block.block (kind_at m c.loop-block.block) (data_blocks m) ≡ Some c.in-Ok.now =
    subst (λ k. noted_where c.args.groups c.loop-block.found c.loop-block.block k (data_blocks m) ≡ Some c.in-Ok.now) is (subst (λ n. noted_where c.args.groups c.loop-block.found c.loop-block.block c.in_ok-kind.kind n ≡ Some c.in-Ok.now) c.blocks-count.ensures.count c.in-Ok.ensures.ok) in
    let next : suc c.loop-block.block ≡ c.loop-block.block + 1 = omega arith in
    record {
      same = c.kind.ensures.same ∙ c.loop-block.invariant.same;
      since = repeated-more c.loop-block.block (c.loop-block.block + 1) (g.S.SlotCalls.state c.args.slots.now) (g.S.SlotCalls.state c.loop-block.slots) (g.S.SlotCalls.state c.kind.new.self) c.loop-block.invariant.since c.in_ok-kind.ensures.ends;
      found = subst (λ k. FoundBelow c.in-Ok.now (kind_at m) k (data_blocks m)) next (found-step c.loop-block.found c.in-Ok.now (kind_at m) c.loop-block.block (data_blocks m) (allowed-noted c.args.groups c.loop-block.found c.in-Ok.now c.loop-block.block (kind_at m c.loop-block.block) (data_blocks m) some) c.loop-block.invariant.found);
      alone = λ none d low. alone-more c.args.groups c.loop-block.found c.in-Ok.now (kind_at m) c.loop-block.block (data_blocks m) some c.loop-block.invariant.alone none d (omega (arith, low));
    }

pub returns-in_err-kind-clause-ends : goal.returns-in_err-kind-clause-ends
returns-in_err-kind-clause-ends g c =
    let s0 = g.S.SlotCalls.state c.args.slots.now in
    let s1 = g.S.SlotCalls.state c.loop-block.slots in
    let s2 = g.S.SlotCalls.state c.kind.new.self in
    fails-as c.from_residual.result _ (λ _. SucceedsSettled s0 s2) (λ e. RefusesFirmly e s0 s2) c.from_residual.ensures.1
    (repeated-refuses c.loop-block.block _ s0 s1 s2 c.loop-block.invariant.since c.in_err-kind.ensures.ends)
