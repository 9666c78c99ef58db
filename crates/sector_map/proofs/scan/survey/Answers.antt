use Rattle.std.proofs.Common.{◌≡◌, ◌∙◌, ◌+◌, ◌<◌, suc, sym, ap, subst, arith}
use Rattle.std.specs.Prelude.{Some, None}
use Rattle.sector_slots.specs.Slots.{data_blocks, kind_at, raw_slot}
use Rattle.sector_map.specs.Found.{FoundBelow, noted_where}
use Rattle.erase_journal.proofs.Calls.{repeated-more}
use Rattle.sector_map.proofs.Founds.{found-step, where-fault, allowed-noted, alone-more}
use Rattle.erase_journal.specs.Steps.{RefusesFirmly, SucceedsSettled}
use Rattle.nor_driver.proofs.CallLaws.{fails-as}
use Rattle.erase_journal.proofs.Calls.{repeated-refuses}
use Rattle.sector_map.proofs.scan.survey.Goals as goal

pub returns-in-None-clause-corrupt : goal.returns-in-None-clause-corrupt
returns-in-None-clause-corrupt g c e sound alone =
    let m = (g.S.SlotCalls.state c.args.slots.now).memory in
    let is : c.in_ok-kind.kind ≡ kind_at m c.loop-block.block = c.in_ok-kind.ensures.ok ∙ ap (λ z. kind_at z c.loop-block.block) c.loop-block.invariant.same in
    let none : noted_where c.args.groups c.loop-block.found c.loop-block.block (kind_at m c.loop-block.block) (data_blocks m) ≡ None =
    subst (λ k. noted_where c.args.groups c.loop-block.found c.loop-block.block k (data_blocks m) ≡ None) is (subst (λ n. noted_where c.args.groups c.loop-block.found c.loop-block.block c.in_ok-kind.kind n ≡ None) c.blocks-count.ensures.count (sym c.note_allowed.ensures ∙ c.in-None.is)) in
    let low : c.loop-block.block < data_blocks m = omega (arith, c.loop-block-test.true, c.blocks-count.ensures.count) in
    where-fault c.args.groups c.loop-block.found (kind_at m) (raw_slot m) c.loop-block.block (data_blocks m) none low c.loop-block.invariant.found sound alone

pub loop-block-preserved : goal.loop-block-preserved
loop-block-preserved g c =
    let m = (g.S.SlotCalls.state c.args.slots.now).memory in
    let is : c.in_ok-kind.kind ≡ kind_at m c.loop-block.block = c.in_ok-kind.ensures.ok ∙ ap (λ z. kind_at z c.loop-block.block) c.loop-block.invariant.same in
    let some : noted_where c.args.groups c.loop-block.found c.loop-block.block (kind_at m c.loop-block.block) (data_blocks m) ≡ Some c.in-Some.now =
    subst (λ k. noted_where c.args.groups c.loop-block.found c.loop-block.block k (data_blocks m) ≡ Some c.in-Some.now) is (subst (λ n. noted_where c.args.groups c.loop-block.found c.loop-block.block c.in_ok-kind.kind n ≡ Some c.in-Some.now) c.blocks-count.ensures.count (sym c.note_allowed.ensures ∙ c.in-Some.is)) in
    let next : suc c.loop-block.block ≡ c.loop-block.block + 1 = omega arith in
    record {
      same = c.kind.ensures.same ∙ c.loop-block.invariant.same;
      since = repeated-more c.loop-block.block (c.loop-block.block + 1) (g.S.SlotCalls.state c.args.slots.now) (g.S.SlotCalls.state c.loop-block.slots) (g.S.SlotCalls.state c.kind.new.self) c.loop-block.invariant.since c.in_ok-kind.ensures.ends;
      found = subst (λ k. FoundBelow c.in-Some.now (kind_at m) k (data_blocks m)) next (found-step c.loop-block.found c.in-Some.now (kind_at m) c.loop-block.block (data_blocks m) (allowed-noted c.args.groups c.loop-block.found c.in-Some.now c.loop-block.block (kind_at m c.loop-block.block) (data_blocks m) some) c.loop-block.invariant.found);
      alone = λ none d low. alone-more c.args.groups c.loop-block.found c.in-Some.now (kind_at m) c.loop-block.block (data_blocks m) some c.loop-block.invariant.alone none d (omega (arith, low));
    }

pub returns-in_err-kind-clause-ends : goal.returns-in_err-kind-clause-ends
returns-in_err-kind-clause-ends g c =
    let s0 = g.S.SlotCalls.state c.args.slots.now in
    let s1 = g.S.SlotCalls.state c.loop-block.slots in
    let s2 = g.S.SlotCalls.state c.kind.new.self in
    fails-as c.from_residual.result _ (λ _. SucceedsSettled s0 s2) (λ e. RefusesFirmly e s0 s2) c.from_residual.ensures.1
    (repeated-refuses c.loop-block.block _ s0 s1 s2 c.loop-block.invariant.since c.in_err-kind.ensures.ends)
