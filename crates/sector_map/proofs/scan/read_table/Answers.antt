use Rattle.std.proofs.Common.{◌≡◌, ◌∙◌, ◌+◌, ◌*◌, suc, sym, ap, subst, arith}
use Rattle.std.specs.Prelude.{Some, ◌||◌}
use Rattle.sector_slots.specs.Slots.{slot_at, IsSpareIn}
use Rattle.sector_map.specs.Table.{IsTabled}
use Rattle.erase_journal.proofs.Calls.{repeated-more}
use Rattle.sector_map.proofs.Founds.{SpareSeen, seen-next}
use Rattle.erase_journal.specs.Steps.{RefusesFirmly, SucceedsSettled}
use Rattle.nor_driver.proofs.CallLaws.{fails-as}
use Rattle.erase_journal.proofs.Calls.{repeated-refuses}
use Rattle.sector_map.proofs.scan.read_table.Goals as goal

pub loop-block-preserved : goal.loop-block-preserved
loop-block-preserved g c =
    let m = (g.S.SlotCalls.state c.args.slots.now).memory in
    let b = c.loop-block.block in
    let same = c.loop-block.invariant.same in
    let next : 7 * b + 7 ≡ 7 * (b + 1) = omega arith in
    let one : suc b ≡ b + 1 = omega arith in
    record {
      same = c.read_block.ensures.same ∙ same;
      since = repeated-more b (b + 1) (g.S.SlotCalls.state c.args.slots.now) (g.S.SlotCalls.state c.loop-block.slots) (g.S.SlotCalls.state c.read_block.new.slots) c.loop-block.invariant.since c.in_ok-here.ensures.ends;
      size = c.read_block.ensures.size ∙ c.loop-block.invariant.size;
      tabled = subst (λ k. IsTabled c.read_block.new.table (slot_at m) k) next
          (subst (λ z. IsTabled c.read_block.new.table (slot_at z) (7 * b + 7)) same (c.in_ok-here.ensures.entered c.in-Some.here c.in-Some.is (subst (λ z. IsTabled c.loop-block.table (slot_at z) (7 * b)) (sym same) c.loop-block.invariant.tabled)));
      seen = subst (λ z. SpareSeen z m (b + 1)) (sym c.either-spare.ensures) (subst (λ k. SpareSeen (c.loop-block.spare || c.in-Some.here) m k) one
          (seen-next c.loop-block.spare c.in-Some.here m b c.loop-block.invariant.seen
          (λ e. subst (λ z. IsSpareIn z b) same (c.in_ok-here.ensures.spare (c.in-Some.is ∙ ap (λ z. Some z) e)))
          (λ e s. c.in_ok-here.ensures.not_spare (c.in-Some.is ∙ ap (λ z. Some z) e) (subst (λ z. IsSpareIn z b) (sym same) s))));
    }

pub returns-in_err-here-clause-ends : goal.returns-in_err-here-clause-ends
returns-in_err-here-clause-ends g c =
    let s0 = g.S.SlotCalls.state c.args.slots.now in
    let s1 = g.S.SlotCalls.state c.loop-block.slots in
    let s2 = g.S.SlotCalls.state c.read_block.new.slots in
    fails-as c.from_residual.result _ (λ _. SucceedsSettled s0 s2) (λ e. RefusesFirmly e s0 s2) c.from_residual.ensures.1
    (repeated-refuses c.loop-block.block _ s0 s1 s2 c.loop-block.invariant.since c.in_err-here.ensures.ends)
