use Rattle.std.proofs.Common.{◌≡◌, ◌-◌, ◌<◌, sym, subst, ap, ◌∙◌, arith, inr, refl}
use Rattle.chip_model.specs.Geometry.{block_count}
use Rattle.sector_slots.specs.Slots.{data_blocks}
use Rattle.sector_stock.specs.Index.{AreWithin, erases_of}
use Rattle.sector_stock.proofs.Even.{even-more}
use Rattle.std.specs.Prelude.{Err, None, Some, ◌/◌, slice_index_or}
use Rattle.std.proofs.lemmas.Result.{err_from_is_err_and}
use Rattle.erase_journal.specs.Steps.{RefusesFirmly}
use Rattle.nor_driver.proofs.CallLaws.{fails-as, fails-of}
use Rattle.erase_journal.specs.Steps.{SucceedsSettled}
use Rattle.erase_journal.proofs.Firmly.{refuses-firmly}
use Rattle.sector_map.specs.Replace.{HeldBy, IsInSlots}
use Rattle.sector_map.specs.Table.{holder}
use Rattle.sector_map.specs.declared.table.LiveSlots.TheVariants.{Absent}
use Rattle.sector_map.proofs.Retiring.{table-holder, single-tabled}
use Rattle.sector_map.proofs.MapCalls.{served-room, served-converts, served-steps, stays-keeps, same-moved-keeps, stepped, perhaps-after}
use Rattle.sector_map.proofs.Leaving.{own-absent, own-held, own-converted, group-is_live}
use Rattle.sector_map.proofs.KeepLosses.{stock-fails, read-fails, read-stays}
use Rattle.sector_map.proofs.steps.leave_group.Goals as goal

pub returns-in_default-clause-own : goal.returns-in_default-clause-own
returns-in_default-clause-own g c =
    let m = g.S.SlotCalls.state c.args.stock.now in
    let e : holder (slice_index_or c.args.table.now c.args.sector Absent) ≡ None = cc (c.holder.ensures, c.in_default.is) in
    own-absent c.args.sector m.memory (subst (λ o. HeldBy o c.args.sector m.memory) e (table-holder c.args.table.now m.memory c.args.sector c.requires.served.tabled c.requires.number))

pub returns-then-not-is_group-clause-own : goal.returns-then-not-is_group-clause-own
returns-then-not-is_group-clause-own g c =
    let m = g.S.SlotCalls.state c.args.stock.now in
    let e : holder (slice_index_or c.args.table.now c.args.sector Absent) ≡ Some c.in-Some.held = cc (c.holder.ensures, c.in-Some.is) in
    let hold = subst (λ o. HeldBy o c.args.sector m.memory) e (table-holder c.args.table.now m.memory c.args.sector c.requires.served.tabled c.requires.number) in
    own-held c.args.sector c.in-Some.held m.memory c.requires.served.blocks.rest (single-tabled c.args.table.now m.memory c.requires.served.tabled) hold (sym c.is_group.ensures ∙ cc c.if-not-is_group.true)

pub convert-requires-clause-room : goal.convert-requires-clause-room
convert-requires-clause-room g c = served-room c.args.table.now (g.S.SlotCalls.state c.args.stock.now) (g.S.SlotCalls.indexed c.args.stock.now) c.requires.served

pub convert-requires-clause-number : goal.convert-requires-clause-number
convert-requires-clause-number g c =
    let m = g.S.SlotCalls.state c.args.stock.now in
    let e : holder (slice_index_or c.args.table.now c.args.sector Absent) ≡ Some c.in-Some.held = cc (c.holder.ensures, c.in-Some.is) in
    let hold = subst (λ o. HeldBy o c.args.sector m.memory) e (table-holder c.args.table.now m.memory c.args.sector c.requires.served.tabled c.requires.number) in
    let low = hold.1.number in
    omega (arith, low)

pub convert-requires-clause-group : goal.convert-requires-clause-group
convert-requires-clause-group g c = group-is_live (g.S.SlotCalls.state c.args.stock.now).memory (c.in-Some.held.slot / 7) (sym c.is_group.ensures ∙ cc c.if-not-is_group.false)

pub returns-in_err-copied-clause-cut : goal.returns-in_err-copied-clause-cut
returns-in_err-copied-clause-cut g c is =
    let p = err_from_is_err_and c.from_residual.result c.from_residual.ensures.1 in
    stays-keeps (g.S.SlotCalls.state c.args.stock.now).memory (g.S.SlotCalls.state c.convert.new.self).memory (c.in_err-copied.ensures.cut (cc (p.1, p.2))) (c.in_err-copied.ensures.healthy (cc (p.1, p.2))) c.requires.served.store.slots

pub follow_copied-requires-clause-sound : goal.follow_copied-requires-clause-sound
follow_copied-requires-clause-sound g c = (served-steps c.in_ok-copied.copied (g.S.SlotCalls.state c.args.stock.now) (g.S.SlotCalls.indexed c.args.stock.now) (g.S.SlotCalls.state c.convert.new.self).memory c.args.table.now c.requires.served (served-converts c.in_ok-copied.copied (g.S.SlotCalls.state c.args.stock.now) (g.S.SlotCalls.indexed c.args.stock.now) (g.S.SlotCalls.state c.convert.new.self).memory c.args.table.now c.requires.served c.in_ok-copied.ensures.ok)).sound

pub follow_copied-requires-clause-single : goal.follow_copied-requires-clause-single
follow_copied-requires-clause-single g c = (served-steps c.in_ok-copied.copied (g.S.SlotCalls.state c.args.stock.now) (g.S.SlotCalls.indexed c.args.stock.now) (g.S.SlotCalls.state c.convert.new.self).memory c.args.table.now c.requires.served (served-converts c.in_ok-copied.copied (g.S.SlotCalls.state c.args.stock.now) (g.S.SlotCalls.indexed c.args.stock.now) (g.S.SlotCalls.state c.convert.new.self).memory c.args.table.now c.requires.served c.in_ok-copied.ensures.ok)).single

pub returns-in_err-follow_copied-clause-cut : goal.returns-in_err-follow_copied-clause-cut
returns-in_err-follow_copied-clause-cut g c is =
    same-moved-keeps (g.S.SlotCalls.state c.args.stock.now) (g.S.SlotCalls.state c.convert.new.self).memory (g.S.SlotCalls.state c.follow_copied.new.slots).memory (served-steps c.in_ok-copied.copied (g.S.SlotCalls.state c.args.stock.now) (g.S.SlotCalls.indexed c.args.stock.now) (g.S.SlotCalls.state c.convert.new.self).memory c.args.table.now c.requires.served (served-converts c.in_ok-copied.copied (g.S.SlotCalls.state c.args.stock.now) (g.S.SlotCalls.indexed c.args.stock.now) (g.S.SlotCalls.state c.convert.new.self).memory c.args.table.now c.requires.served c.in_ok-copied.ensures.ok)) c.follow_copied.ensures.same c.in_ok-copied.ensures.ends.settled c.requires.served.store.slots

pub returns-clause-ok : goal.returns-clause-ok
returns-clause-ok g c =
    stepped c.in_ok-copied.copied (g.S.SlotCalls.state c.args.stock.now) (g.S.SlotCalls.state c.convert.new.self) (g.S.SlotCalls.state c.follow_copied.new.slots) c.args.table.now c.follow_copied.new.table (g.S.SlotCalls.indexed c.args.stock.now) c.requires.served (served-converts c.in_ok-copied.copied (g.S.SlotCalls.state c.args.stock.now) (g.S.SlotCalls.indexed c.args.stock.now) (g.S.SlotCalls.state c.convert.new.self).memory c.args.table.now c.requires.served c.in_ok-copied.ensures.ok) c.follow_copied.ensures.same c.in_ok-follow_copied.ensures.ok
    (perhaps-after (g.S.SlotCalls.state c.args.stock.now) (g.S.SlotCalls.state c.convert.new.self) (g.S.SlotCalls.state c.follow_copied.new.slots) c.in_ok-copied.ensures.ends c.in_ok-follow_copied.ensures.done) (g.S.SlotCalls.indexed c.follow_copied.new.slots) (c.follow_copied.ensures.index ∙ c.in_ok-copied.ensures.indexed)

pub returns-clause-own : goal.returns-clause-own
returns-clause-own g c =
    let m = g.S.SlotCalls.state c.args.stock.now in
    let e : holder (slice_index_or c.args.table.now c.args.sector Absent) ≡ Some c.in-Some.held = cc (c.holder.ensures, c.in-Some.is) in
    let hold = subst (λ o. HeldBy o c.args.sector m.memory) e (table-holder c.args.table.now m.memory c.args.sector c.requires.served.tabled c.requires.number) in
    subst (λ z. IsInSlots c.args.sector z) (sym c.follow_copied.ensures.same)
    (own-converted c.in_ok-copied.copied c.args.sector c.in-Some.held m.memory (g.S.SlotCalls.state c.convert.new.self).memory (served-converts c.in_ok-copied.copied (g.S.SlotCalls.state c.args.stock.now) (g.S.SlotCalls.indexed c.args.stock.now) (g.S.SlotCalls.state c.convert.new.self).memory c.args.table.now c.requires.served c.in_ok-copied.ensures.ok) (single-tabled c.args.table.now m.memory c.requires.served.tabled) hold c.in_ok-copied.ensures.source)

pub returns-clause-even : goal.returns-clause-even
returns-clause-even g c by =
    let m = (g.S.SlotCalls.state c.args.stock.now).memory in
    let m1 = (g.S.SlotCalls.state c.follow_copied.new.slots).memory in
    let n : data_blocks m1 ≡ data_blocks m = ap (λ a. data_blocks a) c.follow_copied.ensures.same ∙ ap (λ k. block_count k - 4) c.in_ok-copied.ensures.size in
    let e : holder (slice_index_or c.args.table.now c.args.sector Absent) ≡ Some c.in-Some.held = cc (c.holder.ensures, c.in-Some.is) in
    let hold = subst (λ o. HeldBy o c.args.sector m) e (table-holder c.args.table.now m c.args.sector c.requires.served.tabled c.requires.number) in
    let low = hold.1.number in
    let inside : c.in-Some.held.slot / 7 < data_blocks m = omega (arith, low) in
    let old = c.requires.even (sym (c.follow_copied.ensures.policy ∙ c.in_ok-copied.ensures.policy) ∙ by) in
    subst (λ k. AreWithin 31 k (erases_of (g.S.Reclaim.counts c.follow_copied.new.slots))) (sym n)
    (subst (λ b. AreWithin 31 (data_blocks m) (erases_of b)) (sym c.follow_copied.ensures.counted)
    (even-more 30 (c.in-Some.held.slot / 7) (data_blocks m) (erases_of (g.S.Reclaim.counts c.args.stock.now)) (erases_of (g.S.Reclaim.counts c.convert.new.self)) inside old c.in_ok-copied.ensures.counted))

pub returns-in_err-follow_copied-clause-fails : goal.returns-in_err-follow_copied-clause-fails
returns-in_err-follow_copied-clause-fails g c =
    let s0 = g.S.SlotCalls.state c.args.stock.now in
    let s1 = g.S.SlotCalls.state c.convert.new.self in
    let s2 = g.S.SlotCalls.state c.follow_copied.new.slots in
    fails-of c.from_residual-in_err-follow_copied.result (SucceedsSettled s0 s2) (λ e. RefusesFirmly e s0 s2) (fails-as c.from_residual-in_err-follow_copied.result _ (λ _. SucceedsSettled s0 s2) (λ e. RefusesFirmly e s0 s2) c.from_residual-in_err-follow_copied.ensures.1
    (refuses-firmly _ s0 s1 s2 c.in_ok-copied.ensures.ends c.in_err-follow_copied.ensures.fails))

pub returns-clause-done : goal.returns-clause-done
returns-clause-done g c =
    let s0 = g.S.SlotCalls.state c.args.stock.now in
    let s1 = g.S.SlotCalls.state c.convert.new.self in
    let s2 = g.S.SlotCalls.state c.follow_copied.new.slots in
    inr (perhaps-after s0 s1 s2 c.in_ok-copied.ensures.ends c.in_ok-follow_copied.ensures.done)

pub returns-in_err-copied-clause-firmly : goal.returns-in_err-copied-clause-firmly
returns-in_err-copied-clause-firmly g c = stock-fails c.from_residual.result _ (g.S.SlotCalls.state c.args.stock.now) (g.S.SlotCalls.state c.convert.new.self) (g.S.Reclaim.counts c.args.stock.now) (g.S.Reclaim.counts c.convert.new.self) c.from_residual.ensures.1 c.requires.served.store.slots (λ is disk. c.in_err-copied.ensures.cut_bits (ap Err is) disk)

pub returns-in_err-follow_copied-clause-firmly : goal.returns-in_err-follow_copied-clause-firmly
returns-in_err-follow_copied-clause-firmly g c =
    let s = c.requires.served in
    let moved = served-steps c.in_ok-copied.copied (g.S.SlotCalls.state c.args.stock.now) (g.S.SlotCalls.indexed c.args.stock.now) (g.S.SlotCalls.state c.convert.new.self).memory c.args.table.now s (served-converts c.in_ok-copied.copied (g.S.SlotCalls.state c.args.stock.now) (g.S.SlotCalls.indexed c.args.stock.now) (g.S.SlotCalls.state c.convert.new.self).memory c.args.table.now s c.in_ok-copied.ensures.ok) in
    let keeps = same-moved-keeps (g.S.SlotCalls.state c.args.stock.now) (g.S.SlotCalls.state c.convert.new.self).memory (g.S.SlotCalls.state c.convert.new.self).memory moved refl c.in_ok-copied.ensures.ends.settled s.store.slots in
    read-fails c.from_residual-in_err-follow_copied.result (g.S.SlotCalls.state c.args.stock.now) (g.S.SlotCalls.state c.convert.new.self) (g.S.SlotCalls.state c.follow_copied.new.slots) (g.S.Reclaim.counts c.args.stock.now) (g.S.Reclaim.counts c.convert.new.self) (g.S.Reclaim.counts c.follow_copied.new.slots) _ c.from_residual-in_err-follow_copied.ensures.1
    (λ h. c.in_ok-copied.ensures.disk h) moved.blocks keeps c.follow_copied.ensures.same c.follow_copied.ensures.weak

pub returns-clause-firmly : goal.returns-clause-firmly
returns-clause-firmly g c h = read-stays (g.S.SlotCalls.state c.convert.new.self) (g.S.SlotCalls.state c.follow_copied.new.slots) (g.S.Reclaim.counts c.convert.new.self) (g.S.Reclaim.counts c.follow_copied.new.slots) c.follow_copied.ensures.same c.follow_copied.ensures.weak c.follow_copied.ensures.counted (c.in_ok-copied.ensures.disk h)
