use Rattle.std.proofs.Common.{◌<◌, ◌-◌, ℕ, List, Option, sym, subst, inl, arith}
use Rattle.std.specs.Prelude.{IfSome}
use Rattle.chip_model.specs.Geometry.{block_count}
use Rattle.sector_slots.specs.Slots.{data_blocks}
use Rattle.sector_stock.specs.declared.given.Copied.{Copied}
use Rattle.sector_stock.specs.Takes.{Takes, was_free, was_copied}
use Rattle.std.proofs.lemmas.Result.{err_from_is_err_and}
use Rattle.erase_journal.specs.Steps.{RefusesFirmly}
use Rattle.erase_journal.proofs.SettledLaws.{settled-healthy, settled-after}
use Rattle.erase_journal.proofs.Firmly.{refuses-firmly}
use Rattle.sector_map.proofs.Retiring.{succeeds-perhaps, refuses-perhaps}
use Rattle.sector_map.proofs.Mounting.{perhaps-healthy}
use Rattle.sector_map.proofs.MapCalls.{served-room, stays-keeps, served-moved, same-moved-keeps, at-slot, slot-held, slot-replaceable, held-number, write-cut, wrote}
use Rattle.erase_journal.specs.Steps.{EndsFirmly}
use Rattle.std.proofs.Common.{ap, length, refl}
use Rattle.std.specs.Prelude.{Err}
use Rattle.nor_driver.specs.State.{bits_in}
use Rattle.sector_stock.specs.Losses.{IsFirmDiskIn}
use Rattle.sector_map.specs.Replace.{tag_after}
use Rattle.sector_map.proofs.KeepLosses.{loses-keeps, read-cut, read-stays, sets-as, sets-later}
use Rattle.sector_map.specs.Losses.{before_it}
use Rattle.sector_map.proofs.SetLosses.{takes-later, takes-sector}
use Rattle.sector_map.proofs.steps.write_ungrouped.Goals as goal

-- the block into which one was copied is one of the data blocks
takes-target : (w : ℕ) (o : Option Copied) (m b : List ℕ) → Takes w o m b → IfSome o (λ c. c.target < data_blocks b)
takes-target w o m b (was_free n e low) = subst (λ x. IfSome x (λ c. c.target < data_blocks b)) (sym n) tt
takes-target w o m b (was_copied c is full h low) = subst (λ x. IfSome x (λ d. d.target < data_blocks b)) (sym is) (subst (λ n. c.target < block_count n - 4) (sym h.shifts.chip.same_length) h.target.number)

pub follow_copied-requires-clause-number : goal.follow_copied-requires-clause-number
follow_copied-requires-clause-number g c = takes-target c.in_ok-given.given.slot c.in_ok-given.given.copied (g.S.SlotCalls.state c.args.stock.now).memory (g.S.SlotCalls.state c.take_free.new.self).memory c.in_ok-given.ensures.ok

pub take_free-requires-clause-room : goal.take_free-requires-clause-room
take_free-requires-clause-room g c = served-room c.args.table.now (g.S.SlotCalls.state c.args.stock.now) (g.S.SlotCalls.indexed c.args.stock.now) c.requires.served

pub returns-in_err-given-clause-cut : goal.returns-in_err-given-clause-cut
returns-in_err-given-clause-cut g c is =
    let p = err_from_is_err_and c.from_residual.result c.from_residual.ensures.1 in
    let s = c.requires.served in
    inl (stays-keeps (g.S.SlotCalls.state c.args.stock.now).memory (g.S.SlotCalls.state c.take_free.new.self).memory (c.in_err-given.ensures.cut (cc (p.1, p.2))) (c.in_err-given.ensures.healthy (cc (p.1, p.2))) s.store.slots)

pub follow_copied-requires-clause-sound : goal.follow_copied-requires-clause-sound
follow_copied-requires-clause-sound g c = (served-moved c.in_ok-given.given.slot c.in_ok-given.given.copied (g.S.SlotCalls.state c.args.stock.now) (g.S.SlotCalls.indexed c.args.stock.now) (g.S.SlotCalls.state c.take_free.new.self).memory c.args.table.now c.requires.served c.in_ok-given.ensures.ok).sound

pub follow_copied-requires-clause-single : goal.follow_copied-requires-clause-single
follow_copied-requires-clause-single g c = (served-moved c.in_ok-given.given.slot c.in_ok-given.given.copied (g.S.SlotCalls.state c.args.stock.now) (g.S.SlotCalls.indexed c.args.stock.now) (g.S.SlotCalls.state c.take_free.new.self).memory c.args.table.now c.requires.served c.in_ok-given.ensures.ok).single

pub follow_copied-requires-clause-blocks : goal.follow_copied-requires-clause-blocks
follow_copied-requires-clause-blocks g c = (served-moved c.in_ok-given.given.slot c.in_ok-given.given.copied (g.S.SlotCalls.state c.args.stock.now) (g.S.SlotCalls.indexed c.args.stock.now) (g.S.SlotCalls.state c.take_free.new.self).memory c.args.table.now c.requires.served c.in_ok-given.ensures.ok).blocks

pub returns-in_err-follow_copied-clause-cut : goal.returns-in_err-follow_copied-clause-cut
returns-in_err-follow_copied-clause-cut g c is =
    inl (same-moved-keeps (g.S.SlotCalls.state c.args.stock.now) (g.S.SlotCalls.state c.take_free.new.self).memory (g.S.SlotCalls.state c.follow_copied.new.slots).memory (served-moved c.in_ok-given.given.slot c.in_ok-given.given.copied (g.S.SlotCalls.state c.args.stock.now) (g.S.SlotCalls.indexed c.args.stock.now) (g.S.SlotCalls.state c.take_free.new.self).memory c.args.table.now c.requires.served c.in_ok-given.ensures.ok) c.follow_copied.ensures.same c.in_ok-given.ensures.ends.settled c.requires.served.store.slots)

pub rewrite-requires-clause-holder : goal.rewrite-requires-clause-holder
rewrite-requires-clause-holder g c =
    let at = at-slot c.in_ok-given.given.slot c.in_ok-given.given.copied (g.S.SlotCalls.state c.args.stock.now) (g.S.SlotCalls.indexed c.args.stock.now) (g.S.SlotCalls.state c.take_free.new.self).memory (g.S.SlotCalls.state c.follow_copied.new.slots).memory c.args.table.now c.follow_copied.new.table c.requires.served c.in_ok-given.ensures.ok c.follow_copied.ensures.same c.in_ok-follow_copied.ensures.ok in
    held-number c.holder-holder.result c.args.sector (g.S.SlotCalls.state c.follow_copied.new.slots).memory (slot-held c.in_ok-given.given.slot c.args.sector c.follow_copied.new.table (g.S.SlotCalls.state c.args.stock.now).memory (g.S.SlotCalls.state c.follow_copied.new.slots).memory c.holder-holder.result at (omega (arith, c.requires.number, c.follow_copied.ensures.size)) c.holder-holder.ensures)

pub rewrite-requires-clause-number : goal.rewrite-requires-clause-number
rewrite-requires-clause-number g c = (at-slot c.in_ok-given.given.slot c.in_ok-given.given.copied (g.S.SlotCalls.state c.args.stock.now) (g.S.SlotCalls.indexed c.args.stock.now) (g.S.SlotCalls.state c.take_free.new.self).memory (g.S.SlotCalls.state c.follow_copied.new.slots).memory c.args.table.now c.follow_copied.new.table c.requires.served c.in_ok-given.ensures.ok c.follow_copied.ensures.same c.in_ok-follow_copied.ensures.ok).low.number

pub rewrite-requires-clause-replaceable : goal.rewrite-requires-clause-replaceable
rewrite-requires-clause-replaceable g c ready =
    let at = at-slot c.in_ok-given.given.slot c.in_ok-given.given.copied (g.S.SlotCalls.state c.args.stock.now) (g.S.SlotCalls.indexed c.args.stock.now) (g.S.SlotCalls.state c.take_free.new.self).memory (g.S.SlotCalls.state c.follow_copied.new.slots).memory c.args.table.now c.follow_copied.new.table c.requires.served c.in_ok-given.ensures.ok c.follow_copied.ensures.same c.in_ok-follow_copied.ensures.ok in
    slot-replaceable c.in_ok-given.given.slot c.args.sector c.follow_copied.new.table (g.S.SlotCalls.state c.args.stock.now).memory (g.S.SlotCalls.state c.follow_copied.new.slots).memory c.holder-holder.result at c.requires.own (omega (arith, c.requires.number, c.follow_copied.ensures.size)) c.holder-holder.ensures

pub returns-in_err-held-clause-cut : goal.returns-in_err-held-clause-cut
returns-in_err-held-clause-cut g c is =
    let p = err_from_is_err_and c.from_residual-in_err-held.result c.from_residual-in_err-held.ensures.1 in
    let at = at-slot c.in_ok-given.given.slot c.in_ok-given.given.copied (g.S.SlotCalls.state c.args.stock.now) (g.S.SlotCalls.indexed c.args.stock.now) (g.S.SlotCalls.state c.take_free.new.self).memory (g.S.SlotCalls.state c.follow_copied.new.slots).memory c.args.table.now c.follow_copied.new.table c.requires.served c.in_ok-given.ensures.ok c.follow_copied.ensures.same c.in_ok-follow_copied.ensures.ok in
    let replaceable = slot-replaceable c.in_ok-given.given.slot c.args.sector c.follow_copied.new.table (g.S.SlotCalls.state c.args.stock.now).memory (g.S.SlotCalls.state c.follow_copied.new.slots).memory c.holder-holder.result at c.requires.own (omega (arith, c.requires.number, c.follow_copied.ensures.size)) c.holder-holder.ensures in
    let healthy = perhaps-healthy (g.S.SlotCalls.state c.take_free.new.self) (g.S.SlotCalls.state c.follow_copied.new.slots) c.in_ok-follow_copied.ensures.done (settled-healthy (g.S.SlotCalls.state c.take_free.new.self).memory c.in_ok-given.ensures.ends.settled) in
    write-cut c.args.sector c.args.content.now (g.S.SlotCalls.state c.args.stock.now).memory (g.S.SlotCalls.state c.follow_copied.new.slots).memory (g.S.SlotCalls.state c.rewrite.new.stock).memory at.moved (c.in_err-held.ensures.cut (cc (p.1, p.2)) replaceable) (c.in_err-held.ensures.healthy (cc (p.1, p.2)) healthy) c.requires.served.store.slots
    (omega (arith, c.requires.number, c.requires.served.tabled.size))

pub returns-in_err-held-clause-ends : goal.returns-in_err-held-clause-ends
returns-in_err-held-clause-ends g c =
    let p = err_from_is_err_and c.from_residual-in_err-held.result c.from_residual-in_err-held.ensures.1 in
    subst (λ z. EndsFirmly z (g.S.SlotCalls.state c.args.stock.now) (g.S.SlotCalls.state c.rewrite.new.stock)) (sym p.1)
    (refuses-firmly p.0 (g.S.SlotCalls.state c.args.stock.now) (g.S.SlotCalls.state c.take_free.new.self) (g.S.SlotCalls.state c.rewrite.new.stock) c.in_ok-given.ensures.ends (refuses-perhaps p.0 (g.S.SlotCalls.state c.take_free.new.self) (g.S.SlotCalls.state c.follow_copied.new.slots) (g.S.SlotCalls.state c.rewrite.new.stock) c.in_ok-follow_copied.ensures.done (subst (λ e. RefusesFirmly e (g.S.SlotCalls.state c.follow_copied.new.slots) (g.S.SlotCalls.state c.rewrite.new.stock)) (sym p.2) c.in_err-held.ensures.ends)))

pub returns-clause-ends : goal.returns-clause-ends
returns-clause-ends g c = settled-after (g.S.SlotCalls.state c.args.stock.now) (g.S.SlotCalls.state c.take_free.new.self) (g.S.SlotCalls.state c.rewrite.new.stock) c.in_ok-given.ensures.ends (succeeds-perhaps (g.S.SlotCalls.state c.take_free.new.self) (g.S.SlotCalls.state c.follow_copied.new.slots) (g.S.SlotCalls.state c.rewrite.new.stock) c.in_ok-follow_copied.ensures.done c.in_ok-held.ensures.ends)

pub returns-clause-ok : goal.returns-clause-ok
returns-clause-ok g c =
    let at = at-slot c.in_ok-given.given.slot c.in_ok-given.given.copied (g.S.SlotCalls.state c.args.stock.now) (g.S.SlotCalls.indexed c.args.stock.now) (g.S.SlotCalls.state c.take_free.new.self).memory (g.S.SlotCalls.state c.follow_copied.new.slots).memory c.args.table.now c.follow_copied.new.table c.requires.served c.in_ok-given.ensures.ok c.follow_copied.ensures.same c.in_ok-follow_copied.ensures.ok in
    let replaceable = slot-replaceable c.in_ok-given.given.slot c.args.sector c.follow_copied.new.table (g.S.SlotCalls.state c.args.stock.now).memory (g.S.SlotCalls.state c.follow_copied.new.slots).memory c.holder-holder.result at c.requires.own (omega (arith, c.requires.number, c.follow_copied.ensures.size)) c.holder-holder.ensures in
    let done = settled-after (g.S.SlotCalls.state c.args.stock.now) (g.S.SlotCalls.state c.take_free.new.self) (g.S.SlotCalls.state c.rewrite.new.stock) c.in_ok-given.ensures.ends (succeeds-perhaps (g.S.SlotCalls.state c.take_free.new.self) (g.S.SlotCalls.state c.follow_copied.new.slots) (g.S.SlotCalls.state c.rewrite.new.stock) c.in_ok-follow_copied.ensures.done c.in_ok-held.ensures.ends) in
    wrote c.args.sector c.args.content.now c.in_ok-held.held (g.S.SlotCalls.state c.args.stock.now) (g.S.SlotCalls.state c.follow_copied.new.slots) (g.S.SlotCalls.state c.rewrite.new.stock) c.follow_copied.new.table c.keep_one.new.table (g.S.SlotCalls.indexed c.rewrite.new.stock) at.moved (c.in_ok-held.ensures.ok replaceable) done c.requires.served.store.slots
    (omega (arith, c.requires.number, c.requires.served.tabled.size)) at.tabled c.keep_one.ensures c.requires.served.ready c.in_ok-held.ensures.indexed

pub returns-in_err-follow_copied-clause-ends : goal.returns-in_err-follow_copied-clause-ends
returns-in_err-follow_copied-clause-ends g c =
    let p = err_from_is_err_and c.from_residual-in_err-follow_copied.result c.from_residual-in_err-follow_copied.ensures.1 in
    subst (λ z. EndsFirmly z (g.S.SlotCalls.state c.args.stock.now) (g.S.SlotCalls.state c.follow_copied.new.slots)) (sym p.1)
    (refuses-firmly p.0 (g.S.SlotCalls.state c.args.stock.now) (g.S.SlotCalls.state c.take_free.new.self) (g.S.SlotCalls.state c.follow_copied.new.slots) c.in_ok-given.ensures.ends
    (subst (λ e. RefusesFirmly e (g.S.SlotCalls.state c.take_free.new.self) (g.S.SlotCalls.state c.follow_copied.new.slots)) (sym p.2) c.in_err-follow_copied.ensures.fails))

pub returns-in_err-given-clause-firmly : goal.returns-in_err-given-clause-firmly
returns-in_err-given-clause-firmly g c gives trusts =
    let a = g.S.SlotCalls.state c.args.stock.now in
    let b = g.S.SlotCalls.state c.take_free.new.self in
    sets-as c.args.sector c.args.content.now c.from_residual.result _ a b (g.S.Reclaim.counts c.args.stock.now) (g.S.Reclaim.counts c.take_free.new.self) c.from_residual.ensures.1
    (λ h cut. before_it (loses-keeps a.memory (bits_in b) c.requires.served.store.slots (c.in_err-given.ensures.cut_bits (ap Err cut) h)))

pub returns-in_err-follow_copied-clause-firmly : goal.returns-in_err-follow_copied-clause-firmly
returns-in_err-follow_copied-clause-firmly g c gives trusts =
    let a = g.S.SlotCalls.state c.args.stock.now in
    let b = g.S.SlotCalls.state c.take_free.new.self in
    let d = g.S.SlotCalls.state c.follow_copied.new.slots in
    let moved = served-moved c.in_ok-given.given.slot c.in_ok-given.given.copied a (g.S.SlotCalls.indexed c.args.stock.now) b.memory c.args.table.now c.requires.served c.in_ok-given.ensures.ok in
    let keeps = same-moved-keeps a b.memory b.memory moved refl c.in_ok-given.ensures.ends.settled c.requires.served.store.slots in
    sets-as c.args.sector c.args.content.now c.from_residual-in_err-follow_copied.result _ a d (g.S.Reclaim.counts c.args.stock.now) (g.S.Reclaim.counts c.follow_copied.new.slots) c.from_residual-in_err-follow_copied.ensures.1
    (λ h cut. before_it (read-cut a.memory b d (g.S.Reclaim.counts c.take_free.new.self) (c.in_ok-given.ensures.disk h) moved.blocks keeps c.follow_copied.ensures.same c.follow_copied.ensures.weak))

pub returns-in_err-held-clause-firmly : goal.returns-in_err-held-clause-firmly
returns-in_err-held-clause-firmly g c gives trusts =
    let a = g.S.SlotCalls.state c.args.stock.now in
    let b = g.S.SlotCalls.state c.take_free.new.self in
    let d = g.S.SlotCalls.state c.follow_copied.new.slots in
    let p = g.S.Reclaim.counts c.args.stock.now in
    let q = g.S.Reclaim.counts c.take_free.new.self in
    let s = g.S.Reclaim.counts c.follow_copied.new.slots in
    let i = g.S.SlotCalls.indexed c.args.stock.now in
    let w = c.in_ok-given.given.slot in
    let f = c.follow_copied.ensures in
    let here = at-slot w c.in_ok-given.given.copied a i b.memory b.memory c.args.table.now c.follow_copied.new.table c.requires.served c.in_ok-given.ensures.ok refl c.in_ok-follow_copied.ensures.ok in
    let at = at-slot w c.in_ok-given.given.copied a i b.memory d.memory c.args.table.now c.follow_copied.new.table c.requires.served c.in_ok-given.ensures.ok f.same c.in_ok-follow_copied.ensures.ok in
    let low : c.args.sector < length c.follow_copied.new.table = omega (arith, c.requires.number, f.size) in
    let was = slot-replaceable w c.args.sector c.follow_copied.new.table a.memory b.memory c.holder-holder.result here c.requires.own low c.holder-holder.ensures in
    let r = slot-replaceable w c.args.sector c.follow_copied.new.table a.memory d.memory c.holder-holder.result at c.requires.own low c.holder-holder.ensures in
    let takes = λ (h : IsFirmDiskIn (bits_in a) p). takes-later w (tag_after c.args.sector c.holder-holder.result) b d q s f.same f.weak f.counted
    (takes-sector w c.args.sector c.holder-holder.result (bits_in b) q was here.low.number c.in_ok-given.ensures.first (c.in_ok-given.ensures.trusted gives) (c.in_ok-given.ensures.spare gives trusts h)) in
    let e = g.S.SlotCalls.state c.rewrite.new.stock in
    let keeps = same-moved-keeps a b.memory d.memory here.moved f.same c.in_ok-given.ensures.ends.settled c.requires.served.store.slots in
    sets-as c.args.sector c.args.content.now c.from_residual-in_err-held.result _ a e p (g.S.Reclaim.counts c.rewrite.new.stock) c.from_residual-in_err-held.ensures.1
    (λ h cut. sets-later c.args.sector c.args.content.now a.memory d.memory (bits_in e) keeps (c.in_err-held.ensures.firmly r (takes h) (read-stays b d q s f.same f.weak f.counted (c.in_ok-given.ensures.disk h)) cut))

pub returns-clause-firmly : goal.returns-clause-firmly
returns-clause-firmly g c gives trusts h =
    let a = g.S.SlotCalls.state c.args.stock.now in
    let b = g.S.SlotCalls.state c.take_free.new.self in
    let d = g.S.SlotCalls.state c.follow_copied.new.slots in
    let p = g.S.Reclaim.counts c.args.stock.now in
    let q = g.S.Reclaim.counts c.take_free.new.self in
    let s = g.S.Reclaim.counts c.follow_copied.new.slots in
    let i = g.S.SlotCalls.indexed c.args.stock.now in
    let w = c.in_ok-given.given.slot in
    let f = c.follow_copied.ensures in
    let here = at-slot w c.in_ok-given.given.copied a i b.memory b.memory c.args.table.now c.follow_copied.new.table c.requires.served c.in_ok-given.ensures.ok refl c.in_ok-follow_copied.ensures.ok in
    let at = at-slot w c.in_ok-given.given.copied a i b.memory d.memory c.args.table.now c.follow_copied.new.table c.requires.served c.in_ok-given.ensures.ok f.same c.in_ok-follow_copied.ensures.ok in
    let low : c.args.sector < length c.follow_copied.new.table = omega (arith, c.requires.number, f.size) in
    let was = slot-replaceable w c.args.sector c.follow_copied.new.table a.memory b.memory c.holder-holder.result here c.requires.own low c.holder-holder.ensures in
    let r = slot-replaceable w c.args.sector c.follow_copied.new.table a.memory d.memory c.holder-holder.result at c.requires.own low c.holder-holder.ensures in
    let takes = λ (h : IsFirmDiskIn (bits_in a) p). takes-later w (tag_after c.args.sector c.holder-holder.result) b d q s f.same f.weak f.counted
    (takes-sector w c.args.sector c.holder-holder.result (bits_in b) q was here.low.number c.in_ok-given.ensures.first (c.in_ok-given.ensures.trusted gives) (c.in_ok-given.ensures.spare gives trusts h)) in
    c.in_ok-held.ensures.firmly r (takes h) (read-stays b d q s f.same f.weak f.counted (c.in_ok-given.ensures.disk h))
