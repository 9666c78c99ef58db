use Rattle.std.proofs.Common.{refl}
use Rattle.std.proofs.lemmas.Result.{err_from_is_err_and}
use Rattle.journal_slots.proofs.Slots.{free-inside, fresh-slot, place-only, put-live, put-clean, put-left, put-left_clean, put-holds, put-may_hold}
use Rattle.sector_slots.specs.Slots.{Free}
use Rattle.sector_slots.proofs.SlotLaws.{counted-raw}
use Rattle.journal_slots.proofs.store.SectorSlotsSlotCalls.put.Goals as goal

pub returns-in_err-write_slot-clause-cut : goal.returns-in_err-write_slot-clause-cut
returns-in_err-write_slot-clause-cut g c = rw (← c.self.view_is) (λ is h. (
    let p = err_from_is_err_and c.from_residual.result c.from_residual.ensures.1 in
    let m = c.self.inside.journal.memory in
    let m' = c.write_slot.new.journal.memory in
    put-left c.args.slot c.args.tag c.args.content.now m m' (rw (← c.self.view_is) at c.requires.number) (place-only c.args.slot m m' c.in_err-write_slot.ensures.only (c.in_err-write_slot.ensures.cut_within (cc (p.1, p.2)))) h
    (c.in_err-write_slot.ensures.cut (cc (p.1, p.2)) (fresh-slot c.args.slot m (rw (← c.self.view_is) at c.requires.number) h).free)))

pub returns-in_err-write_slot-clause-cut_clean : goal.returns-in_err-write_slot-clause-cut_clean
returns-in_err-write_slot-clause-cut_clean g c = rw (← c.self.view_is) (λ is h. (
    let p = err_from_is_err_and c.from_residual.result c.from_residual.ensures.1 in
    let m = c.self.inside.journal.memory in
    let m' = c.write_slot.new.journal.memory in
    put-left_clean c.args.slot c.args.tag c.args.content.now m m' (rw (← c.self.view_is) at c.requires.number) c.in_err-write_slot.ensures.only (c.in_err-write_slot.ensures.cut_within (cc (p.1, p.2))) h.1
    (c.in_err-write_slot.ensures.cut (cc (p.1, p.2)) (fresh-slot c.args.slot m (rw (← c.self.view_is) at c.requires.number) h).free)))

pub returns-in_err-write_slot-clause-cut_only : goal.returns-in_err-write_slot-clause-cut_only
returns-in_err-write_slot-clause-cut_only g c = rw (← c.self.view_is) (λ is. (
    let p = err_from_is_err_and c.from_residual.result c.from_residual.ensures.1 in
    place-only c.args.slot c.self.inside.journal.memory c.write_slot.new.journal.memory c.in_err-write_slot.ensures.only (c.in_err-write_slot.ensures.cut_within (cc (p.1, p.2)))))

pub returns-in_err-write_slot-clause-cut_live : goal.returns-in_err-write_slot-clause-cut_live
returns-in_err-write_slot-clause-cut_live g c = rw (← c.self.view_is) (λ is free. (
    let p = err_from_is_err_and c.from_residual.result c.from_residual.ensures.1 in
    let m = c.self.inside.journal.memory in
    let m' = c.write_slot.new.journal.memory in
    put-may_hold c.args.slot c.args.tag c.args.content.now m m' (rw (← c.self.view_is) at c.requires.number) (place-only c.args.slot m m' c.in_err-write_slot.ensures.only (c.in_err-write_slot.ensures.cut_within (cc (p.1, p.2)))) free
    (c.in_err-write_slot.ensures.cut (cc (p.1, p.2)) (counted-raw m c.args.slot Free free (free-inside Free refl)))))

pub returns-clause-live : goal.returns-clause-live
returns-clause-live g c = rw (← c.self.view_is) (λ free. (
    let m = c.self.inside.journal.memory in
    let m' = c.write_slot.new.journal.memory in
    put-holds c.args.slot c.args.tag m m' (rw (← c.self.view_is) at c.requires.number) (place-only c.args.slot m m' c.in_ok-write_slot.ensures.only c.in_ok-write_slot.ensures.within) free
    (c.in_ok-write_slot.ensures.live (counted-raw m c.args.slot Free free (free-inside Free refl)))))

pub returns-clause-ok : goal.returns-clause-ok
returns-clause-ok g c = rw (← c.self.view_is) (λ h. (
    let m = c.self.inside.journal.memory in
    let m' = c.write_slot.new.journal.memory in
    put-live c.args.slot c.args.tag c.args.content.now m m' (rw (← c.self.view_is) at c.requires.number) (place-only c.args.slot m m' c.in_ok-write_slot.ensures.only c.in_ok-write_slot.ensures.within) h.0
    (c.in_ok-write_slot.ensures.ok (fresh-slot c.args.slot m (rw (← c.self.view_is) at c.requires.number) h))))

pub returns-clause-clean : goal.returns-clause-clean
returns-clause-clean g c = rw (← c.self.view_is) (λ h. (
    let m = c.self.inside.journal.memory in
    put-clean c.args.slot c.args.tag c.args.content.now m c.write_slot.new.journal.memory (rw (← c.self.view_is) at c.requires.number) c.in_ok-write_slot.ensures.only c.in_ok-write_slot.ensures.within h.1
    (c.in_ok-write_slot.ensures.ok (fresh-slot c.args.slot m (rw (← c.self.view_is) at c.requires.number) h))))

pub returns-clause-only : goal.returns-clause-only
returns-clause-only g c = rw (← c.self.view_is) (place-only c.args.slot c.self.inside.journal.memory c.write_slot.new.journal.memory c.in_ok-write_slot.ensures.only c.in_ok-write_slot.ensures.within)

pub returns-in_err-write_slot-clause-cut_bits : goal.returns-in_err-write_slot-clause-cut_bits
returns-in_err-write_slot-clause-cut_bits g c = rw (← c.self.view_is) (λ is. (
    let p = err_from_is_err_and c.from_residual.result c.from_residual.ensures.1 in
    c.in_err-write_slot.ensures.cut_bits (cc (p.1, p.2))))
