use Rattle.std.proofs.Common.{inr, refl}
use Rattle.std.proofs.lemmas.Result.{err_from_is_err_and}
use Rattle.sector_slots.specs.Slots.{Free}
use Rattle.sector_slots.proofs.SlotLaws.{counted-raw}
use Rattle.journal_slots.proofs.Slots.{place-only, free-inside, retire-clean}
use Rattle.journal_slots.proofs.Killing.{kill-dead, kill-left}
use Rattle.journal_slots.proofs.store.SectorSlotsFirmCalls.kill.Goals as goal

pub returns-in_err-kill_slot-clause-cut : goal.returns-in_err-kill_slot-clause-cut
returns-in_err-kill_slot-clause-cut g c = rw (← c.self.view_is) (λ is free. (
    let p = err_from_is_err_and c.from_residual.result c.from_residual.ensures.1 in
    let m = c.self.inside.journal.memory in
    let m' = c.kill_slot.new.journal.memory in
    kill-left c.args.slot m m' (rw (← c.self.view_is) at c.requires.number) (place-only c.args.slot m m' c.in_err-kill_slot.ensures.only (c.in_err-kill_slot.ensures.cut_within (cc (p.1, p.2)))) free
    (c.in_err-kill_slot.ensures.cut (cc (p.1, p.2)) (counted-raw m c.args.slot Free free (free-inside Free refl)))))

pub returns-in_err-kill_slot-clause-cut_clean : goal.returns-in_err-kill_slot-clause-cut_clean
returns-in_err-kill_slot-clause-cut_clean g c = rw (← c.self.view_is) (λ is free clean. (
    let p = err_from_is_err_and c.from_residual.result c.from_residual.ensures.1 in
    let m = c.self.inside.journal.memory in
    retire-clean c.args.slot m c.kill_slot.new.journal.memory (rw (← c.self.view_is) at c.requires.number) c.in_err-kill_slot.ensures.only (c.in_err-kill_slot.ensures.cut_within (cc (p.1, p.2))) clean
    (c.in_err-kill_slot.ensures.cut (cc (p.1, p.2)) (counted-raw m c.args.slot Free free (free-inside Free refl)))))

pub returns-in_err-kill_slot-clause-cut_only : goal.returns-in_err-kill_slot-clause-cut_only
returns-in_err-kill_slot-clause-cut_only g c = rw (← c.self.view_is) (λ is. (
    let p = err_from_is_err_and c.from_residual.result c.from_residual.ensures.1 in
    place-only c.args.slot c.self.inside.journal.memory c.kill_slot.new.journal.memory c.in_err-kill_slot.ensures.only (c.in_err-kill_slot.ensures.cut_within (cc (p.1, p.2)))))

pub returns-clause-ok : goal.returns-clause-ok
returns-clause-ok g c = rw (← c.self.view_is) (λ free. (
    let m = c.self.inside.journal.memory in
    let m' = c.kill_slot.new.journal.memory in
    kill-dead c.args.slot m m' (rw (← c.self.view_is) at c.requires.number) (place-only c.args.slot m m' c.in_ok-kill_slot.ensures.only c.in_ok-kill_slot.ensures.within) free
    (c.in_ok-kill_slot.ensures.ok (counted-raw m c.args.slot Free free (free-inside Free refl)))))

pub returns-clause-clean : goal.returns-clause-clean
returns-clause-clean g c = rw (← c.self.view_is) (λ free clean. (
    let m = c.self.inside.journal.memory in
    retire-clean c.args.slot m c.kill_slot.new.journal.memory (rw (← c.self.view_is) at c.requires.number) c.in_ok-kill_slot.ensures.only c.in_ok-kill_slot.ensures.within clean
    (inr (c.in_ok-kill_slot.ensures.ok (counted-raw m c.args.slot Free free (free-inside Free refl))))))

pub returns-clause-only : goal.returns-clause-only
returns-clause-only g c = rw (← c.self.view_is) (place-only c.args.slot c.self.inside.journal.memory c.kill_slot.new.journal.memory c.in_ok-kill_slot.ensures.only c.in_ok-kill_slot.ensures.within)
