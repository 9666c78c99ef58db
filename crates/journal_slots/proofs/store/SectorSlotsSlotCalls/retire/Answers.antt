use Rattle.std.proofs.Common.{inr}
use Rattle.std.proofs.lemmas.Result.{err_from_is_err_and}
use Rattle.journal_slots.proofs.Slots.{place-only, live-raw, retire-dead, retire-left, retire-clean}
use Rattle.journal_slots.proofs.store.SectorSlotsSlotCalls.retire.Goals as goal

pub returns-in_err-retire_slot-clause-cut : goal.returns-in_err-retire_slot-clause-cut
returns-in_err-retire_slot-clause-cut g c = rw (← c.self.view_is) (λ is live. (
    let p = err_from_is_err_and c.from_residual.result c.from_residual.ensures.1 in
    let m = c.self.inside.journal.memory in
    let m' = c.retire_slot.new.journal.memory in
    retire-left c.args.slot m m' (rw (← c.self.view_is) at c.requires.number) (place-only c.args.slot m m' c.in_err-retire_slot.ensures.only (c.in_err-retire_slot.ensures.cut_within (cc (p.1, p.2)))) live.0
    (c.in_err-retire_slot.ensures.cut (cc (p.1, p.2)) (live-raw m c.args.slot live.0) live.1)))

pub returns-in_err-retire_slot-clause-cut_clean : goal.returns-in_err-retire_slot-clause-cut_clean
returns-in_err-retire_slot-clause-cut_clean g c = rw (← c.self.view_is) (λ is live clean. (
    let p = err_from_is_err_and c.from_residual.result c.from_residual.ensures.1 in
    let m = c.self.inside.journal.memory in
    retire-clean c.args.slot m c.retire_slot.new.journal.memory (rw (← c.self.view_is) at c.requires.number) c.in_err-retire_slot.ensures.only (c.in_err-retire_slot.ensures.cut_within (cc (p.1, p.2))) clean
    (c.in_err-retire_slot.ensures.cut (cc (p.1, p.2)) (live-raw m c.args.slot live.0) live.1)))

pub returns-in_err-retire_slot-clause-cut_only : goal.returns-in_err-retire_slot-clause-cut_only
returns-in_err-retire_slot-clause-cut_only g c = rw (← c.self.view_is) (λ is. (
    let p = err_from_is_err_and c.from_residual.result c.from_residual.ensures.1 in
    place-only c.args.slot c.self.inside.journal.memory c.retire_slot.new.journal.memory c.in_err-retire_slot.ensures.only (c.in_err-retire_slot.ensures.cut_within (cc (p.1, p.2)))))

pub returns-clause-ok : goal.returns-clause-ok
returns-clause-ok g c = rw (← c.self.view_is) (λ live. (
    let m = c.self.inside.journal.memory in
    let m' = c.retire_slot.new.journal.memory in
    retire-dead c.args.slot m m' (rw (← c.self.view_is) at c.requires.number) (place-only c.args.slot m m' c.in_ok-retire_slot.ensures.only c.in_ok-retire_slot.ensures.within) live.0 (c.in_ok-retire_slot.ensures.ok live.1)))

pub returns-clause-clean : goal.returns-clause-clean
returns-clause-clean g c = rw (← c.self.view_is) (λ live clean. (
    retire-clean c.args.slot c.self.inside.journal.memory c.retire_slot.new.journal.memory (rw (← c.self.view_is) at c.requires.number) c.in_ok-retire_slot.ensures.only c.in_ok-retire_slot.ensures.within clean (inr (c.in_ok-retire_slot.ensures.ok live.1))))

pub returns-clause-only : goal.returns-clause-only
returns-clause-only g c = rw (← c.self.view_is) (place-only c.args.slot c.self.inside.journal.memory c.retire_slot.new.journal.memory c.in_ok-retire_slot.ensures.only c.in_ok-retire_slot.ensures.within)
