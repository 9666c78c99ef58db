use Rattle.std.proofs.lemmas.Result.{on_ok_weaker, IfErr-at_err}
use Rattle.erase_journal.specs.Recovery.{RestoreFails}
use Rattle.journal_slots.proofs.Slots.{restored-slots, restore-cut_slots}
use Rattle.journal_slots.proofs.store.SectorSlotsSlotCalls.restore.Goals as goal

pub returns-clause-slots : goal.returns-clause-slots
returns-clause-slots g c = rw (← c.self.view_is) (on_ok_weaker c.restore.result (λ h. restored-slots c.self.inside.journal c.restore.new.self h) c.restore.ensures.ok)

pub returns-clause-cut : goal.returns-clause-cut
returns-clause-cut g c = rw (← c.self.view_is) (λ is. restore-cut_slots c.self.inside.journal c.restore.new.self (IfErr-at_err (λ e. RestoreFails e c.self.inside.journal c.restore.new.self) is c.restore.ensures.fails))
