use Rattle.journal_slots.proofs.store.SectorSlotsSlotCalls.begin.Goals as goal

pub returns-clause-ok : goal.returns-clause-ok
returns-clause-ok g c = rw (← c.self.view_is) c.program_mark.ensures.ok
