use Rattle.journal_slots.proofs.store.SectorSlotsSlotCalls.copy.Goals as goal

pub returns-clause-ok : goal.returns-clause-ok
returns-clause-ok g c = rw (← c.self.view_is) c.copy_slot.ensures.ok
