use Rattle.journal_slots.proofs.store.SectorSlotsSlotCalls.mark.Goals as goal

pub returns-clause-ok : goal.returns-clause-ok
returns-clause-ok g c = rw (← c.self.view_is) c.mark.ensures.ok

pub returns-clause-cut : goal.returns-clause-cut
returns-clause-cut g c = rw (← c.self.view_is) c.mark.ensures.cut
