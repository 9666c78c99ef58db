use Rattle.journal_slots.proofs.store.SectorSlotsSlotCalls.commit.Goals as goal

pub returns-clause-ok : goal.returns-clause-ok
returns-clause-ok g c = rw (← c.self.view_is) c.commit_mark.ensures.ok

pub returns-clause-cut : goal.returns-clause-cut
returns-clause-cut g c = rw (← c.self.view_is) c.commit_mark.ensures.cut
