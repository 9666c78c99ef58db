use Rattle.journal_slots.proofs.store.SectorSlotsSlotCalls.erase.Goals as goal

pub returns-clause-cut_bits : goal.returns-clause-cut_bits
returns-clause-cut_bits g c = rw (← c.self.view_is) c.erase_data.ensures.cut_bits

pub returns-clause-opens : goal.returns-clause-opens
returns-clause-opens g c = rw (← c.self.view_is) c.erase_data.ensures.opens
