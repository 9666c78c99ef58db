use Rattle.journal_slots.proofs.store.SectorSlotsFirmCalls.firm_head.Goals as goal

pub returns-clause-for_good : goal.returns-clause-for_good
returns-clause-for_good g c = rw (← c.self.view_is) c.firm_head.ensures.for_good

pub returns-clause-cut_bits : goal.returns-clause-cut_bits
returns-clause-cut_bits g c = rw (← c.self.view_is) c.firm_head.ensures.cut_bits
