use Rattle.sector_map.proofs.FirmBegins.{behind-firm}
use Rattle.sector_map.proofs.Restoring.{behind-store}
use Rattle.sector_map.proofs.map.SectorMap.into_inner.Goals as goal

pub returns-clause-store : goal.returns-clause-store
returns-clause-store g c = rw (← c.self.view_is) (λ quick. behind-store c.self.inside.latched c.self.inside.table.items c.self.inside.stock.slots (g.N.Nor.state c.uncover.result) c.self.inside.stock.indexed c.self.invariant.standing quick c.uncover.ensures.memory)

pub returns-clause-firm : goal.returns-clause-firm
returns-clause-firm g c = rw (← c.self.view_is) (behind-firm _ _ _ c.self.inside.latched c.self.inside.firmness c.self.inside.table.items c.self.inside.stock.slots (g.N.Nor.state c.uncover.result) c.self.inside.stock.blocks.items c.self.inside.stock.indexed c.self.invariant.standing c.uncover.ensures.memory c.uncover.ensures.weak c.self.invariant.firm)
