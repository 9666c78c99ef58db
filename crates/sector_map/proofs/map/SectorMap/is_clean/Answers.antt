use Rattle.std.proofs.Common.{◌∙◌, ap, sym, length}
use Rattle.chip_model.specs.Geometry.{sector_count}
use Rattle.sector_map.proofs.FirmMaps.{known-read, since-stays, since-fails, read-firm, firm-fails, firm-latched, read-loses}
use Rattle.sector_map.proofs.Restoring.{known-same, known-latched, latched-refuses}
use Rattle.sector_map.proofs.Restoring.{shown-refuses}
use Rattle.sector_map.proofs.map.SectorMap.is_clean.Goals as goal

pub invariant_of-self-in-Err : goal.invariant_of-self-in-Err
invariant_of-self-in-Err g c = record {
  counted = c.self.invariant.counted ∙ ap (λ m. sector_count (length m)) (sym c.is_clean.ensures.same);
  standing = known-latched c.self.inside.latched c.in-Err.error c.self.inside.table.items _ c.self.inside.stock.slots c.is_clean.new.self.slots c.self.inside.stock.indexed c.is_clean.new.self.indexed c.in_default.is c.self.invariant.standing c.in-Err.ensures.ends
      (λ e. known-same c.self.inside.latched c.self.inside.table.items c.self.inside.stock.slots c.self.inside.stock.indexed c.is_clean.new.self.slots.memory c.in_default.is c.self.invariant.standing c.is_clean.ensures.same);
  since = since-fails _ _ _ c.in-Err.error c.self.inside.stock.slots c.is_clean.new.self.slots c.in-Err.ensures.ends c.self.invariant.since;
  firm = firm-fails _ _ _ c.self.inside.latched c.in-Err.error c.self.inside.table.items c.self.inside.stock.slots c.is_clean.new.self.slots c.self.inside.stock.indexed c.in_default.is c.self.invariant.standing c.in-Err.ensures.ends c.self.invariant.since;
}

pub invariant_of-self : goal.invariant_of-self
invariant_of-self g c = record {
  counted = c.self.invariant.counted ∙ ap (λ m. sector_count (length m)) (sym c.is_clean.ensures.same);
  standing = known-read c.self.inside.latched c.self.inside.table.items c.self.inside.stock.slots c.is_clean.new.self.slots c.self.inside.stock.indexed c.is_clean.new.self.indexed c.in_default.is c.self.invariant.standing c.in-Ok.ensures.ends c.is_clean.ensures.same c.is_clean.ensures.index;
  since = since-stays _ _ _ c.self.inside.stock.slots c.is_clean.new.self.slots c.in-Ok.ensures.ends.kept c.self.invariant.since;
  firm = read-firm _ _ _ c.self.inside.latched c.self.inside.firmness c.self.inside.stock.slots c.is_clean.new.self.slots c.self.inside.stock.blocks.items c.is_clean.new.self.blocks.items c.in-Ok.ensures.ends.kept c.is_clean.ensures.same c.is_clean.ensures.weak c.is_clean.ensures.counts c.self.invariant.firm;
}

pub returns-in-Some-clause-ends : goal.returns-in-Some-clause-ends
returns-in-Some-clause-ends g c = rw (← c.self.view_is) (latched-refuses c.self.inside.latched c.in-Some.error c.self.inside.table.items c.self.inside.stock.slots c.self.inside.stock.indexed c.in-Some.is c.self.invariant.standing)

pub returns-in-Err-clause-ends : goal.returns-in-Err-clause-ends
returns-in-Err-clause-ends g c = rw (← c.self.view_is) (shown-refuses c.self.inside.latched c.in-Err.error c.self.inside.table.items c.self.inside.stock.slots c.is_clean.new.self.slots c.self.inside.stock.indexed c.in_default.is c.self.invariant.standing c.in-Err.ensures.ends)

pub returns-in-Some-clause-firmly : goal.returns-in-Some-clause-firmly
returns-in-Some-clause-firmly g c = rw (← c.self.view_is) (firm-latched _ _ _ c.self.inside.latched c.in-Some.error c.self.inside.firmness c.self.inside.stock.slots c.self.inside.stock.blocks.items c.in-Some.is c.self.invariant.firm)

pub returns-in-Err-clause-firmly : goal.returns-in-Err-clause-firmly
returns-in-Err-clause-firmly g c = rw (← c.self.view_is) (read-loses _ _ _ c.self.inside.latched c.self.inside.firmness c.self.inside.table.items c.self.inside.stock.slots c.is_clean.new.self.slots c.self.inside.stock.indexed c.self.inside.stock.blocks.items c.in_default.is c.self.invariant.standing c.is_clean.ensures.same c.is_clean.ensures.weak c.in-Err.error c.in-Err.ensures.ends (λ cut. cc cut) c.self.invariant.firm)
