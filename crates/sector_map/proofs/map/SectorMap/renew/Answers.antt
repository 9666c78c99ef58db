use Rattle.std.proofs.Common.{◌∙◌, ap, sym, Err}
use Rattle.std.proofs.lemmas.List.{with_items_is}
use Rattle.chip_model.specs.Geometry.{sector_count}
use Rattle.sector_map.proofs.FirmMaps.{since-stays, since-fails, firm-stays, firm-fails, firm-latched, firm-cut, stands-left}
use Rattle.sector_map.proofs.Restoring.{known-after, known-latched, latched-refuses, shown-refuses}
use Rattle.sector_map.proofs.Opening.{shown-succeeds}
use Rattle.sector_map.proofs.map.SectorMap.renew.Goals as goal

pub returns-in-Ok-clause-ends : goal.returns-in-Ok-clause-ends
returns-in-Ok-clause-ends g c = rw (← c.self.view_is) (shown-succeeds c.self.inside.latched c.self.inside.stock.slots c.renew_block.new.stock.slots c.in_default.is c.in-Ok.ensures.ends)

pub returns-in-Ok-clause-ok : goal.returns-in-Ok-clause-ok
returns-in-Ok-clause-ok g c = rw (← c.self.view_is) (c.in-Ok.ensures.ok.keeps)

pub returns-in-Err-clause-cut : goal.returns-in-Err-clause-cut
returns-in-Err-clause-cut g c is = rw (← c.self.view_is) (c.renew_block.ensures.cut (c.in-Err.is ∙ is))

pub invariant_of-self : goal.invariant_of-self
invariant_of-self g c = record {
  counted = c.self.invariant.counted ∙ ap (λ n. sector_count n) (sym c.renew_block.ensures.size);
  standing = known-after c.self.inside.latched c.self.inside.table.items c.renew_block.new.table c.self.inside.stock.slots c.renew_block.new.stock.slots c.self.inside.stock.indexed c.renew_block.new.stock.indexed _ (with_items_is c.self.inside.table c.renew_block.new.table (c.renew_block.ensures.table ∙ c.as_mut_slice.ensures.len)) c.in_default.is c.in-Ok.ensures.ok.served;
  since = since-stays _ _ _ c.self.inside.stock.slots c.renew_block.new.stock.slots c.in-Ok.ensures.ends.kept c.self.invariant.since;
  firm = firm-stays _ _ _ c.self.inside.latched c.self.inside.firmness c.self.inside.stock.slots c.renew_block.new.stock.slots c.self.inside.stock.blocks.items c.renew_block.new.stock.blocks.items c.in-Ok.ensures.ends.kept c.in-Ok.ensures.ok.keeps.chip (λ is. c.in-Ok.ensures.firmly) c.self.invariant.firm;
}

pub invariant_of-self-in-Err : goal.invariant_of-self-in-Err
invariant_of-self-in-Err g c = record {
  counted = c.self.invariant.counted ∙ ap (λ n. sector_count n) (sym c.renew_block.ensures.size);
  standing = known-latched c.self.inside.latched c.in-Err.error c.self.inside.table.items _ c.self.inside.stock.slots c.renew_block.new.stock.slots c.self.inside.stock.indexed c.renew_block.new.stock.indexed c.in_default.is c.self.invariant.standing c.in-Err.ensures.ends
      (λ e. (c.renew_block.ensures.cut (c.in-Err.is ∙ ap Err e)).store);
  since = since-fails _ _ _ c.in-Err.error c.self.inside.stock.slots c.renew_block.new.stock.slots c.in-Err.ensures.ends c.self.invariant.since;
  firm = firm-fails _ _ _ c.self.inside.latched c.in-Err.error c.self.inside.table.items c.self.inside.stock.slots c.renew_block.new.stock.slots c.self.inside.stock.indexed c.in_default.is c.self.invariant.standing c.in-Err.ensures.ends c.self.invariant.since;
}

pub returns-in-Some-clause-ends : goal.returns-in-Some-clause-ends
returns-in-Some-clause-ends g c = rw (← c.self.view_is) (latched-refuses c.self.inside.latched c.in-Some.error c.self.inside.table.items c.self.inside.stock.slots c.self.inside.stock.indexed c.in-Some.is c.self.invariant.standing)

pub returns-in-Err-clause-ends : goal.returns-in-Err-clause-ends
returns-in-Err-clause-ends g c = rw (← c.self.view_is) (shown-refuses c.self.inside.latched c.in-Err.error c.self.inside.table.items c.self.inside.stock.slots c.renew_block.new.stock.slots c.self.inside.stock.indexed c.in_default.is c.self.invariant.standing c.in-Err.ensures.ends)

pub returns-in-Some-clause-firmly : goal.returns-in-Some-clause-firmly
returns-in-Some-clause-firmly g c = rw (← c.self.view_is) (firm-latched _ _ _ c.self.inside.latched c.in-Some.error c.self.inside.firmness c.self.inside.stock.slots c.self.inside.stock.blocks.items c.in-Some.is c.self.invariant.firm)

pub returns-in-Err-clause-firmly : goal.returns-in-Err-clause-firmly
returns-in-Err-clause-firmly g c = rw (← c.self.view_is) (firm-cut _ _ _ c.self.inside.latched c.self.inside.firmness c.self.inside.stock.slots c.self.inside.stock.blocks.items (λ is two disk cut. (c.in-Err.ensures.firmly disk (cc cut), stands-left c.self.inside.stock.slots c.renew_block.new.stock.slots two (c.renew_block.ensures.cut (cc (c.in-Err.is, cut))).chip (c.in-Err.ensures.ends.journals (cc cut) disk.settled disk.journals))) c.self.invariant.firm)
