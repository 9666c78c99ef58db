use Rattle.std.proofs.Common.{◌∙◌, ap, sym, subst, arith}
use Rattle.std.proofs.lemmas.List.{with_items_is}
use Rattle.chip_model.specs.Geometry.{sector_count}
use Rattle.sector_map.specs.Maps.{IsServing}
use Rattle.sector_map.proofs.FirmBegins.{renewed-firm}
use Rattle.sector_map.proofs.FirmMaps.{since-on}
use Rattle.sector_map.proofs.map.SectorMap.restore.Goals as goal

pub invariant_of-self : goal.invariant_of-self
invariant_of-self g c =
    let now = c.renew.new.stock in
    let r = c.in-Ok-true.ensures.ok (cc c.in-Ok-true.is) in
    let items = with_items_is c.self.inside.table c.renew.new.table (c.renew.ensures.size ∙ c.as_mut_slice.ensures.len) in
    record {
      counted = c.self.invariant.counted ∙ ap (λ n. sector_count n) (sym r.size);
      standing = subst (λ z. IsServing z now.slots now.indexed) (sym items) r.served;
      since = since-on _ _ _ c.self.inside.stock.slots now.slots (let e = r.cuts in omega (arith, e)) (let e = r.slows in omega (arith, e)) c.self.invariant.since;
      firm = renewed-firm _ _ _ c.self.inside.latched c.self.inside.firmness c.self.inside.table.items c.renew.new.table c.self.inside.stock.slots now.slots c.self.inside.stock.blocks.items now.blocks.items c.self.inside.stock.indexed now.indexed c.self.invariant.standing r
          (λ is quick holds. c.in-Ok-true.ensures.firmly is quick holds (cc c.in-Ok-true.is)) c.self.invariant.firm;
    }
