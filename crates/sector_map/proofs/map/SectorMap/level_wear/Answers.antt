use Rattle.std.proofs.Common.{ap, sym, subst, ◌∙◌, length}
use Rattle.chip_model.specs.Geometry.{sector_count}
use Rattle.sector_map.specs.Losses.{IsSince}
use Rattle.sector_map.specs.Maps.{KnownWhile}
use Rattle.sector_map.proofs.FirmBegins.{level-firm}
use Rattle.sector_map.proofs.map.SectorMap.level_wear.Goals as goal

pub invariant_of-self : goal.invariant_of-self
invariant_of-self g c =
    let old = c.self.inside.stock in
    let now = c.level_wear.new.self in
    let same = c.level_wear.ensures.same in
    record {
      counted = c.self.invariant.counted ∙ ap (λ s. sector_count (length s.memory)) (sym same);
      standing = subst (λ s. KnownWhile c.self.inside.latched c.self.inside.table.items s now.indexed) (sym same)
          (subst (λ i. KnownWhile c.self.inside.latched c.self.inside.table.items old.slots i) (sym c.level_wear.ensures.index) c.self.invariant.standing);
      since = subst (λ s. IsSince _ _ _ s) (sym same) c.self.invariant.since;
      firm = level-firm _ _ _ c.self.inside.latched c.self.inside.firmness old.slots now.slots old.blocks.items now.blocks.items same c.level_wear.ensures.suspects c.self.invariant.firm;
    }
