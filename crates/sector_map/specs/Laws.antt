-- A chip of layout 1 in its own words, and what a mount says of it. Source: own, layout 1.
use Rattle.std.specs.Prelude.{◌≡◌, ℕ, List, length, Ok}
use Rattle.chip_model.specs.Geometry.{IsChipSize}
use Rattle.nor_layout.specs.Layouts.{layout_of}
use Rattle.nor_layout.specs.declared.layout.Layout.TheVariants.{Groups}
use Rattle.erase_journal.specs.Journals.{IsHealthy}
use Rattle.sector_slots.specs.Slots.{IsClean}
use Rattle.sector_slots.specs.Groups.{AreSoundGroups, IsCleanOfGroups}
use Rattle.sector_map.specs.Maps.{IsMountable, geometry_of}

-- A chip of layout 1: its superblock says so, its journals are healthy, and its blocks, each free,
-- dead or live with a group, are sound.
pub record IsGroupChip (m : List ℕ) : Type 0 where
  pub superblock : layout_of m (geometry_of (length m)) ≡ Ok Groups
  pub journals : IsHealthy m
  pub groups : AreSoundGroups m
  pub clean : IsCleanOfGroups m

-- A mount accepts it, and what reads as free is erased.
abbrev pub GroupChipsAreMountable : Type 0
GroupChipsAreMountable = (m : List ℕ) → IsChipSize (length m) → IsGroupChip m
    → IsMountable m × IsClean m
