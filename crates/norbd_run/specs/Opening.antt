-- What is known of an image that is opened, and why one isn't. Source: own.
use Rattle.std.specs.Prelude.{◌≡◌, ℕ, List, length, Err}
use Rattle.chip_model.specs.Geometry.{sector_count}
use Rattle.nor_layout.specs.Layouts.{layout_of}
use Rattle.nor_layout.specs.declared.superblock.SuperError.TheVariants as supers
use Rattle.sector_slots.specs.Blocks.{AreAtRest}
use Rattle.sector_slots.specs.Slots.{IsClean, data_blocks, kind_at}
use Rattle.sector_map.specs.Maps.{IsMountable, geometry_of}
use Rattle.sector_survey.specs.Cleanness.{HasCleanGroups, IsCleanImage}
use Rattle.norbd_line.specs.declared.fault.Fault.{Fault}
use Rattle.norbd_line.specs.declared.fault.Fault.TheVariants.{NotFormatted, Corrupt, NotClean}

-- An image that `check` calls clean: a mount accepts it, and what reads as free is erased. Of the
-- slots of one in which a copying goes on nothing is said.
pub record IsCheckedClean (sectors : ℕ) (m : List ℕ) : Type 0 where
  pub mountable : IsMountable m
  pub sectors_are : sectors ≡ sector_count (length m)
  pub slots : AreAtRest (kind_at m) (data_blocks m) → IsClean m
  pub groups : HasCleanGroups m

-- What is known of the bytes of an image that isn't served: the superblock's name isn't there, or
-- its seal; a mount calls it corrupt; or a mount accepts it, and what reads as free isn't erased.
abbrev pub IsReason : Fault → List ℕ → Type 0
IsReason NotFormatted m = layout_of m (geometry_of (length m)) ≡ Err supers.NotFormatted
IsReason Corrupt m = IsMountable m → ⊥
IsReason NotClean m = IsMountable m × (IsCleanImage m → ⊥)
IsReason _ m = Unit {0}
