-- The bytes of a clean chip that holds what another one holds. Source: own, layout 2.
use Rattle.std.specs.Prelude.{◌≡◌, ℕ, List, length, Err}
use Rattle.nor_driver.specs.declared.error.ProbeError.TheVariants as probes
use Rattle.nor_layout.specs.Layouts.{layout_of}
use Rattle.nor_layout.specs.declared.superblock.SuperError.TheVariants as supers
use Rattle.sector_slots.specs.Slots.{IsClean}
use Rattle.sector_map.specs.Maps.{IsMountable, geometry_of}
use Rattle.flash_disk.specs.Contents.{contents_of}
use Rattle.flash_disk.specs.declared.error.MountError.{MountError}
use Rattle.flash_disk.specs.declared.error.MountError.TheVariants.{Probe, OutOfMemory}
use Rattle.flash_disk.specs.declared.error.MountError.TheVariants.{NotFormatted, Corrupt}

-- so many bytes, which are a healthy and clean memory whose disk holds these
pub record IsImageOf (n : ℕ) (sectors bytes : List ℕ) : Type 0 where
  pub size : length bytes ≡ n
  pub mountable : IsMountable bytes
  pub clean : IsClean bytes
  pub contents : contents_of bytes ≡ sectors

-- Mended bytes: as many, healthy and clean, with the sectors that the old ones hold. Of these it
-- is known that they are healthy, not that they are clean.
pub record IsMended (old new : List ℕ) : Type 0 where
  pub mountable : IsMountable old
  pub image : IsImageOf (length old) (contents_of old) new

-- The refusals of a chip in memory that is healthy: it passes the checks of a probe, and no
-- operation of it is slow.
abbrev pub ComesOfMemory : MountError → Type 0
ComesOfMemory (Probe probes.Cut) = Unit {0}
ComesOfMemory (Probe probes.Slow) = ⊥
ComesOfMemory (Probe probes.WrongId) = ⊥
ComesOfMemory (Probe (probes.Sfdp e)) = ⊥
ComesOfMemory (Probe probes.Protected) = ⊥
ComesOfMemory OutOfMemory = Unit {0}
ComesOfMemory NotFormatted = ⊥
ComesOfMemory Corrupt = ⊥

-- those of one with these bytes
abbrev pub MendFails : List ℕ → MountError → Type 0
MendFails bytes (Probe e) = ComesOfMemory (Probe e)
MendFails bytes OutOfMemory = Unit {0}
MendFails bytes NotFormatted =
    layout_of bytes (geometry_of (length bytes)) ≡ Err supers.NotFormatted
MendFails bytes Corrupt = IsMountable bytes → ⊥
