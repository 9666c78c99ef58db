-- The bytes of a chip that was just formatted. Source: own, layout 2.
use Rattle.std.specs.Prelude.{◌≡◌, ℕ, ◌*◌, List, length, replicate, Bool, ◌&&◌, ◌||◌}
use Rattle.std.specs.Prelude.{if◌then◌else◌, Result, Ok, Err}
use Rattle.chip_model.specs.Geometry.{sector_count}
use Rattle.nor_driver.specs.declared.error.ProbeError.TheVariants as probes
use Rattle.nor_layout.specs.Layouts.{layout_of}
use Rattle.nor_layout.specs.declared.layout.Layout.TheVariants.{Sectors}
use Rattle.sector_slots.specs.Slots.{IsClean}
use Rattle.sector_map.specs.Maps.{IsMountable, geometry_of}
use Rattle.flash_disk.specs.Contents.{contents_of}
use Rattle.norbd_image.specs.declared.error.ImageError.{ImageError}
use Rattle.norbd_image.specs.declared.error.ImageError.TheVariants.{OutOfMemory, File, NotAFile}
use Rattle.norbd_image.specs.declared.error.ImageError.TheVariants.{InUse}
use Rattle.norbd_image.specs.declared.error.ImageError.TheVariants.{Formatted, NotEmpty, Refused}
use Rattle.nor_layout.specs.Superblock.{has_name, is_sealed}

-- so many bytes, which are a healthy and clean memory of layout 2 whose disk is one of zeros
pub record IsFormattedImage (n : ℕ) (bytes : List ℕ) : Type 0 where
  pub size : length bytes ≡ n
  pub layout : layout_of bytes (geometry_of (length bytes)) ≡ Ok Sectors
  pub mountable : IsMountable bytes
  pub clean : IsClean bytes
  pub contents : contents_of bytes ≡ replicate (512 * sector_count n) 0

-- a fault of the making of an image: a chip in memory passes the checks of a probe and no operation
-- of it is slow, so that it refuses a format only for a loss of power
abbrev pub ComesOfFormat : ImageError → Type 0
ComesOfFormat OutOfMemory = Unit {0}
ComesOfFormat (File kind) = ⊥
ComesOfFormat NotAFile = ⊥
ComesOfFormat InUse = ⊥
ComesOfFormat Formatted = ⊥
ComesOfFormat NotEmpty = ⊥
ComesOfFormat (Refused probes.Cut) = Unit {0}
ComesOfFormat (Refused probes.Slow) = ⊥
ComesOfFormat (Refused probes.WrongId) = ⊥
ComesOfFormat (Refused (probes.Sfdp e)) = ⊥
ComesOfFormat (Refused probes.Protected) = ⊥

-- a fault of opening and locking a file
abbrev pub ComesOfHolding : ImageError → Type 0
ComesOfHolding OutOfMemory = Unit {0}
ComesOfHolding (File kind) = Unit {0}
ComesOfHolding NotAFile = Unit {0}
ComesOfHolding InUse = Unit {0}
ComesOfHolding Formatted = ⊥
ComesOfHolding NotEmpty = ⊥
ComesOfHolding (Refused e) = ⊥

-- a fault of the file that is to be replaced or made
abbrev pub ComesOfFile : ImageError → Type 0
ComesOfFile OutOfMemory = Unit {0}
ComesOfFile (File kind) = Unit {0}
ComesOfFile NotAFile = Unit {0}
ComesOfFile InUse = Unit {0}
ComesOfFile Formatted = Unit {0}
ComesOfFile NotEmpty = Unit {0}
ComesOfFile (Refused e) = ⊥

-- A file whose first 15 bytes are these holds a formatted chip, of whatever size and layout: its
-- superblock has its name and its seal.
abbrev pub is_formatted : List ℕ → Bool
is_formatted head = has_name head && is_sealed head

-- Whether a file may be replaced that is blank or not, and begins with these bytes where it has so
-- many: one that isn't blank, whether it holds a formatted chip or anything else, only by force.
abbrev pub leave_to_replace : Bool → Bool → Bool → List ℕ → Result (Unit {0}) ImageError
leave_to_replace force is_blank is_whole head =
    if force || is_blank then Ok tt else
    if is_whole && is_formatted head then Err Formatted else Err NotEmpty
