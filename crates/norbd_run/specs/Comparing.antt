-- How a check ends of a clean image that is compared with an older copy, and of a chip of which
-- something is protected. Source: own.
use Rattle.std.specs.Prelude.{◌≡◌, ◌≢◌, ◌⊎◌, ◌/◌, ◌<◌, ℕ, List, [], Bool, true, false, length}
use Rattle.std.specs.Prelude.{Result, Ok, Err}
use Rattle.flash_disk.specs.Contents.{contents_of}
use Rattle.norbd_line.specs.declared.fault.Cause.TheVariants.{Differs, Dump, DumpSize, Read}
use Rattle.norbd_line.specs.declared.fault.Fault.{Fault}
use Rattle.norbd_line.specs.declared.fault.Fault.TheVariants.{ImageFailed, NoMemory, Protected}
use Rattle.norbd_transfer.specs.Differing.{Differing}

-- two chips have one size, and their disks differ exactly in the sectors with these numbers
pub record DiffersIn (image dump numbers : List ℕ) : Type 0 where
  pub size : length dump ≡ length image
  pub differing : Differing (contents_of image) (contents_of dump)
      (length (contents_of image) / 512) numbers

-- why an image isn't compared with a copy
abbrev pub IsUncompared : List ℕ → List ℕ → Fault → Type 0
IsUncompared image dump e = (e ≡ NoMemory) ⊎ (((e ≡ ImageFailed DumpSize)
    × (length dump ≢ length image)) ⊎ ((e ≡ ImageFailed Read) ⊎ (e ≡ ImageFailed Dump)))

-- where no sector differs it ends as it would without the copy, and else with their number
abbrev pub EndsBeside : {T : Type 0} → T → List ℕ → List ℕ → Result T Fault → Type 0
EndsBeside found image dump (Ok it) = (it ≡ found) × DiffersIn image dump []
EndsBeside found image dump (Err e) = ((numbers : List ℕ) × DiffersIn image dump numbers
    × (0 < length numbers) × (e ≡ ImageFailed (Differs (length numbers))))
    ⊎ IsUncompared image dump e

-- where something is protected it ends with that, unless it has another fault
abbrev pub end_under : {T : Type 0} → Bool → Result T Fault → Result T Fault
end_under false end = end
end_under true (Ok it) = Err Protected
end_under true (Err e) = Err e
