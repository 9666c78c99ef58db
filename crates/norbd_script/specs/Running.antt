-- What the run of a script on a sound disk says. Words of private functions: no claim rests on
-- them. Source: own.
use Rattle.std.specs.Prelude.{◌≡◌, ℕ, ◌*◌, ◌≤◌, Bool, true, length, Result, Ok, Err}
use Rattle.chip_model.specs.Geometry.{sector_count}
use Rattle.chip_model.specs.Wavering.{bits_of}
use Rattle.sector_slots.specs.Fit.{IsFitForFirmMount}
use Rattle.sector_slots.specs.Slots.{IsClean}
use Rattle.block_device.specs.Facts.{Facts}
use Rattle.norbd_script.specs.declared.error.RunFault.{RunFault}
use Rattle.norbd_script.specs.declared.error.RunFault.TheVariants.{Format, Mount, NotClean}
use Rattle.norbd_script.specs.declared.error.RunFault.TheVariants.{OutOfMemory, Script}
use Rattle.norbd_script.specs.Answered.{Seen}
use Rattle.norbd_script.specs.Lives.{IsHealthyChip, OnBus, Stay, StaySays, as_seen}

-- an answer that comes of the station and its script
abbrev pub IsPastMount : Result (Unit {0}) RunFault → Type 0
IsPastMount (Ok _) = Unit {0}
IsPastMount (Err (Format e)) = ⊥
IsPastMount (Err (Mount e)) = ⊥
IsPastMount (Err NotClean) = ⊥
IsPastMount (Err OutOfMemory) = Unit {0}
IsPastMount (Err (Script e)) = Unit {0}

-- what a disk of so many sectors tells of itself
abbrev pub seen_of : ℕ → Facts → Seen
seen_of n f = record { sectors = n; contents = f.contents; cuts = f.cuts; slows = f.slows }

-- what is known of a chip that was handed back where no operation was slow
pub record IsLeftWell (new : OnBus) : Type 0 where
  pub healthy : IsHealthyChip new.chip
  pub clean : IsClean new.chip.memory

-- From a sound disk with these facts, whose chip was healthy when its bus had counted so many slow
-- operations.
pub record RunsOn (f : Facts) (counted : ℕ) (stay : Stay) (new : OnBus) : Type 0 where
  pub cuts : f.cuts ≤ new.cuts
  pub slows : f.slows ≤ new.slows
  pub size : (n : ℕ) → length f.contents ≡ 512 * n → sector_count (length new.chip.memory) ≡ n
  pub says : (n : ℕ) → length f.contents ≡ 512 * n → StaySays (seen_of n f) stay (as_seen new)
  pub left : f.slows ≡ counted → new.slows ≡ f.slows → IsLeftWell new

-- The same of lives, of the chip as the next power-on finds it: where they began firmly, it is fit
-- for the next firm mount.
pub record RunsLives (firm : Bool) (f : Facts) (counted : ℕ) (stay : Stay) (new : OnBus) : Type 0
  where
    pub runs : RunsOn f counted stay new
    pub fit : firm ≡ true → IsFitForFirmMount (bits_of new.chip)
