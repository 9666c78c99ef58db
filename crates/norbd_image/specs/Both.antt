-- What an image and the log beside it hold. Source: own.
use Rattle.std.specs.Prelude.{◌≡◌, ◌⊎◌, ◌+◌, ◌≤◌, ℕ, List, [], length, drop, true, false}
use Rattle.std.specs.Prelude.{Option, Some, None, Result, Ok, Err}
use Rattle.disk_log.specs.Checkpoints.{image_sum, image_sum_in, placed_in}
use Rattle.disk_log.specs.Logs.{IsBare, IsBlank, Medium, contents_in, has_checkpoint, has_head}
use Rattle.disk_log.specs.Logs.{head_sum, log_changes}
use Rattle.disk_log.specs.Records.{record_len, replayed}
use Rattle.disk_log.specs.declared.reading.Refusal.{Refusal}
use Rattle.disk_log.specs.declared.reading.Refusal.TheVariants as refusals
use Rattle.flash_disk.specs.Contents.{contents_of}
use Rattle.sector_map.specs.Maps.{IsMountable}
use Rattle.sector_slots.specs.Slots.{IsClean}
use Rattle.norbd_image.specs.Mended.{MendFails}
use Rattle.norbd_image.specs.declared.both.LogError.{LogError}
use Rattle.norbd_image.specs.declared.both.LogError.TheVariants.{OutOfMemory, Foreign, Another}
use Rattle.norbd_image.specs.declared.both.LogError.TheVariants.{Refused, NotClean, Failed}

-- contents with the changes of the records of a log of a disk of n sectors
abbrev pub with_changes : ℕ → List ℕ → List ℕ → List ℕ
with_changes n log contents = replayed (log_changes n log).changes contents

-- A log is an image's own: the image with the blocks of its checkpoint in their places has the sum
-- that is in it; or it has none, and was begun on an image with this sum. A head that nothing
-- follows belongs to any image.
pub record IsOwn (n : ℕ) (image log : List ℕ) : Type 0 where
  pub placed : has_checkpoint n log ≡ true
      → image_sum_in (log_changes n log).rest ≡ image_sum (placed_in (log_changes n log).rest image)
  pub begun : (IsBare n log → ⊥) → has_head log ≡ true → has_checkpoint n log ≡ false
      → head_sum log ≡ image_sum image

-- how many bytes of a log say something: none, its head and changes, or all up to the end of its
-- checkpoint
abbrev pub SaysSo : ℕ → List ℕ → ℕ → Type 0
SaysSo n log len =
    (((log_changes n log).changes ≡ []) × (has_checkpoint n log ≡ false) × (len ≡ 0))
    ⊎ (((has_checkpoint n log ≡ false) × (len ≤ length log)
    × (drop len log ≡ (log_changes n log).rest))
    ⊎ ((has_checkpoint n log ≡ true)
    × ((at : ℕ) × (at ≤ length log) × (drop at log ≡ (log_changes n log).rest)
    × (len ≡ at + record_len (log_changes n log).rest))))

-- a log that has changes for this image, and no checkpoint
pub record HasChanges (n : ℕ) (image log : List ℕ) : Type 0 where
  pub own : IsOwn n image log
  pub none : has_checkpoint n log ≡ false

-- Why no changes are made on the disk of the chip in an image: a mount refuses it, or what reads as
-- free on it isn't erased.
abbrev pub ReplayFails : List ℕ → LogError → Type 0
ReplayFails image OutOfMemory = ⊥
ReplayFails image Foreign = ⊥
ReplayFails image Another = ⊥
ReplayFails image (Refused e) = MendFails image e
ReplayFails image NotClean = IsMountable image × (IsClean image → ⊥)
ReplayFails image Failed = Unit {0}

-- Why it can't be told what an image and a log hold: the file is no log, it is another image's, or
-- it has changes, which aren't made on the chip in the image.
abbrev pub IsRefusedFor : ℕ → List ℕ → List ℕ → LogError → Type 0
IsRefusedFor n image log OutOfMemory = ⊥
IsRefusedFor n image log Foreign = (has_head log ≡ false) × (IsBlank log → ⊥)
IsRefusedFor n image log Another = IsOwn n image log → ⊥
IsRefusedFor n image log (Refused e) = HasChanges n image log × ReplayFails image (Refused e)
IsRefusedFor n image log NotClean = HasChanges n image log × ReplayFails image NotClean
IsRefusedFor n image log Failed = HasChanges n image log

abbrev pub TellsRefusal : Refusal → LogError → Type 0
TellsRefusal refusals.Foreign e = e ≡ Foreign
TellsRefusal refusals.Another e = e ≡ Another

-- two files are an image with these bytes, of a disk of n sectors, and a log with those
abbrev pub IsOnFiles : ℕ → List ℕ → List ℕ → Medium → Type 0
IsOnFiles n image log m = (m.sectors ≡ n) × (m.image ≡ image) × (m.log ≡ log)

-- two pairs of files hold the same disk
abbrev pub HoldsDisk : Medium → Medium → Type 0
HoldsDisk old new = contents_in contents_of new.sectors new.image new.log
    ≡ contents_in contents_of old.sectors old.image old.log

-- What a settling leaves of two files: they hold the same, also where it failed; where it didn't,
-- the image alone holds it.
abbrev pub SettlesLog : {T : Type 0} → Option Medium → Result T LogError → Option Medium → Type 0
SettlesLog None result new = new ≡ None
SettlesLog (Some m) (Ok _) new = (m' : Medium) × (new ≡ Some m') × HoldsDisk m m'
    × (contents_of m'.image ≡ contents_in contents_of m.sectors m.image m.log)
SettlesLog (Some m) (Err _) new = (m' : Medium) × (new ≡ Some m') × HoldsDisk m m'
