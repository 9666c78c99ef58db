-- What a start finds. Source: own.
use Rattle.std.specs.Prelude.{◌≡◌, ◌⊎◌, ◌≤◌, ℕ, List, length, drop, true, false, Result, Ok, Err}
use Rattle.std.specs.Prelude.{Option, Some, None, []}
use Rattle.disk_log.specs.Checkpoints.{image_sum, image_sum_in, placed_in}
use Rattle.disk_log.specs.Logs.{IsBare, IsBlank, has_head, head_sum, log_changes, has_checkpoint}
use Rattle.disk_log.specs.Logs.{Medium, IsBegunLog, HoldsAs}
use Rattle.disk_log.specs.declared.reading.Found.{Found}
use Rattle.disk_log.specs.declared.reading.Found.TheVariants.{Nothing, Records, Checkpoint}
use Rattle.disk_log.specs.declared.reading.Refusal.{Refusal}
use Rattle.disk_log.specs.declared.reading.Refusal.TheVariants.{Foreign, Another}

-- a reading of a log of a disk of n sectors: what is found, and what that leaves of the image's
-- bytes in memory
abbrev pub ReadsLog : ℕ → List ℕ → List ℕ → Result Found Refusal → List ℕ → Type 0
-- it was never begun, or nothing follows its head: then it may be any image's
ReadsLog n log image (Ok Nothing) image' =
    (((has_head log ≡ false) × IsBlank log) ⊎ IsBare n log)
    × ((log_changes n log).changes ≡ []) × (has_checkpoint n log ≡ false) × (image' ≡ image)
-- so many bytes are the head and changes, on this image
ReadsLog n log image (Ok (Records len sum)) image' =
    (has_head log ≡ true) × (has_checkpoint n log ≡ false) × (head_sum log ≡ image_sum image)
    × (len ≤ length log) × (drop len log ≡ (log_changes n log).rest)
    × (sum ≡ (log_changes n log).sum) × (image' ≡ image)
-- there is a checkpoint of this image behind so many bytes; its blocks were placed
ReadsLog n log image (Ok (Checkpoint at)) image' =
    (has_checkpoint n log ≡ true) × (at ≤ length log) × (drop at log ≡ (log_changes n log).rest)
    × (image' ≡ placed_in (log_changes n log).rest image)
    × (image_sum_in (log_changes n log).rest ≡ image_sum image')
-- bytes that no log begins with
ReadsLog n log image (Err Foreign) image' =
    (has_head log ≡ false) × (IsBlank log → ⊥) × (image' ≡ image)
-- the sum is not this image's
ReadsLog n log image (Err Another) image' = (has_head log ≡ true) × (length image' ≡ length image)
    × (((has_checkpoint n log ≡ false) × (IsBare n log → ⊥)
    × (head_sum log ≡ image_sum image → ⊥))
    ⊎ ((has_checkpoint n log ≡ true) × (image_sum_in (log_changes n log).rest
    ≡ image_sum (placed_in (log_changes n log).rest image) → ⊥)))

-- a reading of a checkpoint behind so many bytes: its blocks are placed
abbrev pub ReadsPlaced : ℕ → List ℕ → List ℕ → Result Found Refusal → List ℕ → Type 0
ReadsPlaced at b image (Ok found) image' = (found ≡ Checkpoint at) × (image' ≡ placed_in b image)
    × (image_sum_in b ≡ image_sum image')
ReadsPlaced at b image (Err refusal) image' = (refusal ≡ Another) × (image' ≡ placed_in b image)
    × (image_sum_in b ≡ image_sum image' → ⊥)

-- two files are those of a reading, of a disk of n sectors, that left these bytes of the image
abbrev pub IsRead : ℕ → List ℕ → List ℕ → Found → Medium → Type 0
IsRead n image log found m = (m.sectors ≡ n) × (m.log ≡ log)
    × ReadsLog n log m.image (Ok found) image

-- what a start that takes up a log leaves of the files: one that was begun on the image as it is in
-- memory, all of both on the medium, or, where a call failed, what they held
abbrev pub TakesUp : {E : Type 0} → Option Medium → List ℕ → Result (ℕ × ℕ) E → Option Medium
    → Type 0
TakesUp None image result new = new ≡ None
TakesUp (Some m) image (Ok sum) new = (m' : Medium) × (new ≡ Some m') × (m'.sectors ≡ m.sectors)
    × IsBegunLog m' image sum × HoldsAs m m' × (m'.settled ≡ true) × (m'.safe ≡ length m'.log)
TakesUp (Some m) image (Err _) new = (m' : Medium) × (new ≡ Some m') × HoldsAs m m'

-- an empty log, beside an image with these bytes, all of which is on the medium
abbrev pub IsEmptyOn : List ℕ → Medium → Type 0
IsEmptyOn image m = (m.image ≡ image) × (m.log ≡ []) × (m.settled ≡ true) × (m.safe ≡ 0)

-- a log that says nothing, beside an image with these bytes
abbrev pub IsBlankOn : List ℕ → Medium → Type 0
IsBlankOn image m = (m.image ≡ image) × ((log_changes m.sectors m.log).changes ≡ [])
    × (has_checkpoint m.sectors m.log ≡ false)

-- a log with this checkpoint, beside an image that has these bytes once its blocks are placed
pub record IsPlacedOn (image checkpoint : List ℕ) (m : Medium) : Type 0 where
  pub whole : has_checkpoint m.sectors m.log ≡ true
  pub rest : (log_changes m.sectors m.log).rest ≡ checkpoint
  pub placed : image ≡ placed_in checkpoint m.image
