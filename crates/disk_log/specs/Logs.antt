-- A log: a head, and records one behind the other. Source: own.
use Rattle.std.specs.Prelude.{◌≡◌, ◌<◌, ◌⊎◌, ℕ, zero, suc, ◌&&◌, ◌==◌, if◌then◌else◌, All}
use Rattle.std.specs.Prelude.{List, [], ◌∷◌, length, take, drop, Option, Some, None}
use Rattle.std.specs.Prelude.{Bool, true, nat_lt}
use Rattle.byteorder.specs.Endian.{little_from}
use Rattle.disk_log.specs.Records.{Change, begins_record, begins_checkpoint, change_in, record_len}
use Rattle.disk_log.specs.Records.{replayed, sum_in, sum_at}
use Rattle.disk_log.specs.Checkpoints.{image_sum, placed_in}

-- the longest beginning of a log that is changes, the sum of the last one, and what is behind it
pub record LogReading : Type 0 where
  pub changes : List Change
  pub sum : ℕ × ℕ
  pub rest : List ℕ

-- a reading of at most k records
unfoldable pub read_some : ℕ → ℕ → ℕ × ℕ → List ℕ → LogReading
read_some zero n before b = record { changes = []; sum = before; rest = b }
read_some (suc k) n before b = if begins_record n before b
    then (let more = read_some k n (sum_in b) (drop (record_len b) b)
    in record { changes = change_in b ∷ more.changes; sum = more.sum; rest = more.rest })
    else record { changes = []; sum = before; rest = b }

-- the reading of records of a disk of n sectors, which go on from a sum: there are no more of them
-- than bytes
abbrev pub log_reading : ℕ → ℕ × ℕ → List ℕ → LogReading
log_reading n before b = read_some (length b) n before b

-- records to the end, the last of which has this sum
pub record IsWholeLog (n : ℕ) (before : ℕ × ℕ) (b : List ℕ) (last : ℕ × ℕ) : Type 0 where
  pub rest : (log_reading n before b).rest ≡ []
  pub sum : (log_reading n before b).sum ≡ last

-- Bytes 0 to 7 of a log are NORBDLOG, bytes 8 to 15 the sum of the image's bytes on which it was
-- begun.
abbrev pub has_head : List ℕ → Bool
has_head log = nat_lt 15 (length log) && little_from 0 4 log == 0x4252_4F4E
    && little_from 4 4 log == 0x474F_4C44

abbrev pub head_sum : List ℕ → ℕ × ℕ
head_sum log = sum_at 8 log

-- NORBDLOG
abbrev pub log_name : List ℕ
log_name = 0x4E ∷ 0x4F ∷ 0x52 ∷ 0x42 ∷ 0x44 ∷ 0x4C ∷ 0x4F ∷ 0x47 ∷ []

-- so many bytes of the name, and zeros behind them
abbrev pub IsTornAt : ℕ → List ℕ → Type 0
IsTornAt k front = (take k front ≡ take k log_name) × All (λ byte. byte ≡ 0) (drop k front)

-- a part of a head, or none of it: a part of its name and zeros, or the name and a part of its sum
abbrev pub IsTorn : List ℕ → Type 0
IsTorn front = ((k : ℕ) × (k < 8) × IsTornAt k front)
    ⊎ ((length front < 16) × (take 8 front ≡ log_name))

-- a log that was never begun, or of whose head a part is there
abbrev pub IsBlank : List ℕ → Type 0
IsBlank log = IsTorn (take 16 log)

-- the changes in a log of a disk of n sectors; the first goes on from the sum in the head
abbrev pub log_changes : ℕ → List ℕ → LogReading
log_changes n log = if has_head log
    then log_reading n (head_sum log) (drop 16 log)
    else record { changes = []; sum = (0, 0); rest = [] }

-- no record follows its head: nothing but zeros does
abbrev pub IsBare : ℕ → List ℕ → Type 0
IsBare n log = ((log_changes n log).changes ≡ []) × All (λ byte. byte ≡ 0) (drop 16 log)

-- whether there is a checkpoint behind the changes: it counts only when it is whole
abbrev pub has_checkpoint : ℕ → List ℕ → Bool
has_checkpoint n log = begins_checkpoint (log_changes n log).sum (log_changes n log).rest

-- What an image and the log beside it hold together, where an image's bytes represent the contents
-- of a disk of n sectors. With a checkpoint it is what the image represents once its blocks are
-- placed; else what it represents, with the changes of the log.
abbrev pub contents_in : (List ℕ → List ℕ) → ℕ → List ℕ → List ℕ → List ℕ
contents_in represents n image log = if has_checkpoint n log
    then represents (placed_in (log_changes n log).rest image)
    else replayed (log_changes n log).changes (represents image)

-- An image file and the log beside it, of a disk of so many sectors.
pub record Medium : Type 0 where
  pub sectors : ℕ
  pub image : List ℕ
  pub log : List ℕ
  -- so many first bytes of the log are on the medium, whatever happens to the host
  pub safe : ℕ
  -- whether all bytes of the image are
  pub settled : Bool

-- what files that tell hold; of others it is what the disk in memory holds
abbrev pub held : (List ℕ → List ℕ) → Option Medium → List ℕ → List ℕ
held represents None contents = contents
held represents (Some m) contents = contents_in represents m.sectors m.image m.log

-- a log that was begun on this image, and is changes to its end, the last of which has this sum
pub record IsBegunLog (m : Medium) (image : List ℕ) (last : ℕ × ℕ) : Type 0 where
  pub same : m.image ≡ image
  pub head : has_head m.log ≡ true
  pub own : head_sum m.log ≡ image_sum image
  pub whole : IsWholeLog m.sectors (head_sum m.log) (drop 16 m.log) last

-- two pairs of files hold the same, whatever an image represents
abbrev pub HoldsAs : Medium → Medium → Type 0
HoldsAs old new = (represents : List ℕ → List ℕ)
    → contents_in represents new.sectors new.image new.log
    ≡ contents_in represents old.sectors old.image old.log
