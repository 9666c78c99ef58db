-- How a checkpoint is placed, step by step. Source: own.
use Rattle.std.specs.Prelude.{◌≡◌, ◌⊎◌, ◌+◌, ◌-◌, ◌*◌, ◌/◌, ◌≤◌, ℕ, Bool, true, false, List, []}
use Rattle.std.specs.Prelude.{length, drop, Option, Some, None, Result, Ok, Err}
use Rattle.disk_log.specs.Records.{Change, count_in, with_change}
use Rattle.disk_log.specs.Checkpoints.{HasBlock, KeepsOthers, entry_number, bytes_of_entry}
use Rattle.disk_log.specs.Checkpoints.{with_block, with_blocks}
use Rattle.disk_log.specs.Logs.{Medium, IsBegunLog, HoldsAs, contents_in, has_checkpoint}
use Rattle.disk_log.specs.Logs.{log_changes}
use Rattle.disk_log.specs.Files.{OfFiles}
use Rattle.disk_log.specs.Power.{IsInOrder}

-- The files are written in order, whatever an image represents.
abbrev pub AreInOrder : Option Medium → Type 0
AreInOrder files = (represents : List ℕ → List ℕ) → OfFiles files (λ m. IsInOrder represents m)

-- A call that adds a change keeps the order of files whose log was begun, where the sectors are on
-- the disk.
abbrev pub StaysInOrder : Change → ℕ × ℕ → Option Medium → Option Medium → Type 0
StaysInOrder change before old new = (represents : List ℕ → List ℕ) → (image : List ℕ)
    → OfFiles old (λ m. IsInOrder represents m × IsBegunLog m image before
    × (change.first + length change.bytes / 512 ≤ m.sectors))
    → OfFiles new (λ m. IsInOrder represents m)

-- A call that makes the image one with the bytes `is` keeps the order of files whose log was begun
-- on it, where `is` represents what the files hold.
abbrev pub SettlesInOrder : List ℕ → Option Medium → Option Medium → Type 0
SettlesInOrder is old new = (represents : List ℕ → List ℕ)
    → OfFiles old (λ m. IsInOrder represents m
    × (contents_in represents m.sectors m.image m.log ≡ represents is))
    → OfFiles new (λ m. IsInOrder represents m)

-- What an append of a record with this change leaves of files whose log was begun, where the
-- sectors are on the disk: one change more; where it failed, the same ones, or one more.
abbrev pub Added : {T E : Type 0} → Change → Medium → Result T E → Medium → List ℕ → ℕ × ℕ → Type 0
Added change m (Ok _) m' image last = IsBegunLog m' image last × ((represents : List ℕ → List ℕ)
    → contents_in represents m'.sectors m'.image m'.log
    ≡ with_change (contents_in represents m.sectors m.image m.log) change)
Added change m (Err _) m' image last = (represents : List ℕ → List ℕ)
    → (contents_in represents m'.sectors m'.image m'.log
    ≡ contents_in represents m.sectors m.image m.log)
    ⊎ (contents_in represents m'.sectors m'.image m'.log
    ≡ with_change (contents_in represents m.sectors m.image m.log) change)

abbrev pub AddsChange : {T E : Type 0} → Change → ℕ × ℕ → Option Medium → Result T E → ℕ × ℕ
    → Option Medium → Type 0
AddsChange change before None result last new = new ≡ None
AddsChange change before (Some m) result last new = (m' : Medium) × (new ≡ Some m')
    × (m'.sectors ≡ m.sectors)
    × ((image : List ℕ) → IsBegunLog m image before
    → change.first + length change.bytes / 512 ≤ m.sectors → Added change m result m' image last)

-- The log has so many entries of a checkpoint, and all of it is on the medium.
pub record HasBlocks (m : Medium) (len count : ℕ) (entries : List ℕ) : Type 0 where
  pub size : length m.image ≡ len
  pub safe : m.safe ≡ length m.log
  pub whole : has_checkpoint m.sectors m.log ≡ true
  pub count_is : count_in (log_changes m.sectors m.log).rest ≡ count
  pub there : drop 32 (log_changes m.sectors m.log).rest ≡ entries

-- An entry of the log's checkpoint may be placed.
pub record HasEntryOf (m : Medium) (len : ℕ) (entry : List ℕ) : Type 0 where
  pub size : length m.image ≡ len
  pub safe : m.safe ≡ length m.log
  pub whole : has_checkpoint m.sectors m.log ≡ true
  pub there : HasBlock (count_in (log_changes m.sectors m.log).rest)
      (drop 32 (log_changes m.sectors m.log).rest) (entry_number entry) (bytes_of_entry entry)

abbrev pub PlacesEntry : {T E : Type 0} → List ℕ → Option Medium → Result T E → Option Medium
    → Type 0
PlacesEntry entry None result new = new ≡ None
PlacesEntry entry (Some m) (Ok _) new = (settled : Bool)
    × (new ≡ Some (record m { image = with_block m.image entry; settled = settled }))
PlacesEntry entry (Some m) (Err _) new = (image : List ℕ)
    × (4096 * entry_number entry + 4096 ≤ length m.image)
    × KeepsOthers (4096 * entry_number entry) 4096 m.image image
    × (new ≡ Some (record m { image = image; settled = false }))

-- All blocks are in their places, or any bytes are where blocks come.
abbrev pub PlacesBlocks : {T E : Type 0} → ℕ → List ℕ → Option Medium → Result T E → Option Medium
    → Type 0
PlacesBlocks count entries None result new = new ≡ None
PlacesBlocks count entries (Some m) (Ok _) new = (settled : Bool)
    × (with_blocks count entries (with_blocks count entries m.image)
    ≡ with_blocks count entries m.image)
    × (new ≡ Some (record m { image = with_blocks count entries m.image; settled = settled }))
PlacesBlocks count entries (Some m) (Err _) new = (image : List ℕ) × (settled : Bool)
    × (with_blocks count entries image ≡ with_blocks count entries m.image)
    × (new ≡ Some (record m { image = image; settled = settled }))

-- The blocks are in the image on the medium and the log is empty, or the files hold the same.
abbrev pub EmptiesLog : {T E : Type 0} → ℕ → List ℕ → Option Medium → Result T E → Option Medium
    → Type 0
EmptiesLog count entries None result new = new ≡ None
EmptiesLog count entries (Some m) (Ok _) new = new ≡ Some (record m {
  image = with_blocks count entries m.image;
  log = [];
  safe = 0;
  settled = true;
})
EmptiesLog count entries (Some m) (Err _) new = (m' : Medium) × (new ≡ Some m') × HoldsAs m m'

-- They hold what they did, or what the image in memory represents.
abbrev pub HoldsEither : Medium → List ℕ → Medium → Type 0
HoldsEither m is m' = (represents : List ℕ → List ℕ)
    → (contents_in represents m'.sectors m'.image m'.log
    ≡ contents_in represents m.sectors m.image m.log)
    ⊎ (contents_in represents m'.sectors m'.image m'.log ≡ represents is)

-- The checkpoint is in the log, on the medium.
abbrev pub LogsCheckpoint : {T E : Type 0} → List ℕ → List ℕ → Option Medium → Result T E
    → Option Medium → Type 0
LogsCheckpoint is body None result new = new ≡ None
LogsCheckpoint is body (Some m) (Ok _) new = (m' : Medium) × (new ≡ Some m')
    × (m'.sectors ≡ m.sectors) × (m'.image ≡ m.image)
    × HasBlocks m' (length is) ((length body - 8) / 4104) (drop 8 body)
LogsCheckpoint is body (Some m) (Err _) new = (m' : Medium) × (new ≡ Some m') × HoldsEither m is m'

-- The image has all changes, and the log was begun on it.
abbrev pub SettlesFiles : {T E : Type 0} → List ℕ → Option Medium → Result T E → ℕ × ℕ
    → Option Medium → Type 0
SettlesFiles is None result last new = new ≡ None
SettlesFiles is (Some m) (Ok _) last new = (m' : Medium) × (new ≡ Some m')
    × (m'.sectors ≡ m.sectors) × IsBegunLog m' is last × ((represents : List ℕ → List ℕ)
    → contents_in represents m'.sectors m'.image m'.log ≡ represents is)
SettlesFiles is (Some m) (Err _) last new = (m' : Medium) × (new ≡ Some m') × HoldsEither m is m'
