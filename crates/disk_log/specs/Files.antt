-- What the calls of the two files leave. Source: own; a write that fails or is killed has written a
-- beginning of its bytes (POSIX, write), or any bytes in place of those that were there.
use Rattle.std.specs.Prelude.{◌≡◌, ◌⊎◌, ◌+◌, ◌*◌, ◌≤◌, ℕ, Bool, true, false, List, ◌++◌, length}
use Rattle.std.specs.Prelude.{take, drop, Option, Some, None, Result, Ok, Err}
use Rattle.block_device.specs.Contents.{replaced}
use Rattle.disk_log.specs.Records.{count_in}
use Rattle.disk_log.specs.Checkpoints.{KeepsOthers, HasBlock}
use Rattle.disk_log.specs.Logs.{Medium, contents_in, has_checkpoint, log_changes}

-- the log grows by these bytes, or by a beginning of them
abbrev pub Extends : {T E : Type 0} → Option Medium → List ℕ → Result T E → Option Medium → Type 0
Extends None bytes result new = new ≡ None
Extends (Some m) bytes (Ok _) new = new ≡ Some (record m { log = m.log ++ bytes })
Extends (Some m) bytes (Err _) new = (taken rest : List ℕ) × (bytes ≡ taken ++ rest)
    × (new ≡ Some (record m { log = m.log ++ taken }))

-- all of the log is on the medium, or some of it
abbrev pub SyncsLog : {T E : Type 0} → Option Medium → Result T E → Option Medium → Type 0
SyncsLog None result new = new ≡ None
SyncsLog (Some m) (Ok _) new = new ≡ Some (record m { safe = length m.log })
SyncsLog (Some m) (Err _) new =
    (safe : ℕ) × (m.safe ≤ length m.log → safe ≤ length m.log)
    × (new ≡ Some (record m { safe = safe }))

-- the block has these bytes, or any
abbrev pub WritesBlock : {T E : Type 0} → ℕ → List ℕ → Option Medium → Result T E → Option Medium
    → Type 0
WritesBlock block bytes None result new = new ≡ None
WritesBlock block bytes (Some m) (Ok _) new =
    new ≡ Some (record m { image = replaced m.image (4096 * block) bytes; settled = false })
WritesBlock block bytes (Some m) (Err _) new =
    (image : List ℕ) × KeepsOthers (4096 * block) 4096 m.image image
    × (new ≡ Some (record m { image = image; settled = false }))

-- all of the image is on the medium, or some of it
abbrev pub SyncsImage : {T E : Type 0} → Option Medium → Result T E → Option Medium → Type 0
SyncsImage None result new = new ≡ None
SyncsImage (Some m) (Ok _) new = new ≡ Some (record m { settled = true })
SyncsImage (Some m) (Err _) new =
    (settled : Bool) × (new ≡ Some (record m { settled = settled }))

-- the log ends after so many bytes, on the medium too, or it is as it was
abbrev pub CutsLog : {T E : Type 0} → ℕ → Option Medium → Result T E → Option Medium → Type 0
CutsLog len None result new = new ≡ None
CutsLog len (Some m) (Ok _) new = new ≡ Some (record m { log = take len m.log; safe = len })
CutsLog len (Some m) (Err _) new = (log : List ℕ) × (safe : ℕ)
    × (((log ≡ m.log) × (safe ≡ m.safe)) ⊎ ((log ≡ take len m.log) × (safe ≤ length log)))
    × (new ≡ Some (record m { log = log; safe = safe }))

-- A block may be written into the image: all of the log is on the medium, and it has a checkpoint
-- in which the block has these bytes.
pub record IsLogged (m : Medium) (block : ℕ) (bytes : List ℕ) : Type 0 where
  pub fits : 4096 * block + 4096 ≤ length m.image
  pub safe : m.safe ≡ length m.log
  pub whole : has_checkpoint m.sectors m.log ≡ true
  pub there : HasBlock (count_in (log_changes m.sectors m.log).rest)
      (drop 32 (log_changes m.sectors m.log).rest) block bytes

-- The log may end after so many bytes: all of the image is on the medium, and the two files hold
-- the same without what is behind them.
pub record IsNeedless (len : ℕ) (m : Medium) : Type 0 where
  pub low : len ≤ length m.log
  pub settled : m.settled ≡ true
  pub same : (represents : List ℕ → List ℕ)
      → contents_in represents m.sectors m.image (take len m.log)
      ≡ contents_in represents m.sectors m.image m.log

-- a fact of files that tell
abbrev pub OfFiles : Option Medium → (Medium → Type 0) → Type 0
OfFiles None fact = Unit {0}
OfFiles (Some m) fact = fact m
