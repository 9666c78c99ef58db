-- What a loss of the host's power leaves of an image and its log. Source: own; of a file no more is
-- promised than what was synced (POSIX, fsync), so that all else may be any bytes.
use Rattle.std.specs.Prelude.{◌≡◌, ◌⊎◌, ◌≤◌, ◌+◌, ◌*◌, ◌/◌, ◌++◌, ℕ, zero, suc, true}
use Rattle.std.specs.Prelude.{List, length, take, drop, slice_index}
use Rattle.disk_log.specs.Records.{Change, is_whole, record_len, sum_in, replayed, count_in}
use Rattle.disk_log.specs.Checkpoints.{HasBlock, placed_in}
use Rattle.disk_log.specs.Logs.{Medium, has_head, head_sum, log_changes, has_checkpoint}
use Rattle.disk_log.specs.Logs.{contents_in}

-- The order in which the files are written: unless there is a whole checkpoint, and all of the log
-- is on the medium, all of the image is on the medium, and a checkpoint in the log changes nothing
-- of what the two hold.
pub record IsInOrder (represents : List ℕ → List ℕ) (m : Medium) : Type 0 where
  pub low : m.safe ≤ length m.log
  pub order : (has_checkpoint m.sectors m.log ≡ true → m.safe ≡ length m.log → ⊥)
      → (m.settled ≡ true) × (has_checkpoint m.sectors m.log ≡ true
      → represents (placed_in (log_changes m.sectors m.log).rest m.image)
      ≡ replayed (log_changes m.sectors m.log).changes (represents m.image))

-- Of the log: the bytes that are on the medium, and behind them any, and as many.
abbrev pub LeavesLog : Medium → List ℕ → Type 0
LeavesLog m log = take m.safe log ≡ take m.safe m.log

-- Of the image: all of it where it is on the medium; else any bytes in the blocks that the
-- checkpoint in the log has.
pub record LeavesImage (m : Medium) (image : List ℕ) : Type 0 where
  pub settled : m.settled ≡ true → image ≡ m.image
  pub size : length image ≡ length m.image
  pub others : (i : ℕ) → (slice_index image i ≡ slice_index m.image i)
      ⊎ ((4096 * (i / 4096) + 4096 ≤ length m.image)
      × (bytes : List ℕ) × HasBlock (count_in (log_changes m.sectors m.log).rest)
      (drop 32 (log_changes m.sectors m.log).rest) (i / 4096) bytes)

-- Where so many records, behind one with this sum, are read in what is left of a log, they are
-- those that were written.
unfoldable pub AreWritten : ℕ → ℕ × ℕ → List ℕ → List ℕ → Type 0
AreWritten zero before written left = Unit {0}
AreWritten (suc k) before written left = is_whole before left ≡ true
    → (take (record_len left) left ≡ take (record_len left) written)
    × AreWritten k (sum_in left) (drop (record_len left) written) (drop (record_len left) left)

-- No bytes but those that were written are a head, or have the sum of a record behind one. This is
-- a premise: that what a loss left has the right sum by chance, is possible.
pub record HasTrueSums (written left : List ℕ) : Type 0 where
  pub head : has_head left ≡ true → take 16 left ≡ take 16 written
  pub records : has_head left ≡ true
      → AreWritten (length left) (head_sum left) (drop 16 written) (drop 16 left)

-- A disk's contents after a beginning of the changes in its log, of which at least those that are
-- on the medium: what a kill at an earlier moment would have left.
pub record IsEarlierEnd (represents : List ℕ → List ℕ) (m : Medium) (contents : List ℕ)
    : Type 0 where
  pub changes : List Change
  pub later : List Change
  pub begins : (log_changes m.sectors m.log).changes ≡ changes ++ later
  pub unsynced : List Change
  pub least : changes ≡ (log_changes m.sectors (take m.safe m.log)).changes ++ unsynced
  pub holds : contents ≡ replayed changes (represents m.image)

-- Whatever a loss of the host's power leaves of two files that were written in order: what they
-- hold is what they held, or what they held at an earlier end.
abbrev pub SurvivorsHold : Type 0
SurvivorsHold = (represents : List ℕ → List ℕ) → (m : Medium) → (image log : List ℕ)
    → IsInOrder represents m → LeavesImage m image → LeavesLog m log → HasTrueSums m.log log
    → (contents_in represents m.sectors image log ≡ contents_in represents m.sectors m.image m.log)
    ⊎ IsEarlierEnd represents m (contents_in represents m.sectors image log)
