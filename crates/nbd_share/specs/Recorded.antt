-- What contracts see of a full record. Source: own.
use Rattle.std.specs.Prelude.{ℕ, List, Option}
use Rattle.nbd_share.specs.declared.recorder.Row.{Row}
use Rattle.nbd_share.specs.declared.recorder.Interrupted.{Interrupted}

-- the contents at the start, the rows, the interrupted command, and the memory that is there: how
-- many rows may still be added, and how many bytes the next one may hold
pub record Recorded : Type 0 where
  pub base : List ℕ
  pub rows : List Row
  pub interrupted : Option Interrupted
  pub places : ℕ
  pub bytes : ℕ
