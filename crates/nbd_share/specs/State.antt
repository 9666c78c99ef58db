-- What contracts see of a server, and what its rows say of its disk. Source: own.
use Rattle.std.specs.Prelude.{◌≡◌, ℕ, List, Bool, true, false, Option, None}
use Rattle.nbd_wire.specs.declared.export.Export.{Export}
use Rattle.block_device.specs.Facts.{Facts}
use Rattle.nbd_wire.specs.declared.command.Command.{Command}
use Rattle.nbd_share.specs.declared.recorder.Row.{Row}
use Rattle.nbd_share.specs.declared.recorder.Interrupted.{Interrupted}
use Rattle.nbd_share.specs.History.{has_failed, replay, IsLeft, IsLegal}

-- The rows are a legal history of the contents at the start. While neither a Cut nor a Slow is
-- latched in the disk its contents are their replay; where a Cut is latched they are what it left
-- of that. All this is said of a sound disk.
pub record IsKept (export : Export) (disk : Facts) (base : List ℕ) (rows : List Row)
    (interrupted : Option Interrupted) : Type 0 where
  pub legal : disk.sound ≡ true → IsLegal export base false rows
  pub replayed : disk.sound ≡ true → disk.cut ≡ false → disk.slow ≡ false
      → disk.contents ≡ replay base rows
  -- the interrupted command is the one that the Cut took; where it came in tidying there is none
  pub cut : disk.sound ≡ true → disk.cut ≡ true
      → IsLeft interrupted (replay base rows) disk.contents
  -- after a Slow no Cut comes
  pub alone : disk.cut ≡ true → disk.slow ≡ false
  -- a row has error EIO only where a Slow is latched
  pub failed : has_failed false rows ≡ true → disk.slow ≡ true
  -- a command was interrupted only where a Cut is latched
  pub whole : disk.cut ≡ false → interrupted ≡ None

-- a server: its disk, the contents at the start, its rows, the command that a cut interrupted,
-- how many passes it gave, how many of them came back and with how many rows, whether the counts
-- are closed, and whether a command was lost
pub record Served : Type 0 where
  pub disk : Facts
  pub base : List ℕ
  pub rows : List Row
  pub interrupted : Option Interrupted
  pub given : ℕ
  pub returned : ℕ
  pub counted : ℕ
  pub closed : Bool
  pub lost : Bool

-- an answer: its command, its error, and the lent bytes
pub record Reply : Type 0 where
  pub command : Command
  pub error : ℕ
  pub bytes : List ℕ
