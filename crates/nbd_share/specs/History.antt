-- Rows of commands that ran one after another on one disk, and when they are a legal history.
-- Source: own.
use Rattle.std.specs.Prelude.{◌≡◌, ◌⊎◌, ℕ, ◌==◌, ◌||◌, List, [], ◌∷◌, ◌++◌, length, Bool, true}
use Rattle.std.specs.Prelude.{Option, Some, None, if◌then◌else◌}
use Rattle.nbd_wire.specs.declared.export.Export.{Export}
use Rattle.block_device.specs.Contents.{Outcome}
use Rattle.nbd_wire.specs.declared.command.Command.{Command}
use Rattle.nbd_wire.specs.Commands.{judge_of, touches_chip}
use Rattle.nbd_wire.specs.Numbers.{EIO}
use Rattle.nbd_transmission.specs.Apply.{changed_by, data_of}
use Rattle.nbd_share.specs.declared.recorder.Row.{Row}
use Rattle.nbd_share.specs.declared.recorder.Interrupted.{Interrupted}
use Rattle.nbd_wire.specs.Lent.{payload_in, payload_len_of, reply_in}

-- the row of a command that ran over these lent bytes
abbrev pub row_of : ℕ → Command → ℕ → List ℕ → Row
row_of connection command error bytes =
    record {
      connection = connection;
      command = command;
      payload = payload_in command bytes;
      error = error;
      reply = reply_in command error bytes;
    }

abbrev pub interrupted_of : Command → List ℕ → Interrupted
interrupted_of command bytes = record { command = command; payload = payload_in command bytes }

-- a row more, where rows are kept
abbrev pub rows_with : Bool → List Row → Row → List Row
rows_with keeps rows row = if keeps then rows ++ row ∷ [] else rows

-- the contents after a row: those with error 0 changed them
abbrev pub after_row : List ℕ → Row → List ℕ
after_row contents row = if row.error == 0 then changed_by contents row.command row.payload
    else contents

-- the contents after all rows with error 0, applied in order
abbrev pub replay : List ℕ → List Row → List ℕ
replay contents [] = contents
replay contents (row ∷ rows) = replay (after_row contents row) rows

-- What a loss of power in a command left of the contents: each sector is wholly as it was, or
-- wholly as the command was to make it. Where no command was interrupted, they are as they were.
abbrev pub IsLeft : Option Interrupted → List ℕ → List ℕ → Type 0
IsLeft None old new = new ≡ old
IsLeft (Some lost) old new = Outcome old (changed_by old lost.command lost.payload) new

-- a row with error EIO stands among them, or one was before
abbrev pub has_failed : Bool → List Row → Bool
has_failed failed [] = failed
has_failed failed (row ∷ rows) = has_failed (failed || row.error == EIO) rows

-- A row that may stand at this point of a history.
pub record MayComeNext (export : Export) (contents : List ℕ) (failed : Bool) (row : Row) : Type 0
  where
    pub accepted : judge_of row.command export ≡ None
    pub payload : length row.payload ≡ payload_len_of row.command.kind row.command
    pub error : (row.error ≡ 0) ⊎ (row.error ≡ EIO)
    -- answered 0: with the data of the contents at this point
    pub answered : row.error ≡ 0 → row.reply ≡ data_of contents row.command
    -- answered EIO: a READ, WRITE, TRIM or WRITE_ZEROES, without data
    pub refused : row.error ≡ EIO → (touches_chip row.command.kind ≡ true) × (row.reply ≡ [])
    -- after an EIO none of these is answered 0
    pub later : failed ≡ true → touches_chip row.command.kind ≡ true → row.error ≡ EIO

-- the rows may stand from this point on
abbrev pub IsLegal : Export → List ℕ → Bool → List Row → Type 0
IsLegal export contents failed [] = Unit {0}
IsLegal export contents failed (row ∷ rows) =
    MayComeNext export contents failed row
    × IsLegal export (after_row contents row) (failed || row.error == EIO) rows
