-- What is known of a server each time its lock is got, and what is done to it under the lock.
-- Source: own.
use Rattle.std.specs.Prelude.{◌≡◌, ℕ, ◌+◌, ◌*◌, List, [], ◌∷◌, ◌++◌, length, Bool, true, false}
use Rattle.std.specs.Prelude.{Option, None, Result, IfSome}
use mathlib.Core.List.{IsPrefix}
use Rattle.block_device.specs.declared.disk.DiskError.{DiskError}
use Rattle.block_device.specs.Facts.{Facts}
use Rattle.nbd_history.specs.Notes.{Sight, entries_by}
use Rattle.nbd_wire.specs.declared.command.Command.{Command}
use Rattle.nbd_wire.specs.declared.export.Export.{Export}
use Rattle.nbd_wire.specs.Commands.{judge_of}
use Rattle.nbd_wire.specs.Lent.{payload_len_of}
use Rattle.nbd_wire.specs.Numbers.{ENOMEM}
use Rattle.nbd_share.specs.declared.recorder.Interrupted.{Interrupted}
use Rattle.nbd_share.specs.declared.recorder.Row.{Row}
use Rattle.nbd_share.specs.declared.shared.Done.{Done}
use Rattle.nbd_share.specs.Doing.{Executes, IfReplied, NotesLost, OnLost, Tidied}
use Rattle.nbd_share.specs.History.{has_failed, replay, row_of, IsLeft, IsLegal}
use Rattle.nbd_share.specs.PassState.{PassState}
use Rattle.nbd_share.specs.State.{Served, IsKept}

-- what a server is by its type: whether rows are kept, whether its disk was sound at its start, of
-- what is served of it, and what it held then
pub record Start : Type 0 where
  pub keeps : Bool
  pub sound : Bool
  pub export : Export
  pub base : List ℕ

abbrev pub start_of : Bool → Bool → Export → List ℕ → Start
start_of keeps sound export base =
    record { keeps = keeps; sound = sound; export = export; base = base }

-- A state of such a server: its disk is sound where it was, and where rows are kept they are a
-- legal history of what it held.
pub record IsServed (start : Start) (a : Served) : Type 0 where
  pub size : length a.disk.contents ≡ 512 * start.export.sectors
  pub trusted : start.sound ≡ true → a.disk.sound ≡ true
  pub kept : start.keeps ≡ true → IsKept start.export a.disk a.base a.rows a.interrupted
  pub based : start.keeps ≡ true → start.sound ≡ true → a.base ≡ start.base

-- A server and its history: the rows of all commands that were answered, and the command that a Cut
-- interrupted, also where the server keeps none. They exist in proofs alone.
pub record Chronicled : Type 0 where
  pub served : Served
  pub rows : List Row
  pub interrupted : Option Interrupted

-- What a Cut left. It took at most one command, which the request table accepts: each sector is
-- wholly as it was, or wholly as that command was to make it. Where it came in tidying they are all
-- as they were.
pub record IsCutIn (export : Export) (interrupted : Option Interrupted)
    (old new : List ℕ) : Type 0 where
  pub accepted : IfSome interrupted (λ lost. judge_of lost.command export ≡ None)
  pub payload : IfSome interrupted (λ lost.
      length lost.payload ≡ payload_len_of lost.command.kind lost.command)
  pub left : IsLeft interrupted old new

-- The rows are a legal history of these contents, and while neither a Cut nor a Slow is latched in
-- a sound disk its contents are their replay; where a Cut is latched they are what it left of that.
pub record IsHistoryOf (export : Export) (disk : Facts) (base : List ℕ) (rows : List Row)
    (interrupted : Option Interrupted) : Type 0 where
  pub legal : disk.sound ≡ true → IsLegal export base false rows
  pub replayed : disk.sound ≡ true → disk.cut ≡ false → disk.slow ≡ false
      → disk.contents ≡ replay base rows
  pub cut : disk.sound ≡ true → disk.cut ≡ true
      → IsCutIn export interrupted (replay base rows) disk.contents
  pub failed : disk.cut ≡ false → has_failed false rows ≡ true → disk.slow ≡ true
  -- a command was interrupted only where a Cut is latched
  pub whole : disk.cut ≡ false → interrupted ≡ None

-- so this holds of a server each time its lock is got
pub record IsChronicled (start : Start) (a : Chronicled) : Type 0 where
  pub served : IsServed start a.served
  -- after a Cut every command is lost
  pub latched : start.sound ≡ true → a.served.disk.cut ≡ true → a.served.lost ≡ true
  -- where rows are kept they are the history
  pub recorded : start.keeps ≡ true → a.served.rows ≡ a.rows
  pub history : start.sound ≡ true
      → IsHistoryOf start.export a.served.disk start.base a.rows a.interrupted

abbrev pub connection_of : Row → ℕ
connection_of row = row.connection

-- A row was added to the history. It begins with what the hand had seen, and all its rows of the
-- hand were among these.
pub record Adds (old new : List Row) (v w : Sight Row) (row : Row) : Type 0 where
  pub grown : new ≡ old ++ row ∷ []
  pub seen : (w.by ≡ v.by) × (w.seen ≡ new)
  pub before : IsPrefix v.seen old
  pub own : entries_by connection_of v.by old ≡ entries_by connection_of v.by v.seen

-- What a command adds: its row, with exactly the reply that is handed out. Nothing where there was
-- no memory for a row, or where the command is lost.
pub record AddsRow (old new : List Row) (v w : Sight Row) (command : Command)
    (done : Done) : Type 0 where
  pub row : IfReplied done (λ a. (a.error ≡ ENOMEM → ⊥)
      → Adds old new v w (row_of v.by command a.error a.bytes))
  pub memory : IfReplied done (λ a. a.error ≡ ENOMEM → (new ≡ old) × (w ≡ v))
  pub lost : OnLost done ((new ≡ old) × (w ≡ v))

-- What one command does under the lock, through a door whose hand had seen so much of the history.
-- The states before and after are left unsaid; both stand in the one history of the server.
pub record ExecutesLocked (start : Start) (v w : Sight Row) (pass pass' : PassState)
    (command : Command) (bytes : List ℕ) (done : Done) : Type 0 where
  pub before : Chronicled
  pub after : Chronicled
  pub known : IsChronicled start before
  pub executes : Executes start.keeps before.served after.served pass pass' command bytes done
  pub adds : AddsRow before.rows after.rows v w command done
  pub notes : NotesLost before.served.lost before.interrupted after.interrupted command bytes done
  pub by : v.by ≡ pass.connection
  pub then : IsChronicled start after

-- and one `tidy`
abbrev pub TidiesLocked : Start → Result Bool DiskError → Type 0
TidiesLocked start result =
    (a : Chronicled) × ((b : Chronicled) × (IsChronicled start a × Tidied a.served b.served result
    × (b.rows ≡ a.rows) × (b.interrupted ≡ a.interrupted) × IsChronicled start b))

-- what each of these hands has seen is a beginning of this history, which has no other rows of it
abbrev pub AreMet : List Row → List (Sight Row) → Type 0
AreMet rows [] = Unit {0}
AreMet rows (hand ∷ hands) =
    IsPrefix hand.seen rows
    × (entries_by connection_of hand.by rows ≡ entries_by connection_of hand.by hand.seen)
    × AreMet rows hands

-- and one meeting of hands: they are of one history
pub record MeetsLocked (start : Start) (hands : List (Sight Row)) : Type 0 where
  pub now : Chronicled
  pub known : IsChronicled start now
  pub met : AreMet now.rows hands

-- and one end of a connection: the history at that time begins with all that its hand had seen, and
-- has no other row of its number
pub record EndsLocked (start : Start) (hand : Sight Row) (pass : PassState) : Type 0 where
  pub before : Chronicled
  pub after : Chronicled
  pub known : IsChronicled start before
  pub by : hand.by ≡ pass.connection
  pub seen : IsPrefix hand.seen before.rows
  pub own : entries_by connection_of hand.by before.rows
      ≡ entries_by connection_of hand.by hand.seen
  pub rows : after.rows ≡ before.rows
  pub interrupted : after.interrupted ≡ before.interrupted
  pub returned : after.served ≡ record before.served {
    returned = before.served.returned + 1;
    counted = before.served.counted + pass.count;
  }
  pub then : IsChronicled start after
