-- What one `execute` does. Source: own.
use Rattle.std.specs.Prelude.{◌≡◌, ◌⊎◌, ℕ, ◌+◌, ◌<◌, List, [], length, Bool, true, false}
use Rattle.std.specs.Prelude.{if◌then◌else◌, Option, Some, Result, OnOk, IsErrOf}
use Rattle.block_device.specs.declared.disk.DiskError.{DiskError}
use Rattle.block_device.specs.declared.disk.DiskError.TheVariants.{Cut, Slow}
use Rattle.block_device.specs.Contents.{Outcome}
use Rattle.block_device.specs.Facts.{Facts, CountsNeverFall, IsDiskReady, KeepsContents, Tidies}
use Rattle.nbd_wire.specs.declared.command.Command.{Command}
use Rattle.nbd_wire.specs.Commands.{is_read, touches_chip}
use Rattle.nbd_wire.specs.Numbers.{EIO, ENOMEM}
use Rattle.nbd_transmission.specs.Apply.{changed_by, data_of}
use Rattle.nbd_share.specs.declared.recorder.Interrupted.{Interrupted}
use Rattle.nbd_share.specs.declared.shared.Done.{Done}
use Rattle.nbd_share.specs.declared.shared.Done.TheVariants.{Replied, Lost}
use Rattle.nbd_share.specs.History.{interrupted_of, row_of, rows_with}
use Rattle.nbd_wire.specs.Lent.{reply_in}
use Rattle.nbd_share.specs.PassState.{PassState}
use Rattle.nbd_share.specs.State.{Reply, Served}

-- a fact of the answer
abbrev pub IfReplied : Done → (Reply → Type 0) → Type 0
IfReplied (Replied a) P = P a
IfReplied Lost P = Unit {0}

-- a fact where the command is lost
abbrev pub OnLost : Done → Type 0 → Type 0
OnLost (Replied a) P = Unit {0}
OnLost Lost P = P

-- one more, where rows are kept
abbrev pub one_more : Bool → ℕ → ℕ
one_more keeps n = if keeps then n + 1 else n

-- An answer names this command and holds the bytes that were lent, unchanged but for a READ's room.
pub record HoldsReply (command : Command) (bytes : List ℕ) (a : Reply) : Type 0 where
  pub command_is : a.command ≡ command
  pub error_is : (a.error ≡ 0) ⊎ ((a.error ≡ EIO) ⊎ (a.error ≡ ENOMEM))
  pub bytes_are : is_read command.kind ≡ false → a.bytes ≡ bytes
  pub length_is : length a.bytes ≡ length bytes

-- Answered 0: the disk changed and the data was read as the definition says, and no Cut or Slow was
-- in the way.
pub record Ran (old new : Facts) (command : Command) (bytes : List ℕ) (a : Reply) : Type 0 where
  pub contents : old.sound ≡ true → new.contents ≡ changed_by old.contents command bytes
  pub reply : old.sound ≡ true → reply_in command 0 a.bytes ≡ data_of old.contents command
  pub no_cut : (old.cut ≡ false) × (new.cut ≡ false)
  pub no_slow : (new.slow ≡ old.slow) × (touches_chip command.kind ≡ true → old.slow ≡ false)

-- Answered EIO: the disk answered Slow in this call.
pub record MetSlow (old new : Facts) (command : Command) : Type 0 where
  pub touches : touches_chip command.kind ≡ true
  pub latched : new.slow ≡ true
  pub cause : (old.slow ≡ true) ⊎ (old.slows < new.slows)
  pub no_cut : (old.cut ≡ false) × (new.cut ≡ false)

-- What an answer says of a command.
pub record RepliesToCommand (keeps : Bool) (old new : Served) (pass pass' : PassState)
    (command : Command) (bytes : List ℕ) (a : Reply) : Type 0 where
  pub holds : HoldsReply command bytes a
  -- 0 and EIO add exactly one row at the end, with exactly the reply that is handed out
  pub row : (a.error ≡ ENOMEM → ⊥)
      → new.rows ≡ rows_with keeps old.rows (row_of pass.connection command a.error a.bytes)
  pub counts : (a.error ≡ ENOMEM → ⊥) → pass'.count ≡ one_more keeps pass.count
  pub ran : a.error ≡ 0 → Ran old.disk new.disk command bytes a
  pub slow : a.error ≡ EIO → MetSlow old.disk new.disk command
  -- want of memory for a row changes nothing
  pub memory : a.error ≡ ENOMEM
      → (new ≡ old) × (pass'.count ≡ pass.count) × (keeps ≡ true) × (a.bytes ≡ bytes)
  pub interrupted : new.interrupted ≡ old.interrupted
  pub lost : (old.lost ≡ false) × (new.lost ≡ false)

-- What a lost command leaves: the disk answered Cut, in this call or in an earlier one.
pub record LosesCommand (keeps : Bool) (old new : Served) (pass pass' : PassState)
    (command : Command)
    (bytes : List ℕ) : Type 0 where
  pub rows : new.rows ≡ old.rows
  pub counts : pass'.count ≡ pass.count
  pub latched : new.disk.cut ≡ true
  pub cause : (old.disk.cut ≡ true) ⊎ (old.disk.cuts < new.disk.cuts)
  pub lost : new.lost ≡ true
  -- a Cut comes only where no Slow is latched
  pub quiet : old.disk.cut ≡ false → old.disk.slow ≡ false
  -- each sector is as it was, or as the command was to make it
  pub left : old.disk.sound ≡ true
      → Outcome old.disk.contents (changed_by old.disk.contents command bytes) new.disk.contents
  -- the command is kept where rows are
  pub interrupted : keeps ≡ true → old.lost ≡ false
      → new.interrupted ≡ Some (interrupted_of command bytes)

-- What `execute` does. `keeps`: rows are kept.
pub record Executes (keeps : Bool) (old new : Served) (pass pass' : PassState) (command : Command)
    (bytes : List ℕ) (done : Done) : Type 0 where
  pub replied : IfReplied done (RepliesToCommand keeps old new pass pass' command bytes)
  pub loses : OnLost done (LosesCommand keeps old new pass pass' command bytes)
  pub connection : pass'.connection ≡ pass.connection
  pub base : new.base ≡ old.base
  pub sound : new.disk.sound ≡ old.disk.sound
  pub goes : CountsNeverFall old.disk new.disk
  pub given : new.given ≡ old.given
  pub returned : (new.returned ≡ old.returned) × (new.counted ≡ old.counted)
  pub closed : new.closed ≡ old.closed
  pub no_rows : keeps ≡ false → new.rows ≡ []
  -- after Lost every command is lost at once
  pub stays_lost : old.lost ≡ true → (done ≡ Lost) × (new ≡ old)

-- The first command that is lost is noted as the one that the Cut interrupted, and no other is.
abbrev pub NotesLost : Bool → Option Interrupted → Option Interrupted → Command → List ℕ → Done
    → Type 0
NotesLost lost old new command bytes (Replied a) = new ≡ old
NotesLost lost old new command bytes Lost =
    new ≡ (if lost then old else Some (interrupted_of command bytes))

-- What `tidy` does: one step of the disk's tidying. It adds no row, and keeps all that was
-- recorded.
pub record Tidied (old new : Served) (result : Result Bool DiskError) : Type 0 where
  pub rows : new.rows ≡ old.rows
  pub base : new.base ≡ old.base
  pub interrupted : new.interrupted ≡ old.interrupted
  pub given : new.given ≡ old.given
  pub returned : (new.returned ≡ old.returned) × (new.counted ≡ old.counted)
  pub closed : new.closed ≡ old.closed
  pub sound : new.disk.sound ≡ old.disk.sound
  pub goes : CountsNeverFall old.disk new.disk
  -- false only where nothing is left to tidy, true only where less is left
  pub work : Tidies old.disk.work result new.disk.work
  -- Ok and Cut keep the contents
  pub contents : old.disk.sound ≡ true → KeepsContents old.disk.contents result new.disk.contents
  pub ok : OnOk result (IsDiskReady old.disk × IsDiskReady new.disk × (new.lost ≡ old.lost))
  -- after a Cut every later command is lost
  pub cut : IsErrOf result Cut → ((old.disk.cut ≡ true) ⊎ (old.disk.cuts < new.disk.cuts))
      × (new.disk.cut ≡ true) × (new.lost ≡ true)
  pub slow : IsErrOf result Slow → ((old.disk.slow ≡ true) ⊎ (old.disk.slows < new.disk.slows))
      × (new.disk.slow ≡ true) × (new.lost ≡ old.lost)
  pub alone : IsErrOf result Slow → (old.disk.cut ≡ false) × (new.disk.cut ≡ false)
  pub quiet : IsErrOf result Cut → old.disk.cut ≡ false → old.disk.slow ≡ false
