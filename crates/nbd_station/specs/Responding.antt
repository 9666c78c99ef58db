-- What the peer of a connection at a station does: it runs a command on the disk, and writes the
-- records of replies. Words of private functions: no claim rests on them. Source: own.
use Rattle.std.specs.Prelude.{◌≡◌, ℕ, Bool, true, false, List, Option, None, Result, Err}
use Rattle.std.specs.Prelude.{OnOk, IsErrOf}
use Rattle.std.specs.Io.KnownBytes.{Appends}
use Rattle.block_device.specs.declared.disk.DiskError.{DiskError}
use Rattle.block_device.specs.declared.disk.DiskError.TheVariants.{Cut, Slow}
use Rattle.block_device.specs.Facts.{Facts, CountsNeverFall}
use Rattle.block_device.specs.Streams.{FailsToSend}
use Rattle.nbd_wire.specs.declared.command.Command.{Command}
use Rattle.nbd_wire.specs.declared.export.Export.{Export}
use Rattle.nbd_wire.specs.Commands.{judge_of}
use Rattle.nbd_wire.specs.Lent.{payload_in}
use Rattle.nbd_wire.specs.Numbers.{EIO}
use Rattle.nbd_transmission.specs.Apply.{head_of, reply_to}
use Rattle.nbd_connection.specs.Effects.{CommandLeaves, CommandLatches}
use Rattle.nbd_connection.specs.declared.piece.Fate.{Fate}
use Rattle.nbd_connection.specs.declared.piece.Fate.TheVariants.{Replied, Untaken, Lost}
use Rattle.nbd_connection.specs.declared.piece.PieceOutcome.{PieceOutcome}
use Rattle.nbd_session.specs.Sessions.{SessionState}
use Rattle.nbd_station.specs.Records.{replied}
use Rattle.nbd_station.specs.Running.{FailsOnly}
use Rattle.nbd_station.specs.Telling.{SlowComes}
use Rattle.nbd_station.specs.Turning.{IsRunQuiet, Pieced, output_of}

-- a connection's number and export, the disk, what was written so far, and how many writes failed
pub record Post : Type 0 where
  pub who : ℕ
  pub export : Export
  pub disk : Facts
  pub written : Option (List ℕ)
  pub faults : ℕ

abbrev pub post : ℕ → Export → Facts → Option (List ℕ) → ℕ → Post
post who export disk written faults = record {
  who = who;
  export = export;
  disk = disk;
  written = written;
  faults = faults;
}

-- these bytes are written, or a beginning of them and a write failed
abbrev pub WritesBy : Post → List ℕ → Bool → Post → Type 0
WritesBy a bytes true b = Appends a.written b.written bytes × (b.faults ≡ a.faults)
WritesBy a bytes false b = FailsToSend a.written a.faults bytes b.written b.faults

-- what a command does to the disk, by the result of its run
pub record CommandRuns (a b : Post) (command : Command) (bytes : List ℕ)
    (result : Result (Unit {0}) DiskError) : Type 0 where
  pub who : b.who ≡ a.who
  pub export : b.export ≡ a.export
  pub accepted : judge_of command a.export ≡ None
  pub leaves : a.disk.sound ≡ true
      → CommandLeaves a.disk.contents command (payload_in command bytes) result b.disk.contents
  pub latches : CommandLatches command a.disk result b.disk
  pub sound : b.disk.sound ≡ a.disk.sound
  pub goes : CountsNeverFall a.disk b.disk

-- A command ran, or met a slow operation, and its reply is written: that of the disk's contents, or
-- EIO.
pub record CommandReplied (a b : Post) (command : Command) (bytes : List ℕ)
    (taken : Bool) : Type 0 where
  pub result : Result (Unit {0}) DiskError
  pub reply : List ℕ
  pub runs : CommandRuns a b command bytes result
  pub power : b.disk.cut ≡ false
  pub ok : OnOk result (a.disk.sound ≡ true
      → reply ≡ reply_to a.export a.disk.contents command)
  pub slow : IsErrOf result Slow → reply ≡ head_of command EIO
  pub wrote : WritesBy a (replied a.who reply) taken b

-- what becomes of a command; where the power went nothing is written
abbrev pub PostAnswers : Post → Post → Command → List ℕ → Fate → Type 0
PostAnswers a b command bytes Replied = CommandReplied a b command bytes true
PostAnswers a b command bytes Untaken = CommandReplied a b command bytes false
PostAnswers a b command bytes Lost = CommandRuns a b command bytes (Err Cut)
    × (b.written ≡ a.written) × (b.faults ≡ a.faults)

-- a reply's record is written, and the disk is as it was
abbrev pub PostTells : Post → Post → List ℕ → Bool → Type 0
PostTells a b reply taken = (b.who ≡ a.who) × (b.export ≡ a.export) × (b.disk ≡ a.disk)
    × WritesBy a (replied a.who reply) taken b

-- what a piece of a session says of the disk and of what was written
pub record PostTakes (a b : Post) (line line' : SessionState) (bytes : List ℕ)
    (progress : PieceOutcome) : Type 0 where
  pub sound : b.disk.sound ≡ a.disk.sound
  pub goes : CountsNeverFall a.disk b.disk
  pub slow : SlowComes a.disk b.disk
  pub wrote : OnOk (output_of progress) ((wrote : List ℕ) × Appends a.written b.written wrote)
  pub faults : FailsOnly a.faults (output_of progress) b.faults
  pub says : IsRunQuiet a.disk b.disk → Pieced a.who
      (record { disk = a.disk; line = line; written = a.written })
      (record { disk = b.disk; line = line'; written = b.written }) progress bytes
