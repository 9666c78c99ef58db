-- What one piece of a connection does: the layer below an event. Words of private
-- functions: no claim rests on them. Source: own.
use Rattle.std.specs.Prelude.{◌≡◌, ℕ, ◌<◌, true, false, List, [], ◌∷◌, ◌++◌, length}
use Rattle.std.specs.Prelude.{Option, Result, Ok, Err}
use Rattle.std.specs.Io.KnownBytes.{Appends}
use Rattle.block_device.specs.Facts.{Facts}
use Rattle.block_device.specs.Contents.{Outcome}
use Rattle.nbd_wire.specs.declared.command.Command.{Command}
use Rattle.nbd_wire.specs.Commands.{touches_chip}
use Rattle.nbd_transmission.specs.Apply.{applied}
use Rattle.nbd_session.specs.Sessions.{SessionState}
use Rattle.nbd_session.specs.Parts.{Part, ForDisk, closed}
use Rattle.nbd_connection.specs.declared.piece.PieceOutcome.{PieceOutcome}
use Rattle.nbd_connection.specs.declared.piece.PieceOutcome.TheVariants.{Open, Closed, OutputFailed}
use Rattle.nbd_connection.specs.declared.piece.PieceOutcome.TheVariants.{Lost}
use Rattle.nbd_station.specs.Answers.{reply_of_part, after_parts, replies}
use Rattle.nbd_station.specs.Records.{replied}
use Rattle.nbd_station.specs.World.{Lacked}
use Rattle.nbd_station.specs.StationState.{ServesText}

-- one connection at work: the disk, its session, and what was written so far
pub record PieceState : Type 0 where
  pub disk : Facts
  pub line : SessionState
  pub written : Option (List ℕ)

-- a disk of which all is said that is said of contents: sound, with power, not slow, and no
-- operation is slow until later
pub record IsRunQuiet (old new : Facts) : Type 0 where
  pub sound : old.sound ≡ true
  pub cut : old.cut ≡ false
  pub slow : old.slow ≡ false
  pub slows : new.slows ≡ old.slows

-- these parts more are answered
pub record SomeParts (who : ℕ) (old : PieceState) (text bytes out disk : List ℕ)
    (more : List Part) : Type 0 where
  pub lacked : Lacked old.line.export text bytes more
  pub out_is : out ≡ replies old.line.export who old.disk.contents more
  pub disk_is : disk ≡ after_parts old.line.export old.disk.contents more

-- some are answered, and then a command with a range is interrupted
pub record LostParts (who : ℕ) (old : PieceState) (text bytes out disk : List ℕ) : Type 0 where
  pub before : List Part
  pub command : Command
  pub payload : List ℕ
  pub rest : List Part
  pub lacked : Lacked old.line.export text bytes (before ++ ForDisk command payload ∷ rest)
  pub touches : touches_chip command.kind ≡ true
  pub out_is : out ≡ replies old.line.export who old.disk.contents before
  pub outcome : Outcome (after_parts old.line.export old.disk.contents before)
      (applied old.line.export (after_parts old.line.export old.disk.contents before) command
      payload) disk

-- The output fails in a piece: some parts were answered, and of the last of them a beginning of the
-- reply's record was taken.
pub record PartsHalt (who : ℕ) (old new : PieceState) (text bytes out : List ℕ) : Type 0 where
  pub before : List Part
  pub part : Part
  pub rest : List Part
  pub first : List ℕ
  pub unsent : List ℕ
  pub missing : 0 < length unsent
  pub lacked : Lacked old.line.export text bytes (before ++ part ∷ rest)
  pub out_is : replies old.line.export who old.disk.contents (before ++ part ∷ []) ≡ out ++ unsent
  pub split : out ≡ replies old.line.export who old.disk.contents before ++ first
  pub reply_is : replied who (reply_of_part old.line.export
      (after_parts old.line.export old.disk.contents before) part) ≡ first ++ unsent
  pub disk_is : new.disk.contents ≡ after_parts old.line.export old.disk.contents
      (before ++ part ∷ [])

-- whether the output took all that was written
abbrev pub output_of : PieceOutcome → Result (Unit {0}) (Unit {0})
output_of Open = Ok tt
output_of Closed = Ok tt
output_of OutputFailed = Err tt
output_of Lost = Ok tt

-- the power is still there, or it went just now
abbrev pub PowerAtEnd : PieceOutcome → Facts → Facts → Type 0
PowerAtEnd Open old new = new.cut ≡ false
PowerAtEnd Closed old new = new.cut ≡ false
PowerAtEnd OutputFailed old new = new.cut ≡ false
PowerAtEnd Lost old new = (new.cut ≡ true) × (old.cuts < new.cuts)

-- what a piece says of a text that got longer by its bytes
abbrev pub PieceSays : ℕ → PieceState → PieceState → List ℕ → List ℕ → List ℕ → PieceOutcome
    → Type 0
PieceSays who old new text bytes out Open =
    ((more : List Part) × (closed more ≡ false)
    × SomeParts who old text bytes out new.disk.contents more) × ServesText new.line (text ++ bytes)
PieceSays who old new text bytes out Closed = (more : List Part) × (closed more ≡ true)
    × SomeParts who old text bytes out new.disk.contents more
PieceSays who old new text bytes out OutputFailed = PartsHalt who old new text bytes out
PieceSays who old new text bytes out Lost = LostParts who old text bytes out new.disk.contents

-- what a whole piece does
pub record Pieced (who : ℕ) (old new : PieceState) (progress : PieceOutcome)
    (bytes : List ℕ) : Type 0 where
  pub power : PowerAtEnd progress old.disk new.disk
  pub slow : new.disk.slow ≡ false
  pub says : (text : List ℕ) → ServesText old.line text →
      (out : List ℕ) × Appends old.written new.written out
      × PieceSays who old new text bytes out progress
