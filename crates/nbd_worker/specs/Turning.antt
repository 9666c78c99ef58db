-- What a command, and a piece, of a connection does. Words of private functions: no claim rests on
-- them. Source: own.
use Rattle.std.specs.Prelude.{◌≡◌, ℕ, ◌*◌, ◌≤◌, List, [], ◌∷◌, ◌++◌, length, Bool, true, false}
use Rattle.std.specs.Prelude.{Option, Some, None}
use Rattle.std.specs.Io.KnownBytes.{Appends}
use Rattle.block_device.specs.Streams.{FailsToSend}
use Rattle.nbd_wire.specs.declared.command.Command.{Command}
use Rattle.nbd_wire.specs.declared.phase.Phase.{Phase}
use Rattle.nbd_session.specs.Sessions.{SessionState, SessionRepresents, opening}
use Rattle.nbd_session.specs.Parts.{Part, IsPartsOf, closed}
use Rattle.nbd_connection.specs.declared.piece.Fate.{Fate}
use Rattle.nbd_connection.specs.declared.piece.Fate.TheVariants.{Replied, Untaken, Lost}
use Rattle.nbd_connection.specs.declared.piece.PieceOutcome.{PieceOutcome}
use Rattle.nbd_connection.specs.declared.piece.PieceOutcome.TheVariants.{Open, Closed, OutputFailed}
use Rattle.nbd_connection.specs.declared.piece.PieceOutcome.TheVariants.{Lost as LostPiece}
use Rattle.nbd_worker.specs.declared.attending.End.{End}
use Rattle.nbd_worker.specs.declared.attending.End.TheVariants.{Closed as ClosedEnd, Output}
use Rattle.nbd_worker.specs.declared.attending.End.TheVariants.{Lost as LostEnd}
use Rattle.nbd_share.specs.declared.door.Point.{Point}
use Rattle.nbd_share.specs.declared.door.Point.TheVariants.{Execute}
use Rattle.nbd_share.specs.declared.shared.Done.{Done}
use Rattle.nbd_worker.specs.ConnectionState.{PassesMore, DoorState, ConnectionState, Setting, asks}
use Rattle.nbd_worker.specs.ConnectionState.{executions, reads, setting}
use Rattle.nbd_worker.specs.Connection.{Executed, ExecutedAndLost, PartsAnsweredBy, ConnectionEnded}
use Rattle.nbd_worker.specs.Connection.{FailsBy}

-- what became of a command, before which the gate was passed
abbrev pub FateBy : {S G : Type 0} → (DoorState S → DoorState S → Command → List ℕ → Done → Type 0)
    → ConnectionState S G → ConnectionState S G → Command → List ℕ → Fate → Type 0
FateBy step a b command payload Replied =
    (out : List ℕ) × Executed step a.place b.place command payload out
    × Appends a.written b.written out × (b.failures ≡ a.failures)
FateBy step a b command payload Untaken =
    (out : List ℕ) × Executed step a.place b.place command payload out
    × FailsToSend a.written a.failures out b.written b.failures
FateBy step a b command payload Lost = ExecutedAndLost step a.place b.place command payload
    × (b.written ≡ a.written) × (b.failures ≡ a.failures)

abbrev pub CommandTurn : {S G : Type 0}
    → (DoorState S → DoorState S → Command → List ℕ → Done → Type 0)
    → (G → G → List Point → Type 0) → ConnectionState S G → ConnectionState S G → Command → List ℕ
    → Fate → Type 0
CommandTurn step passes a b command payload fate =
    FateBy step a b command payload fate × PassesMore passes a.gate b.gate (Execute ∷ [])

-- a reply is written, or a beginning of it, and the place and the gate are as they were
abbrev pub StateTells : {S G : Type 0} → ConnectionState S G → ConnectionState S G → List ℕ → Bool
    → Type 0
StateTells a b reply true = (b.place ≡ a.place) × (b.gate ≡ a.gate)
    × Appends a.written b.written reply × (b.failures ≡ a.failures)
StateTells a b reply false = (b.place ≡ a.place) × (b.gate ≡ a.gate)
    × FailsToSend a.written a.failures reply b.written b.failures

-- What stands after these bytes of a connection: all that is complete is answered, and the session
-- represents them.
pub record ConnectionUnderway {S G : Type 0}
    (step : DoorState S → DoorState S → Command → List ℕ → Done → Type 0)
    (passes : G → G → List Point → Type 0) (setting : Setting) (a b : ConnectionState S G)
    (text : List ℕ)
    (line : SessionState) : Type 0 where
  pub parts : List Part
  pub out : List ℕ
  pub points : List Point
  pub parts_are : IsPartsOf setting.start setting.export text parts
  pub runs : PartsAnsweredBy step a.place parts out b.place
  pub is_open : closed parts ≡ false
  pub represents : SessionRepresents setting.start line text
  pub wrote : Appends a.written b.written (opening setting.start ++ out)
  pub passed : passes a.gate b.gate points
  pub executed : executions points ≡ asks parts
  pub quiet : b.failures ≡ a.failures

-- What a piece made of the connection that was underway: it goes on, or has ended.
abbrev pub PieceBy : {S G : Type 0} → (DoorState S → DoorState S → Command → List ℕ → Done → Type 0)
    → (G → G → List Point → Type 0) → Setting → ConnectionState S G → ConnectionState S G → List ℕ
    → SessionState
    → Option End → Type 0
PieceBy step passes setting a b text line None =
    (w : ConnectionUnderway step passes setting a b text line)
    × (length text ≤ 65536 * reads w.points)
PieceBy step passes setting a b text line (Some end) =
    ConnectionEnded step passes setting a b text end × FailsBy end a.failures b.failures

-- how a connection ended with a piece, where it did
abbrev pub end_of : PieceOutcome → Option End
end_of Open = None
end_of Closed = Some ClosedEnd
end_of OutputFailed = Some Output
end_of LostPiece = Some LostEnd

-- the same of every connection that was underway, of pieces of at most 65,536 bytes
pub record PieceServes {S G : Type 0}
    (step : DoorState S → DoorState S → Command → List ℕ → Done → Type 0)
    (passes : G → G → List Point → Type 0) (a b : ConnectionState S G) (old new : SessionState)
    (piece : List ℕ) (result : Option End) : Type 0 where
  pub says : (start : Phase) (text : List ℕ) (first : ConnectionState S G)
      → (w : ConnectionUnderway step passes (setting start old.export) first a text old)
      → length (text ++ piece) ≤ 65536 * reads w.points
      → PieceBy step passes (setting start old.export) first b (text ++ piece) new result
