-- What becomes of a connection: the parts of its text are answered one after another through a
-- door. `step` is what one command through the door does (`through`), `passes` what the gate says
-- of the points passed. Source: own.
use Rattle.std.specs.Prelude.{◌≡◌, ◌⊎◌, ℕ, ◌+◌, ◌-◌, ◌*◌, ◌^◌, ◌<◌, ◌≤◌, List, [], ◌∷◌, ◌++◌}
use Rattle.std.specs.Prelude.{length, true, false}
use Rattle.std.specs.Io.KnownBytes.{Appends, Consumes, IsAtEnd}
use Rattle.nbd_wire.specs.declared.command.Command.{Command}
use Rattle.nbd_transmission.specs.Apply.{reply_with}
use Rattle.nbd_session.specs.Sessions.{opening}
use Rattle.nbd_session.specs.Parts.{Part, Told, ForDisk, Last, Gains, IsPartsOf, closed}
use Rattle.nbd_session.specs.Parts.{ends_silently}
use Rattle.nbd_worker.specs.declared.attending.End.{End}
use Rattle.nbd_worker.specs.declared.attending.End.TheVariants.{Closed as ClosedEnd, EndOfInput}
use Rattle.nbd_worker.specs.declared.attending.End.TheVariants.{Input, Output, Lost as LostEnd}
use Rattle.nbd_worker.specs.declared.attending.End.TheVariants.{OutOfMemory}
use Rattle.nbd_share.specs.declared.door.Point.{Point}
use Rattle.nbd_share.specs.declared.shared.Done.{Done}
use Rattle.nbd_share.specs.declared.shared.Done.TheVariants.{Replied, Lost}
use Rattle.nbd_wire.specs.Lent.{payload_in}
use Rattle.nbd_worker.specs.ConnectionState.{DoorState, ConnectionState, Setting, Reading, asks}
use Rattle.nbd_worker.specs.ConnectionState.{executions, reads}
use Rattle.nbd_share.specs.State.{Reply}

-- the bytes of an answer's reply
abbrev pub answer_bytes : Reply → List ℕ
answer_bytes a = reply_with a.command a.error a.bytes

-- A command was executed through the door, and answered with these bytes.
pub record Executed {S : Type 0}
    (step : DoorState S → DoorState S → Command → List ℕ → Done → Type 0)
    (a b : DoorState S) (command : Command) (payload out : List ℕ) : Type 0 where
  pub bytes : List ℕ
  pub reply : Reply
  pub payload_is : payload_in command bytes ≡ payload
  pub run : step a b command bytes (Replied reply)
  pub out_is : out ≡ answer_bytes reply

-- A command was executed through the door, and lost.
pub record ExecutedAndLost {S : Type 0}
    (step : DoorState S → DoorState S → Command → List ℕ → Done → Type 0) (a b : DoorState S)
    (command : Command) (payload : List ℕ) : Type 0 where
  pub bytes : List ℕ
  pub payload_is : payload_in command bytes ≡ payload
  pub run : step a b command bytes Lost

-- One part is answered with these bytes: a command goes through the door, all else leaves the place
-- as it was.
abbrev pub AnsweredBy : {S : Type 0}
    → (DoorState S → DoorState S → Command → List ℕ → Done → Type 0)
    → DoorState S → Part → List ℕ → DoorState S → Type 0
AnsweredBy step a (Told reply) out b = (out ≡ reply) × (b ≡ a)
AnsweredBy step a (ForDisk command payload) out b = Executed step a b command payload out
AnsweredBy step a (Last reply) out b = (out ≡ reply) × (b ≡ a)

-- The parts, one after another, are answered with these bytes.
abbrev pub PartsAnsweredBy : {S : Type 0}
    → (DoorState S → DoorState S → Command → List ℕ → Done → Type 0)
    → DoorState S → List Part → List ℕ → DoorState S → Type 0
PartsAnsweredBy step a [] out b = (out ≡ []) × (b ≡ a)
PartsAnsweredBy {S = S} step a (part ∷ more) out b =
    (first : List ℕ) × (others : List ℕ) × (mid : DoorState S) × (out ≡ first ++ others)
    × AnsweredBy step a part first mid × PartsAnsweredBy step mid more others b

-- ---- one turn

-- ---- a whole connection

-- The next part is a command, and is lost: `ahead` are the bytes behind the answered ones.
pub record LosesNext {S : Type 0}
    (step : DoorState S → DoorState S → Command → List ℕ → Done → Type 0)
    (setting : Setting) (a b : DoorState S) (text ahead : List ℕ) : Type 0 where
  pub unit : List ℕ
  pub others : List ℕ
  pub command : Command
  pub payload : List ℕ
  pub ahead_is : ahead ≡ unit ++ others
  pub next : Gains setting.start setting.export text (text ++ unit) (ForDisk command payload ∷ [])
  pub taken : ExecutedAndLost step a b command payload

-- where a connection stops: the bytes that were answered, their parts, the bytes behind them, and
-- what of the replies wasn't sent
pub record Stop : Type 0 where
  pub cut : List ℕ
  pub parts : List Part
  pub dropped : List ℕ
  pub unsent : List ℕ

-- What each end says of where a connection stops, and of the place after the last answer. Output
-- comes only where something was to be sent: some of it is missing, and no part closed the
-- connection without a reply.
abbrev pub EndsBy : {S : Type 0} → (DoorState S → DoorState S → Command → List ℕ → Done → Type 0)
    → Setting
    → DoorState S → DoorState S → Stop → End → Type 0
EndsBy step setting a b stop ClosedEnd =
    (closed stop.parts ≡ true) × (stop.unsent ≡ []) × (b ≡ a)
EndsBy step setting a b stop EndOfInput =
    (closed stop.parts ≡ false) × (stop.unsent ≡ []) × (stop.dropped ≡ []) × (b ≡ a)
EndsBy step setting a b stop Input =
    (closed stop.parts ≡ false) × (stop.unsent ≡ []) × (stop.dropped ≡ []) × (b ≡ a)
EndsBy step setting a b stop Output =
    (0 < length stop.unsent) × (ends_silently stop.parts ≡ false) × (b ≡ a)
EndsBy step setting a b stop LostEnd =
    (stop.unsent ≡ []) × LosesNext step setting a b stop.cut stop.dropped
EndsBy step setting a b stop OutOfMemory =
    (stop.cut ≡ []) × (stop.dropped ≡ []) × (stop.unsent ≡ opening setting.start) × (b ≡ a)

-- a lost command was let through the gate too
abbrev pub let_through : End → ℕ → ℕ
let_through ClosedEnd n = n
let_through EndOfInput n = n
let_through Input n = n
let_through Output n = n
let_through LostEnd n = n + 1
let_through OutOfMemory n = n

-- What was made of these bytes of a connection up to its end: what was sent is the opening and the
-- answers to all parts of the bytes that were answered, or a beginning of that.
pub record ConnectionEnded {S G : Type 0}
    (step : DoorState S → DoorState S → Command → List ℕ → Done → Type 0)
    (passes : G → G → List Point → Type 0) (setting : Setting) (a b : ConnectionState S G)
    (text : List ℕ)
    (end : End) : Type 0 where
  pub cut : List ℕ
  pub parts : List Part
  pub dropped : List ℕ
  pub out : List ℕ
  pub sent : List ℕ
  pub unsent : List ℕ
  pub points : List Point
  pub last : DoorState S
  pub text_is : text ≡ cut ++ dropped
  pub parts_are : IsPartsOf setting.start setting.export cut parts
  pub runs : PartsAnsweredBy step a.place parts out last
  pub out_is : opening setting.start ++ out ≡ sent ++ unsent
  pub wrote : Appends a.written b.written sent
  pub ends : EndsBy step setting last b.place
      (record { cut = cut; parts = parts; dropped = dropped; unsent = unsent }) end
  pub passed : passes a.gate b.gate points
  -- Read after each piece of at most 65,536 bytes, and Execute before each command
  pub pieces : length text ≤ 65536 * reads points
  pub executed : executions points ≡ let_through end (asks parts)

-- the writer's failed calls: some more where the output failed, and else none
abbrev pub FailsBy : End → ℕ → ℕ → Type 0
FailsBy ClosedEnd old new = new ≡ old
FailsBy EndOfInput old new = new ≡ old
FailsBy Input old new = new ≡ old
FailsBy Output old new = old < new
FailsBy LostEnd old new = new ≡ old
FailsBy OutOfMemory old new = new ≡ old

-- the reader's calls and bytes, by the end: Input comes only where a call failed, or after 2^64 - 1
-- bytes
abbrev pub ReadsBy : Reading → List ℕ → End → Type 0
ReadsBy read text ClosedEnd = read.fails ≡ read.failed
ReadsBy read text EndOfInput = IsAtEnd read.left × (read.fails ≡ read.failed)
ReadsBy read text Input = (read.failed < read.fails) ⊎ (2 ^ 64 - 1 ≤ length text)
ReadsBy read text Output = read.fails ≡ read.failed
ReadsBy read text LostEnd = read.fails ≡ read.failed
ReadsBy read text OutOfMemory = read.fails ≡ read.failed

-- the same of bytes that aren't named
abbrev pub ReadsSome : Reading → End → Type 0
ReadsSome read end =
    (text : List ℕ) × Consumes read.had read.left text × ReadsBy read text end

-- What a connection was, from its first byte to its end.
pub record Connection {S G : Type 0}
    (step : DoorState S → DoorState S → Command → List ℕ → Done → Type 0)
    (passes : G → G → List Point → Type 0) (setting : Setting) (a b : ConnectionState S G)
    (read : Reading)
    (end : End) : Type 0 where
  pub text : List ℕ
  pub took : Consumes read.had read.left text
  pub over : ConnectionEnded step passes setting a b text end
  pub reader : ReadsBy read text end
  pub writer : FailsBy end a.failures b.failures
