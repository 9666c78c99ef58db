-- What contracts see of a session, for which texts it stands, and what its answers say of them.
-- Source: own.
use Rattle.std.specs.Prelude.{ℕ, ◌≡◌, ◌≤◌, ◌<◌, ◌^◌, ◌+◌, Bool, true, false, List, [], ◌∷◌}
use Rattle.std.specs.Prelude.{length, take, drop}
use Rattle.std.specs.Prelude.{Option, Some, None}
use Rattle.nbd_wire.specs.declared.export.Export.{Export}
use Rattle.nbd_wire.specs.Numbers.{REPLY_LEN, REQUEST_LEN}
use Rattle.nbd_wire.specs.declared.command.Command.{Command}
use Rattle.nbd_wire.specs.declared.phase.Phase.{Phase}
use Rattle.nbd_wire.specs.declared.phase.Phase.TheVariants.{AwaitingFlags, Negotiating as Choosing}
use Rattle.nbd_wire.specs.declared.phase.Phase.TheVariants.{Transmitting, Closed}
use Rattle.nbd_wire.specs.Commands.{is_disconnect, judge_of}
use Rattle.nbd_wire.specs.Parser.{ParserState, HoldsRest, ParserRepresents as ParserStandsFor}
use Rattle.nbd_wire.specs.Units.{Splits}
use Rattle.nbd_handshake.specs.Parser.{KEPT_LEN}
use Rattle.nbd_handshake.specs.Greeting.{greeting_bytes}
use Rattle.nbd_handshake.specs.Negotiating.{IsNegotiation}
use Rattle.nbd_transmission.specs.Taking.{IsRefused, payload_of}
use Rattle.nbd_wire.specs.declared.next.Next.{Next}
use Rattle.nbd_wire.specs.declared.next.Next.TheVariants.{More, Reply, Run, Close}
use Rattle.nbd_transmission.specs.declared.transmission.Refusal.{Refusal}
use Rattle.nbd_transmission.specs.Apply.{head_of}
use Rattle.nbd_session.specs.declared.session.ReplyTo.{ReplyTo}
use Rattle.nbd_session.specs.declared.session.ReplyTo.TheVariants.{Negotiation, LastOption, Refused}
use Rattle.nbd_session.specs.declared.session.ReplyTo.TheVariants.{UnknownExport}
use Rattle.nbd_session.specs.declared.stage.Stage.{Stage}
use Rattle.nbd_session.specs.declared.stage.Stage.TheVariants.{Negotiating, Requesting, Ended}
use Rattle.nbd_wire.specs.Lent.{payload_in}
use Rattle.nbd_session.specs.Lent.{IsRunnable, lent_now}
use Rattle.nbd_session.specs.Parts.{Told, ForDisk, Last, Gains}

-- the least length of a session's buffer in bytes: a reply's head of 16 bytes, and the 65,536 bytes
-- of data of the largest READ or WRITE where nothing else is asked for
abbrev pub STORE_LEN : ℕ
STORE_LEN = 65552

pub record SessionState : Type 0 where
  pub export : Export
  pub stage : Stage
  -- what the two parsers hold
  pub handshake : ParserState
  pub transmission : ParserState
  -- the command that runs
  pub running : Option Command
  -- the one buffer: room for a reply's head, and behind it for a payload or for data
  pub bytes : List ℕ
  -- how many bytes of the payload of the WRITE begun have come
  pub filled : ℕ
  -- how long the reply is
  pub replied : ℕ
  -- how many bytes of memory the buffer takes
  pub memory : ℕ

-- the reply
abbrev pub reply_of : SessionState → List ℕ
reply_of line = take line.replied line.bytes

-- the bytes that are lent to the command that runs
abbrev pub room_of : SessionState → List ℕ
room_of line = take (lent_now line.running) (drop REPLY_LEN line.bytes)

-- the payload so far of the WRITE begun
abbrev pub payload_so_far : SessionState → List ℕ
payload_so_far line = take line.filled (drop REPLY_LEN line.bytes)

abbrev pub is_ended : Stage → Bool
is_ended Negotiating = false
is_ended Requesting = false
is_ended Ended = true

-- whether the connection is closed
abbrev pub is_closed : SessionState → Bool
is_closed line = is_ended line.stage

-- a transmission represents a text, and what it has of a payload is what has come of it
pub record Carries (start : Phase) (line : SessionState) (text : List ℕ) : Type 0 where
  pub parser : ParserStandsFor REQUEST_LEN start line.transmission text
  pub payload : payload_so_far line ≡ payload_of line.export parser.rest

-- a text whose units lead to a close
pub record LeadsToClose (start : Phase) (text : List ℕ) : Type 0 where
  pub units : List (List ℕ)
  pub rest : List ℕ
  pub split : Splits start text units rest Closed

-- A session represents each text whose units lead to its phase and whose rest is held by the parser
-- of that phase.
abbrev pub StageRepresents : Phase → Stage → SessionState → List ℕ → Type 0
StageRepresents start Negotiating line text = ParserStandsFor KEPT_LEN start line.handshake text
StageRepresents start Requesting line text = Carries start line text
StageRepresents start Ended line text = LeadsToClose start text

abbrev pub SessionRepresents : Phase → SessionState → List ℕ → Type 0
SessionRepresents start line text = StageRepresents start line.stage line text

-- What an answer says of a text that grows from old to new: it gains no part, a reply that is told,
-- a command that is asked with the payload that is lent, or the last; and the session represents
-- the longer text.
abbrev pub SessionSays : Phase → Export → List ℕ → List ℕ → Next ReplyTo → SessionState → Type 0
SessionSays start export old new More line =
    Gains start export old new [] × SessionRepresents start line new
SessionSays start export old new (Reply _) line =
    Gains start export old new (Told (reply_of line) ∷ []) × SessionRepresents start line new
SessionSays start export old new (Run c) line =
    Gains start export old new (ForDisk c (payload_in c (room_of line)) ∷ [])
    × SessionRepresents start line new
SessionSays start export old new Close line =
    Gains start export old new (Last (reply_of line) ∷ []) × SessionRepresents start line new

-- A command runs: it is accepted, its bytes are there, and nothing of another unit or reply is.
pub record IsRunning (export : Export) (c : Command) (line : SessionState) : Type 0 where
  pub running : line.running ≡ Some c
  pub accepted : judge_of c export ≡ None
  pub is_request : is_disconnect c.kind ≡ false
  pub room : length (room_of line) ≡ lent_now (Some c)
  pub filled : line.filled ≡ 0
  pub replied : line.replied ≡ 0

-- What a reply answers: the phase that it tells is the session's, and a refusal is the request
-- table's and is what the reply says.
abbrev pub IsReplyTo : Export → SessionState → ReplyTo → Type 0
IsReplyTo export line Negotiation = line.stage ≡ Negotiating
IsReplyTo export line (UnknownExport name) = line.stage ≡ Negotiating
IsReplyTo export line LastOption = line.stage ≡ Requesting
IsReplyTo export line (Refused refusal) =
    IsRefused export refusal × (reply_of line ≡ head_of refusal.command refusal.error)

-- what runs after an answer, and what a reply is to; without a Reply or Close there is no reply
abbrev pub RunsAfter : Export → Next ReplyTo → SessionState → Type 0
RunsAfter export More line = (line.running ≡ None) × (line.replied ≡ 0)
RunsAfter export (Reply to) line = (line.running ≡ None) × IsReplyTo export line to
RunsAfter export (Run c) line = IsRunning export c line
RunsAfter export Close line = line.running ≡ None

-- only a Close closes
abbrev pub is_close : Next ReplyTo → Bool
is_close More = false
is_close (Reply _) = false
is_close (Run c) = false
is_close Close = true

-- the same session without a reply and without a command
abbrev pub silent : SessionState → SessionState
silent line = record line { running = None; replied = 0 }

-- a session as it was opened: nothing has come, and its reply is the greeting
pub record IsFreshSession (export : Export) (line : SessionState) : Type 0 where
  pub export_is : line.export ≡ export
  pub stage : line.stage ≡ Negotiating
  pub handshake : line.handshake ≡
      record { export = export; phase = AwaitingFlags; kept = []; count = 0 }
  pub running : line.running ≡ None
  pub filled : line.filled ≡ 0
  pub reply : reply_of line ≡ greeting_bytes
  pub represents : SessionRepresents AwaitingFlags line []

-- a transmission holds so many bytes of a payload, and these are as many as have come of it
pub record IsHolding (transmission : ParserState) (filled : ℕ) : Type 0 where
  pub phase : transmission.phase ≡ Transmitting
  pub rest : List ℕ
  pub keeps : HoldsRest REQUEST_LEN transmission rest
  pub filled_is : filled ≡ length (payload_of transmission.export rest)

-- the same after an answer of the transmission: behind a complete request nothing is held
abbrev pub HoldsAfter : Next Refusal → ParserState → ℕ → Type 0
HoldsAfter More transmission filled = IsHolding transmission filled
HoldsAfter (Reply refusal) transmission filled = IsHolding transmission 0
HoldsAfter (Run c) transmission filled = IsHolding transmission 0
HoldsAfter Close transmission filled = Unit {0}

-- what holds of the parser that is at work
abbrev pub InStage : Stage → ParserState → ParserState → ℕ → Type 0
InStage Negotiating handshake transmission filled = IsNegotiation handshake.phase
InStage Requesting handshake transmission filled = IsHolding transmission filled
InStage Ended handshake transmission filled = Unit {0}

-- what holds of every session
pub record IsSoundSession (export : Export) (stage : Stage) (handshake transmission : ParserState)
    (running : Option Command) (len filled replied : ℕ) : Type 0 where
  pub size : REPLY_LEN + export.max_len ≤ len
  pub least : STORE_LEN ≤ len
  pub most : len < 2 ^ 32
  pub negotiates : handshake.export ≡ export
  pub transmits : transmission.export ≡ export
  pub runs : IsRunnable export running
  pub fits : filled ≤ export.max_len
  pub replies : replied ≤ len
  pub works : InStage stage handshake transmission filled

-- what a connection that begins in this phase is sent first: the greeting where it negotiates
abbrev pub opening : Phase → List ℕ
opening AwaitingFlags = greeting_bytes
opening (Choosing no_zeroes) = []
opening Transmitting = []
opening Closed = []

-- a session whose connection begins in this phase: nothing has come, and its reply is what is sent
-- first
pub record BeginsSession (start : Phase) (export : Export) (line : SessionState) : Type 0 where
  pub export_is : line.export ≡ export
  pub is_open : is_closed line ≡ false
  pub reply : reply_of line ≡ opening start
  pub represents : SessionRepresents start line []
