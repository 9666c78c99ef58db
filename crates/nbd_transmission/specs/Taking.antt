-- What a complete request of the transmission phase is answered. Source: NBD proto.md; own is that
-- nothing is said before a close.
use Rattle.std.specs.Prelude.{ℕ, ◌≡◌, ◌&&◌, Bool, false, is_none, List, [], drop, Option, Some}
use Rattle.std.specs.Prelude.{None, if◌then◌else◌}
use Rattle.nbd_wire.specs.declared.export.Export.{Export}
use Rattle.nbd_wire.specs.Numbers.{REQUEST_LEN}
use Rattle.nbd_wire.specs.declared.command.Request.{Request}
use Rattle.nbd_wire.specs.declared.command.Command.{Command}
use Rattle.nbd_wire.specs.declared.phase.Phase.{Phase}
use Rattle.nbd_wire.specs.declared.phase.Phase.TheVariants.{Transmitting, Closed}
use Rattle.nbd_wire.specs.Heads.{request_at}
use Rattle.nbd_wire.specs.Commands.{command_kind, command_in, is_write, is_disconnect, judge_of}
use Rattle.nbd_wire.specs.declared.next.Next.{Next}
use Rattle.nbd_wire.specs.declared.next.Next.TheVariants.{More, Reply, Run, Close}
use Rattle.nbd_transmission.specs.declared.transmission.Refusal.{Refusal}

-- an accepted command runs, another is refused with its error
abbrev pub verdict : Command → Option ℕ → Next Refusal
verdict c None = Run c
verdict c (Some error) = Reply record { command = c; error = error }

-- the answer to a request, or to a head whose magic is wrong: that and DISC close
abbrev pub answer_of : Export → Option Request → Next Refusal
answer_of export None = Close
answer_of export (Some r) = if is_disconnect (command_kind r.kind) then Close
    else verdict (command_in r) (judge_of (command_in r) export)

-- the answer to a unit
abbrev pub answer_to : Export → List ℕ → Next Refusal
answer_to export unit = answer_of export (request_at unit)

-- the phase of a parser that has given this answer
abbrev pub phase_of : Next Refusal → Phase
phase_of More = Transmitting
phase_of (Run c) = Transmitting
phase_of (Reply refusal) = Transmitting
phase_of Close = Closed

-- the request table refuses this command with this error
abbrev pub IsRefused : Export → Refusal → Type 0
IsRefused export refusal = judge_of refusal.command export ≡ Some refusal.error

-- a command that is to be run passes each check of the request table, and is none that closes; one
-- that is answered by a reply is refused by the table
abbrev pub IsJudged : Export → Next Refusal → Type 0
IsJudged export More = Unit {0}
IsJudged export (Run c) = (judge_of c export ≡ None) × (is_disconnect c.kind ≡ false)
IsJudged export (Reply refusal) = IsRefused export refusal
IsJudged export Close = Unit {0}

abbrev pub is_accepted_write : Export → Option Request → Bool
is_accepted_write export None = false
is_accepted_write export (Some r) =
    is_write (command_kind r.kind) && is_none (judge_of (command_in r) export)

-- the part of an accepted WRITE's payload that has come with these first bytes of its unit
abbrev pub payload_of : Export → List ℕ → List ℕ
payload_of export rest = if is_accepted_write export (request_at rest) then drop REQUEST_LEN rest
    else []
