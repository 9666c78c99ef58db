-- What the units of a negotiation are answered. Source: NBD proto.md; own is that flags that aren't
-- known and a wrong magic close without a reply.
use Rattle.std.specs.Prelude.{ℕ, ◌≡◌, ◌⊎◌, Bool, List, [], drop, Option, Some, None}
use Rattle.nbd_wire.specs.declared.export.Export.{Export}
use Rattle.nbd_wire.specs.Numbers.{OPTION_LEN}
use Rattle.nbd_wire.specs.declared.option.OptionHead.{OptionHead}
use Rattle.nbd_wire.specs.declared.phase.Phase.{Phase}
use Rattle.nbd_wire.specs.declared.phase.Phase.TheVariants.{AwaitingFlags, Negotiating}
use Rattle.nbd_wire.specs.declared.phase.Phase.TheVariants.{Transmitting, Closed}
use Rattle.nbd_wire.specs.Options.{option_at, case_of, reply_in_case}

-- the client's flags or an option come next
abbrev pub IsNegotiation : Phase → Type 0
IsNegotiation AwaitingFlags = Unit {0}
IsNegotiation (Negotiating no_zeroes) = Unit {0}
IsNegotiation Transmitting = ⊥
IsNegotiation Closed = ⊥

abbrev pub IsNegotiationOver : Phase → Type 0
IsNegotiationOver phase = (phase ≡ Transmitting) ⊎ (phase ≡ Closed)

-- the reply to an option, by its content; none to a head whose magic is wrong
abbrev pub option_reply_of : Export → Bool → Option OptionHead → List ℕ → List ℕ
option_reply_of export no_zeroes None content = []
option_reply_of export no_zeroes (Some o) content =
    reply_in_case (case_of o content) o.option no_zeroes export

-- the reply to a unit, of this export: none to the client's flags
abbrev pub negotiation_reply : Export → Phase → List ℕ → List ℕ
negotiation_reply export AwaitingFlags unit = []
negotiation_reply export (Negotiating no_zeroes) unit =
    option_reply_of export no_zeroes (option_at unit) (drop OPTION_LEN unit)
negotiation_reply export Transmitting unit = []
negotiation_reply export Closed unit = []
