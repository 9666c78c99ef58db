-- How the text of a connection, all that the client has sent, is cut into complete units and a
-- rest. Source: NBD proto.md; own is what ends a connection: a wrong magic and an EXPORT_NAME above
-- 8,192 bytes are units of their head alone, and close.
use Rattle.std.specs.Prelude.{ℕ, ◌≡◌, ◌+◌, ◌≤◌, ◌==◌, ◌&&◌, Bool, true, false, nat_lt, List, []}
use Rattle.std.specs.Prelude.{◌∷◌, ◌++◌, length, drop, Option, Some, None, if◌then◌else◌}
use Rattle.byteorder.specs.Endian.{big_number}
use Rattle.nbd_wire.specs.Numbers.{CLIENT_FLAGS_LEN, OPTION_LEN, REQUEST_LEN, OPT_EXPORT_NAME}
use Rattle.nbd_wire.specs.Numbers.{MAX_OPTION_LEN}
use Rattle.nbd_wire.specs.declared.option.OptionHead.{OptionHead}
use Rattle.nbd_wire.specs.declared.command.Request.{Request}
use Rattle.nbd_wire.specs.declared.phase.Phase.{Phase}
use Rattle.nbd_wire.specs.declared.phase.Phase.TheVariants.{AwaitingFlags, Negotiating}
use Rattle.nbd_wire.specs.declared.phase.Phase.TheVariants.{Transmitting, Closed}
use Rattle.nbd_wire.specs.Heads.{request_at}
use Rattle.nbd_wire.specs.Commands.{command_kind, is_write, is_disconnect}
use Rattle.nbd_wire.specs.Options.{option_at, case_of, phase_after}

-- how many bytes a unit's head has: first the client's flags, then options, then requests
abbrev pub head_len : Phase → ℕ
head_len AwaitingFlags = CLIENT_FLAGS_LEN
head_len (Negotiating no_zeroes) = OPTION_LEN
head_len Transmitting = REQUEST_LEN
head_len Closed = 0

-- how many bytes follow an option's head: its data
abbrev pub data_len : Option OptionHead → ℕ
data_len None = 0
data_len (Some o) = if o.option == OPT_EXPORT_NAME && nat_lt MAX_OPTION_LEN o.length then 0
    else o.length

-- how many bytes follow a request's head: a WRITE's payload
abbrev pub payload_len : Option Request → ℕ
payload_len None = 0
payload_len (Some r) = if is_write (command_kind r.kind) then r.length else 0

-- how many bytes follow the head that begins here
abbrev pub tail_len : Phase → List ℕ → ℕ
tail_len AwaitingFlags bytes = 0
tail_len (Negotiating no_zeroes) bytes = data_len (option_at bytes)
tail_len Transmitting bytes = payload_len (request_at bytes)
tail_len Closed bytes = 0

-- more units may come
abbrev pub IsOpen : Phase → Type 0
IsOpen Closed = ⊥
IsOpen _ = Unit {0}

-- a complete unit: a head, and the bytes that it asks for
pub record IsUnit (phase : Phase) (unit : List ℕ) : Type 0 where
  pub is_open : IsOpen phase
  pub whole_head : head_len phase ≤ length unit
  pub whole : length unit ≡ head_len phase + tail_len phase unit

-- no unit begins here yet
abbrev pub IsPartial : Phase → List ℕ → Type 0
IsPartial phase rest = (unit more : List ℕ) → rest ≡ unit ++ more → IsUnit phase unit → ⊥

-- what comes after the client's flags: they are FIXED_NEWSTYLE (1) alone or with NO_ZEROES (2), or
-- they close
abbrev pub after_flags : ℕ → Phase
after_flags flags = if flags == 1 then Negotiating false else if flags == 3 then Negotiating true
    else Closed

-- what comes after an option
abbrev pub after_option : Bool → Option OptionHead → List ℕ → Phase
after_option no_zeroes None content = Closed
after_option no_zeroes (Some o) content = phase_after (case_of o content) o.option no_zeroes

-- what comes after a request: DISC closes
abbrev pub after_request : Option Request → Phase
after_request None = Closed
after_request (Some r) = if is_disconnect (command_kind r.kind) then Closed else Transmitting

-- the phase after a unit
abbrev pub after : Phase → List ℕ → Phase
after AwaitingFlags unit = after_flags (big_number 4 unit)
after (Negotiating no_zeroes) unit = after_option no_zeroes (option_at unit) (drop OPTION_LEN unit)
after Transmitting unit = after_request (request_at unit)
after Closed unit = Closed

-- From this phase on the text is these complete units, the last of which leads to the phase end,
-- and a rest that is none.
abbrev pub Splits : Phase → List ℕ → List (List ℕ) → List ℕ → Phase → Type 0
Splits phase text [] rest end = (phase ≡ end) × (text ≡ rest) × IsPartial end rest
Splits phase text (unit ∷ units) rest end =
    (more : List ℕ) × (text ≡ unit ++ more) × IsUnit phase unit
    × Splits (after phase unit) more units rest end

-- Each text is cut in exactly one way, and more bytes only add units.
pub record IsOneCutting (phase : Phase) : Type 0 where
  pub exists : (text : List ℕ) → (units : List (List ℕ)) × (rest : List ℕ) × (end : Phase)
      × Splits phase text units rest end
  pub one : (text : List ℕ) (units others : List (List ℕ)) (rest left : List ℕ) (end last : Phase)
      → Splits phase text units rest end → Splits phase text others left last
      → (units ≡ others) × (rest ≡ left) × (end ≡ last)
  pub begins : (text more : List ℕ) (units others : List (List ℕ)) (rest left : List ℕ)
      (end last : Phase) → Splits phase text units rest end
      → Splits phase (text ++ more) others left last
      → (added : List (List ℕ)) × (others ≡ units ++ added)
