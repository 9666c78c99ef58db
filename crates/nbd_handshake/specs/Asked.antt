-- The export that an option asks for, where there is none of that name. Source: NBD proto.md, of
-- INFO and GO (NBD_REP_ERR_UNKNOWN); own is how much of the name is kept.
use Rattle.std.specs.Prelude.{ℕ, ◌≡◌, Bool, List, length, take, drop, Option, Some, None}
use Rattle.nbd_wire.specs.Numbers.{OPTION_LEN}
use Rattle.nbd_wire.specs.declared.option.OptionHead.{OptionHead}
use Rattle.nbd_wire.specs.declared.option.OptionCase.{OptionCase}
use Rattle.nbd_wire.specs.declared.option.OptionCase.TheVariants.{Export, NoExport, Abort, Listed}
use Rattle.nbd_wire.specs.declared.option.OptionCase.TheVariants.{Described, TooBig, Invalid}
use Rattle.nbd_wire.specs.declared.option.OptionCase.TheVariants.{UnknownName, Unsupported}
use Rattle.nbd_wire.specs.declared.phase.Phase.{Phase}
use Rattle.nbd_wire.specs.declared.phase.Phase.TheVariants.{AwaitingFlags, Negotiating}
use Rattle.nbd_wire.specs.declared.phase.Phase.TheVariants.{Transmitting, Closed}
use Rattle.nbd_wire.specs.Options.{option_at, case_of, name_of}
use Rattle.nbd_handshake.specs.declared.asked.AskedName.{AskedName}

-- what is kept of a name: its length, and its first 64 bytes
pub record TellsName (told : AskedName) (name : List ℕ) : Type 0 where
  pub len : told.len ≡ length name
  pub first : take told.len told.first ≡ take 64 name

-- the name in an option's content, where its case is that no export has it
abbrev pub unknown_in : OptionCase → List ℕ → Option (List ℕ)
unknown_in Export content = None
unknown_in NoExport content = None
unknown_in Abort content = None
unknown_in Listed content = None
unknown_in Described content = None
unknown_in TooBig content = None
unknown_in Invalid content = None
unknown_in UnknownName content = Some (name_of content)
unknown_in Unsupported content = None

-- the same of an option, by its head
abbrev pub unknown_of : Option OptionHead → List ℕ → Option (List ℕ)
unknown_of None content = None
unknown_of (Some o) content = unknown_in (case_of o content) content

-- the name that a unit of a negotiation asks for, where no export has it
abbrev pub unknown_name : Phase → List ℕ → Option (List ℕ)
unknown_name AwaitingFlags unit = None
unknown_name (Negotiating no_zeroes) unit = unknown_of (option_at unit) (drop OPTION_LEN unit)
unknown_name Transmitting unit = None
unknown_name Closed unit = None

-- a name is told where one is asked for
abbrev pub TellsUnknown : Option AskedName → Option (List ℕ) → Type 0
TellsUnknown None None = Unit {0}
TellsUnknown None (Some name) = ⊥
TellsUnknown (Some told) None = ⊥
TellsUnknown (Some told) (Some name) = TellsName told name
