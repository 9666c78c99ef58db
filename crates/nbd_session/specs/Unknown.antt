-- Whether an answer says that an option asks for an export which isn't there. Source: own, over NBD
-- proto.md.
use Rattle.std.specs.Prelude.{ℕ, List, Option, Some, None}
use Rattle.nbd_wire.specs.declared.phase.Phase.{Phase}
use Rattle.nbd_wire.specs.declared.next.Next.{Next}
use Rattle.nbd_wire.specs.declared.next.Next.TheVariants.{More, Reply, Run, Close}
use Rattle.nbd_handshake.specs.declared.asked.AskedName.{AskedName}
use Rattle.nbd_handshake.specs.Asked.{TellsName, unknown_name}
use Rattle.nbd_session.specs.declared.session.ReplyTo.{ReplyTo}
use Rattle.nbd_session.specs.declared.session.ReplyTo.TheVariants.{Negotiation, UnknownExport}
use Rattle.nbd_session.specs.declared.session.ReplyTo.TheVariants.{LastOption, Refused}

-- what a reply is to after which the negotiation goes on
abbrev pub option_reply_to : Option AskedName → ReplyTo
option_reply_to None = Negotiation
option_reply_to (Some name) = UnknownExport name

-- a reply to an option says the name that it asks for and no export has, where there is one; none
-- ends the negotiation with such an option
abbrev pub SaysName : Option (List ℕ) → ReplyTo → Type 0
SaysName None Negotiation = Unit {0}
SaysName None (UnknownExport told) = ⊥
SaysName None LastOption = Unit {0}
SaysName None (Refused refusal) = ⊥
SaysName (Some name) Negotiation = ⊥
SaysName (Some name) (UnknownExport told) = TellsName told name
SaysName (Some name) LastOption = Unit {0}
SaysName (Some name) (Refused refusal) = ⊥

-- an answer to a unit of the negotiation in this phase; only a reply says it
abbrev pub SaysUnknown : Phase → List ℕ → Next ReplyTo → Type 0
SaysUnknown phase unit More = Unit {0}
SaysUnknown phase unit (Reply to) = SaysName (unknown_name phase unit) to
SaysUnknown phase unit (Run command) = ⊥
SaysUnknown phase unit Close = Unit {0}
