-- What the answers of the negotiation say of a name that is asked for.
use Rattle.std.proofs.Common.{◌≡◌, ℕ, List, ◌++◌, subst, ap, Option, Some, None}
use Rattle.nbd_wire.specs.declared.phase.Phase.{Phase}
use Rattle.nbd_wire.specs.Parser.{ParserState}
use Rattle.nbd_handshake.specs.declared.asked.AskedName.{AskedName}
use Rattle.nbd_handshake.specs.Asked.{TellsUnknown, unknown_name}
use Rattle.nbd_handshake.specs.Parser.{HandshakeAdvances}
use Rattle.nbd_session.specs.declared.session.ReplyTo.{ReplyTo}
use Rattle.nbd_session.specs.declared.session.ReplyTo.TheVariants.{LastOption}
use Rattle.nbd_session.specs.Unknown.{SaysName, option_reply_to}

-- nothing is said of a name by the last option
pub last_says : (asked : Option (List ℕ)) → SaysName asked LastOption
last_says None = tt
last_says (Some name) = tt

name_says : (told : Option AskedName) (asked : Option (List ℕ)) → TellsUnknown told asked → SaysName asked (option_reply_to told)
name_says None None h = tt
name_says None (Some name) h = h
name_says (Some told) None h = h
name_says (Some told) (Some name) h = h

-- a reply after which the negotiation goes on
pub stay_says : (old new : ParserState) (unit reply : List ℕ) (told : Option AskedName) (to : ReplyTo) (next : Option Phase) (q : Phase) → next ≡ Some q → to ≡ option_reply_to told → HandshakeAdvances old unit next reply told new → SaysName (unknown_name old.phase unit) to
stay_says old new unit reply told to next q known same step =
    let h = subst (λ (n : Option Phase). HandshakeAdvances old unit n reply told new) known step in
    rw same (name_says told _ h.unknown_is)
