-- What one call of the negotiation says of the unit begun, and of each text that the negotiation
-- represents. Source: own.
use Rattle.std.specs.Prelude.{ℕ, ◌≡◌, List, [], ◌∷◌, ◌++◌, Option, Some, None}
use Rattle.nbd_wire.specs.declared.export.Export.{Export}
use Rattle.nbd_wire.specs.declared.phase.Phase.{Phase}
use Rattle.nbd_wire.specs.Units.{Splits, after}
use Rattle.nbd_wire.specs.Parser.{ParserState, Waits, Completes}
use Rattle.nbd_handshake.specs.Negotiating.{IsNegotiation, negotiation_reply}
use Rattle.nbd_handshake.specs.declared.asked.AskedName.{AskedName}
use Rattle.nbd_handshake.specs.Asked.{unknown_name, TellsUnknown}

-- how many bytes of an option are kept at most: its head of 16 bytes, and the 8,192 bytes of data
-- that are looked at
abbrev pub KEPT_LEN : ℕ
KEPT_LEN = 8208

-- the phase before a call, the phase behind the unit that it completed, and the phase after it
abbrev pub Leads : Phase → Option Phase → Phase → Type 0
Leads old None new = IsNegotiation old × (new ≡ old)
Leads old (Some next) new = new ≡ next

-- the bytes are a unit, this is its reply, this the name that it asks for and no export has, and
-- this phase comes next
pub record HandshakeAnswersUnit (old : ParserState) (unit : List ℕ) (next : Phase) (reply : List ℕ)
    (unknown : Option AskedName) (new : ParserState) : Type 0 where
  pub completes : Completes KEPT_LEN old unit new
  pub next_is : next ≡ after old.phase unit
  pub reply_is : reply ≡ negotiation_reply old.export old.phase unit
  pub unknown_is : TellsUnknown unknown (unknown_name old.phase unit)

-- None, without a reply, where all bytes of the unit begun that have come are no unit yet; the
-- phase that comes next where they are one.
abbrev pub HandshakeAdvances : ParserState → List ℕ → Option Phase → List ℕ → Option AskedName
    → ParserState → Type 0
HandshakeAdvances old rest None reply unknown new =
    Waits KEPT_LEN old rest new × (reply ≡ []) × (unknown ≡ None)
HandshakeAdvances old rest (Some next) reply unknown new =
    HandshakeAnswersUnit old rest next reply unknown new

-- the new text has one unit more than the old one, ends with it, this is its reply, and this phase
-- comes next
pub record HandshakeOneMore (start : Phase) (export : Export) (phase : Phase) (new : List ℕ)
    (next : Phase) (reply : List ℕ) (units : List (List ℕ)) : Type 0 where
  pub unit : List ℕ
  pub split : Splits start new (units ++ unit ∷ []) [] (after phase unit)
  pub next_is : next ≡ after phase unit
  pub reply_is : reply ≡ negotiation_reply export phase unit

-- None, without a reply, where the new text has the old text's units and no other; the phase that
-- comes next where it has one more.
abbrev pub HandshakeNextOrMore : Phase → Export → Phase → List ℕ → Option Phase → List ℕ
    → List (List ℕ) → Type 0
HandshakeNextOrMore start export phase new None reply units =
    (rest : List ℕ) × Splits start new units rest phase × (reply ≡ [])
HandshakeNextOrMore start export phase new (Some next) reply units =
    HandshakeOneMore start export phase new next reply units

-- how a text that grows from old to new is answered, whose units lead from the phase start to this
-- phase
abbrev pub HandshakeAnswers : Phase → Export → Phase → List ℕ → List ℕ → Option Phase → List ℕ
    → Type 0
HandshakeAnswers start export phase old new next reply =
    (units : List (List ℕ)) (rest : List ℕ) → Splits start old units rest phase
    → HandshakeNextOrMore start export phase new next reply units
