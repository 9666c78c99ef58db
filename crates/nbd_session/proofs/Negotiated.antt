-- What the answers of the negotiation say of whole texts.
use Rattle.std.proofs.Common.{◌≡◌, ℕ, List, [], ◌∷◌, ◌++◌, take, drop, refl, sym, ap, subst, ◌∙◌, arith, Option, Some, None}
use Rattle.nbd_wire.specs.declared.export.Export.{Export}
use Rattle.nbd_wire.specs.declared.phase.Phase.{Phase}
use Rattle.nbd_wire.specs.declared.phase.Phase.TheVariants.{AwaitingFlags, Negotiating as Options, Transmitting, Closed}
use Rattle.nbd_wire.specs.Parser.{ParserState, HoldsRest, ParserRepresents as ParserStandsFor}
use Rattle.nbd_wire.specs.Units.{Splits, after}
use Rattle.nbd_wire.specs.declared.next.Next.TheVariants.{More, Reply, Close}
use Rattle.nbd_handshake.specs.Negotiating.{IsNegotiation, negotiation_reply}
use Rattle.nbd_handshake.specs.Parser.{HandshakeAnswers, HandshakeOneMore}
use Rattle.nbd_transmission.proofs.Steps.{payload_short}
use Rattle.nbd_session.specs.declared.session.ReplyTo.{ReplyTo}
use Rattle.nbd_session.specs.declared.stage.Stage.{Stage}
use Rattle.nbd_session.specs.declared.stage.Stage.TheVariants.{Negotiating, Requesting, Ended}
use Rattle.nbd_session.specs.Parts.{Part, Told, Last, Gains, negotiated, part_of}
use Rattle.nbd_session.specs.Sessions.{SessionState, InStage, SessionRepresents, StageRepresents, SessionSays, reply_of}
use Rattle.nbd_session.proofs.PartLaws.{gains_none, gains_one}

-- ---- the part of a unit

part_by_phase : (n : Export) (p : Phase) (u reply : List ℕ) → IsNegotiation p → reply ≡ negotiation_reply n p u → part_of n p u ≡ negotiated (after p u) reply
part_by_phase n AwaitingFlags u reply h e = ap (negotiated (after AwaitingFlags u)) (sym e)
part_by_phase n (Options no_zeroes) u reply h e = ap (negotiated (after (Options no_zeroes) u)) (sym e)
part_by_phase n Transmitting u reply h e = absurd h
part_by_phase n Closed u reply h e = absurd h

stays : (q : Phase) (reply : List ℕ) → IsNegotiation q → negotiated q reply ≡ Told reply
stays AwaitingFlags reply h = refl
stays (Options no_zeroes) reply h = refl
stays Transmitting reply h = absurd h
stays Closed reply h = absurd h

-- one unit more is one part more
grows : (start : Phase) (n : Export) (h : ParserState) (text new reply : List ℕ) (next : Phase) (part : Part) (s : ParserStandsFor 8208 start h text) (o : HandshakeOneMore start n h.phase new next reply s.units)
    → IsNegotiation h.phase → negotiated (after h.phase o.unit) reply ≡ part → Gains start n text new (part ∷ [])
grows start n h text new reply next part s o negotiation e =
    subst (λ (x : Part). Gains start n text new (x ∷ [])) (part_by_phase n h.phase o.unit reply negotiation o.reply_is ∙ e)
    (gains_one start n text new s.units o.unit s.rest [] h.phase (after h.phase o.unit) s.split o.split)

-- ---- the exits

-- what a call of the negotiation tells, of any text
abbrev pub Told_of : ParserState → List ℕ → Option Phase → List ℕ → Type 0
Told_of h used next reply =
    (start : Phase) (text : List ℕ) → IsNegotiation h.phase → ParserStandsFor 8208 start h text → HandshakeAnswers start h.export h.phase text (text ++ used) next reply

told_at : (start : Phase) (n : Export) (h : ParserState) (text used reply : List ℕ) (next known : Option Phase) → h.export ≡ n → next ≡ known → IsNegotiation h.phase → Told_of h used next reply → ParserStandsFor 8208 start h text → HandshakeAnswers start n h.phase text (text ++ used) known reply
told_at start n h text used reply next known same e negotiation told s =
    subst (λ (m : Export). HandshakeAnswers start m h.phase text (text ++ used) known reply) same
    (subst (λ (x : Option Phase). HandshakeAnswers start h.export h.phase text (text ++ used) x reply) e (told start text negotiation s))

-- a session that negotiates
pub record Negotiates (start : Phase) (old : SessionState) (text : List ℕ) : Type 0 where
  pub open_phase : IsNegotiation old.handshake.phase
  pub stood : ParserStandsFor 8208 start old.handshake text

pub negotiates : (start : Phase) (old : SessionState) (text : List ℕ) → old.stage ≡ Negotiating → InStage old.stage old.handshake old.transmission old.filled → SessionRepresents start old text → Negotiates start old text
negotiates start old text stage works stood = record {
  open_phase = subst (λ (g : Stage). InStage g old.handshake old.transmission old.filled) stage works;
  stood = subst (λ (g : Stage). StageRepresents start g old text) stage stood;
}

pub says_more : (start : Phase) (old line : SessionState) (text used reply : List ℕ) (next : Option Phase) → Negotiates start old text → line.stage ≡ Negotiating → next ≡ None → old.handshake.export ≡ old.export → Told_of old.handshake used next reply
    → ParserStandsFor 8208 start line.handshake (text ++ used) → SessionSays start old.export text (text ++ used) More line
says_more start old line text used reply next was stage e same told represents =
    let h = old.handshake in
    let s = was.stood in
    let a = told_at start old.export h text used reply next None same e was.open_phase told s s.units s.rest s.split in
    (gains_none start old.export text (text ++ used) s.units s.rest a.0 h.phase h.phase s.split a.1, subst (λ (g : Stage). StageRepresents start g line (text ++ used)) (sym stage) represents)

pub says_stay : (start : Phase) (old line : SessionState) (to : ReplyTo) (q : Phase) (text used reply : List ℕ) (next : Option Phase) → Negotiates start old text → line.stage ≡ Negotiating → IsNegotiation q → next ≡ Some q → old.handshake.export ≡ old.export → Told_of old.handshake used next reply
    → ParserStandsFor 8208 start line.handshake (text ++ used) → reply_of line ≡ reply → SessionSays start old.export text (text ++ used) (Reply to) line
says_stay start old line to q text used reply next was stage negotiation e same told represents reply-is =
    let h = old.handshake in
    let s = was.stood in
    let o = told_at start old.export h text used reply next (Some q) same e was.open_phase told s s.units s.rest s.split in
    (grows start old.export h text (text ++ used) reply q (Told (reply_of line)) s o was.open_phase (ap (λ (p : Phase). negotiated p reply) (sym o.next_is) ∙ (stays q reply negotiation ∙ ap Told (sym reply-is))), subst (λ (g : Stage). StageRepresents start g line (text ++ used)) (sym stage) represents)

pub says_transmit : (start : Phase) (old line : SessionState) (to : ReplyTo) (text used reply : List ℕ) (next : Option Phase) → Negotiates start old text → line.stage ≡ Requesting → next ≡ Some Transmitting → old.handshake.export ≡ old.export → Told_of old.handshake used next reply
    → line.filled ≡ 0 → line.transmission.phase ≡ Transmitting → HoldsRest 28 line.transmission [] → reply_of line ≡ reply → SessionSays start old.export text (text ++ used) (Reply to) line
says_transmit start old line to text used reply next was stage e same told filled phase keeps reply-is =
    let h = old.handshake in
    let s = was.stood in
    let o = told_at start old.export h text used reply next (Some Transmitting) same e was.open_phase told s s.units s.rest s.split in
    let begun = sym o.next_is in
    let split : Splits start (text ++ used) (s.units ++ o.unit ∷ []) [] line.transmission.phase = subst (λ (p : Phase). Splits start (text ++ used) (s.units ++ o.unit ∷ []) [] p) (begun ∙ sym phase) o.split in (
      grows start old.export h text (text ++ used) reply Transmitting (Told (reply_of line)) s o was.open_phase (ap (λ (p : Phase). negotiated p reply) begun ∙ ap Told (sym reply-is)),
      subst (λ (g : Stage). StageRepresents start g line (text ++ used)) (sym stage) record {
        parser = record { units = s.units ++ o.unit ∷ []; rest = []; split = split; keeps = λ _. keeps };
        payload = ap (λ (m : ℕ). take m (drop 16 line.bytes)) filled ∙ sym (payload_short line.export [] (omega arith));
      },
    )

pub says_close : (start : Phase) (old line : SessionState) (text used reply : List ℕ) (next : Option Phase) → Negotiates start old text → line.stage ≡ Ended → next ≡ Some Closed → old.handshake.export ≡ old.export → Told_of old.handshake used next reply
    → reply_of line ≡ reply → SessionSays start old.export text (text ++ used) Close line
says_close start old line text used reply next was stage e same told reply-is =
    let h = old.handshake in
    let s = was.stood in
    let o = told_at start old.export h text used reply next (Some Closed) same e was.open_phase told s s.units s.rest s.split in
    let over = sym o.next_is in
    let split : Splits start (text ++ used) (s.units ++ o.unit ∷ []) [] Closed = subst (λ (p : Phase). Splits start (text ++ used) (s.units ++ o.unit ∷ []) [] p) over o.split in (
      grows start old.export h text (text ++ used) reply Closed (Last (reply_of line)) s o was.open_phase (ap (λ (p : Phase). negotiated p reply) over ∙ ap Last (sym reply-is)),
      subst (λ (g : Stage). StageRepresents start g line (text ++ used)) (sym stage) record { units = s.units ++ o.unit ∷ []; rest = []; split = split },
    )
