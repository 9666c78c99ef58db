-- A call of the negotiation on the unit begun, and what it says of whole texts.
use Rattle.std.proofs.Common.{◌≡◌, ℕ, ◌+◌, ◌<◌, ◌≤◌, min, List, [], ◌++◌, length, take, drop, sym, ap, ◌∙◌, arith, Option, Some, None}
use Rattle.std.proofs.lemmas.List.{take-append-drop, length-take}
use Rattle.nbd_wire.specs.declared.phase.Phase.{Phase}
use Rattle.nbd_wire.specs.declared.phase.Phase.TheVariants.{AwaitingFlags, Negotiating, Transmitting, Closed}
use Rattle.nbd_wire.specs.Units.{head_len, tail_len, IsOpen, IsUnit, after}
use Rattle.nbd_wire.specs.Parser.{ParserState, HoldsRest, ParserRepresents, Waits}
use Rattle.nbd_wire.proofs.Cutting.{tail_front, short_is_partial}
use Rattle.nbd_wire.proofs.UnitLaws.{Splits_more, Splits_unit}
use Rattle.nbd_wire.proofs.StandingLaws.{holds_the_rest, stands_waiting, stands_completed}
use Rattle.nbd_handshake.specs.Negotiating.{IsNegotiation, negotiation_reply}
use Rattle.nbd_handshake.specs.declared.asked.AskedName.{AskedName}
use Rattle.nbd_handshake.specs.Asked.{unknown_name, TellsUnknown}
use Rattle.nbd_handshake.specs.Parser.{HandshakeAnswersUnit, HandshakeAdvances, HandshakeOneMore, HandshakeNextOrMore, HandshakeAnswers}

pub head_range : (p : Phase) → IsNegotiation p → (0 < head_len p) × (head_len p ≤ 16)
head_range AwaitingFlags _ = (omega arith, omega arith)
head_range (Negotiating no_zeroes) _ = (omega arith, omega arith)
head_range Transmitting negotiation = absurd negotiation
head_range Closed negotiation = absurd negotiation

pub is_open : (p : Phase) → IsNegotiation p → IsOpen p
is_open AwaitingFlags _ = tt
is_open (Negotiating no_zeroes) _ = tt
is_open Transmitting negotiation = absurd negotiation
is_open Closed negotiation = absurd negotiation

pub not_closed : (p : Phase) → IsNegotiation p → p ≡ Closed → ⊥
not_closed p negotiation e = rw e at negotiation

-- a head tells the tail, whatever stands behind it
pub tail_of_front : (p : Phase) (j : ℕ) (a b : List ℕ) → head_len p ≤ j → j ≤ length a → j ≤ length b → take j a ≡ take j b → tail_len p a ≡ tail_len p b
tail_of_front p j a b le in_a in_b same =
    let left : tail_len p a ≡ tail_len p (take j a) = ap (tail_len p) (sym (take-append-drop j a)) ∙ tail_front p (take j a) (drop j a) (omega (arith, length-take j a)) in
    let right : tail_len p b ≡ tail_len p (take j b) = ap (tail_len p) (sym (take-append-drop j b)) ∙ tail_front p (take j b) (drop j b) (omega (arith, length-take j b)) in
    left ∙ ap (tail_len p) same ∙ sym right

-- the tail that a kept head tells stays when more is kept
pub tail_stays : (p : Phase) (count : ℕ) (buffer grown : List ℕ) → length buffer ≡ 8208 → length grown ≡ 8208 → head_len p ≤ 16 → head_len p ≤ count → take (min count (length buffer)) grown ≡ take (min count (length buffer)) buffer → tail_len p grown ≡ tail_len p buffer
tail_stays p count buffer grown size sized small whole same = tail_of_front p (min count (length buffer)) grown buffer (omega arith) (omega arith) (omega arith) same

-- ---- the exits

pub waits : (old new : ParserState) (rest : List ℕ) → new.phase ≡ old.phase → (head_len old.phase ≤ length rest → length rest < head_len old.phase + tail_len old.phase rest) → HoldsRest 8208 new rest → Waits 8208 old rest new
waits old new rest same short keeps = record { partial = short_is_partial old.phase rest short; phase = same; keeps = keeps }

pub completes : (old new : ParserState) (unit : List ℕ) (next : Phase) (reply : List ℕ) (unknown : Option AskedName) → next ≡ new.phase → IsUnit old.phase unit → reply ≡ negotiation_reply old.export old.phase unit → TellsUnknown unknown (unknown_name old.phase unit) → new.phase ≡ after old.phase unit → HoldsRest 8208 new [] → HandshakeAdvances old unit (Some next) reply unknown new
completes old new unit next reply unknown next-is is_unit reply-is unknown-is phase keeps = record {
  completes = record { is_unit = is_unit; phase = phase; keeps = keeps };
  next_is = next-is ∙ phase;
  reply_is = reply-is;
  unknown_is = unknown-is;
}

-- ---- whole texts

pub answers_from_step : (start : Phase) (old new : ParserState) (text used : List ℕ) (next : Option Phase) (reply : List ℕ) (unknown : Option AskedName) → IsNegotiation old.phase → ParserRepresents 8208 start old text
    → ((rest : List ℕ) → HoldsRest 8208 old rest → HandshakeAdvances old (rest ++ used) next reply unknown new) → HandshakeAnswers start old.export old.phase text (text ++ used) next reply
answers_from_step start old new text used next reply unknown negotiation represents step units rest split =
    by_next next (step rest (holds_the_rest 8208 start old text units rest (not_closed old.phase negotiation) represents split))
  where
    one_more : (n : Phase) → HandshakeAnswersUnit old (rest ++ used) n reply unknown new → HandshakeOneMore start old.export old.phase (text ++ used) n reply units
    one_more n h = record {
      unit = rest ++ used;
      split = Splits_unit start text used units rest old.phase split h.completes.is_unit;
      next_is = h.next_is;
      reply_is = h.reply_is;
    }

    by_next : (n : Option Phase) → HandshakeAdvances old (rest ++ used) n reply unknown new → HandshakeNextOrMore start old.export old.phase (text ++ used) n reply units
    by_next None h = (rest ++ used, Splits_more start text used units rest old.phase split h.0.partial, h.1)
    by_next (Some next) h = one_more next h

pub stands_from_step : (start : Phase) (old new : ParserState) (text used : List ℕ) (next : Option Phase) (reply : List ℕ) (unknown : Option AskedName) → IsNegotiation old.phase → (represents : ParserRepresents 8208 start old text)
    → ((rest : List ℕ) → HoldsRest 8208 old rest → HandshakeAdvances old (rest ++ used) next reply unknown new) → ParserRepresents 8208 start new (text ++ used)
stands_from_step start old new text used next reply unknown negotiation represents step =
    by_next next (step represents.rest (represents.keeps (not_closed old.phase negotiation)))
  where
    by_next : (n : Option Phase) → HandshakeAdvances old (represents.rest ++ used) n reply unknown new → ParserRepresents 8208 start new (text ++ used)
    by_next None h = stands_waiting 8208 start old new text used represents h.0
    by_next (Some next) h = stands_completed 8208 start old new text used represents h.completes
