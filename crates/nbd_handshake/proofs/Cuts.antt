-- What is kept of a unit answers it: an option whose content isn't kept whole is answered by its head.
use Rattle.std.proofs.Common.{◌≡◌, ℕ, ◌<◌, Bool, true, false, cond, List, length, take, drop, Option, Some, None, refl, sym, ap, ◌∙◌, arith, inl, inr}
use Rattle.std.proofs.lemmas.Bool.{cases_lt, lt-ltb}
use Rattle.std.proofs.lemmas.List.{take_all, take-append-drop, length-take}
use Rattle.nbd_wire.specs.declared.export.Export.{Export}
use Rattle.nbd_wire.specs.declared.option.OptionHead.{OptionHead}
use Rattle.nbd_wire.specs.declared.phase.Phase.{Phase}
use Rattle.nbd_wire.specs.declared.phase.Phase.TheVariants.{AwaitingFlags, Negotiating, Transmitting, Closed}
use Rattle.nbd_wire.specs.Options.{option_at, case_of, phase_after, reply_in_case}
use Rattle.nbd_wire.specs.Units.{data_len, IsUnit, after, after_option}
use Rattle.nbd_wire.proofs.Cutting.{option_front}
use Rattle.nbd_handshake.specs.Negotiating.{IsNegotiation, option_reply_of, negotiation_reply}
use Rattle.nbd_handshake.specs.Asked.{unknown_in, unknown_of, unknown_name}
use Rattle.nbd_wire.specs.declared.option.OptionCase.TheVariants.{NoExport, TooBig}

long_case : (o : OptionHead) (c d : List ℕ) → 8192 < o.length → case_of o c ≡ case_of o d
long_case o c d long = let e = lt-ltb 8192 o.length long in rw e refl

no_name : (b : Bool) (c d : List ℕ) → unknown_in (cond b NoExport TooBig) c ≡ unknown_in (cond b NoExport TooBig) d
no_name true c d = refl
no_name false c d = refl

long_unknown : (o : OptionHead) (c d : List ℕ) → 8192 < o.length → unknown_in (case_of o c) c ≡ unknown_in (case_of o d) d
long_unknown o c d long = let e = lt-ltb 8192 o.length long in rw e (no_name _ c d)

long_option : (o : OptionHead) (b : Bool) → 8192 < cond b 0 o.length → 8192 < o.length
long_option o true h = absurd (omega arith)
long_option o false h = h

-- two forms of a unit that lead to the same phase with the same reply
pub record SameAnswer (export : Export) (p : Phase) (kept unit : List ℕ) : Type 0 where
  pub phase : after p kept ≡ after p unit
  pub reply : negotiation_reply export p kept ≡ negotiation_reply export p unit
  pub unknown : unknown_name p kept ≡ unknown_name p unit

by_option : (export : Export) (no_zeroes : Bool) (o : Option OptionHead) (c d : List ℕ) → 8192 < data_len o → (after_option no_zeroes o c ≡ after_option no_zeroes o d) × (option_reply_of export no_zeroes o c ≡ option_reply_of export no_zeroes o d) × (unknown_of o c ≡ unknown_of o d)
by_option export no_zeroes None c d long = absurd (omega arith)
by_option export no_zeroes (Some o) c d long =
    let long = long_option o _ long in
    let e = long_case o c d long in
    (ap (λ k. phase_after k o.option no_zeroes) e, ap (λ k. reply_in_case k o.option no_zeroes export) e, long_unknown o c d long)

by_phase : (export : Export) (p : Phase) (unit : List ℕ) → IsNegotiation p → IsUnit p unit → 8208 < length unit → SameAnswer export p (take 8208 unit) unit
by_phase export AwaitingFlags unit _ h long = absurd (omega (arith, h.whole))
by_phase export (Negotiating no_zeroes) unit _ h long =
    let kept = take 8208 unit in
    let same : option_at unit ≡ option_at kept = ap option_at (sym (take-append-drop 8208 unit)) ∙ option_front kept (drop 8208 unit) (omega (arith, length-take 8208 unit)) in
    let answer = by_option export no_zeroes (option_at unit) (drop 16 kept) (drop 16 unit) (omega (arith, h.whole)) in
    record { phase = rw (← same) answer.0; reply = rw (← same) answer.1; unknown = rw (← same) answer.2 }
by_phase export Transmitting unit negotiation h long = absurd negotiation
by_phase export Closed unit negotiation h long = absurd negotiation

pub same_answer : (export : Export) (p : Phase) (unit : List ℕ) → IsNegotiation p → IsUnit p unit → SameAnswer export p (take 8208 unit) unit
same_answer export p unit negotiation h =
    elim (cases_lt 8208 (length unit)) [
      | inl long ↦ by_phase export p unit negotiation h long
      | inr short ↦ let e = take_all 8208 unit short in record { phase = ap (after p) e; reply = ap (negotiation_reply export p) e; unknown = ap (unknown_name p) e }
    ]
