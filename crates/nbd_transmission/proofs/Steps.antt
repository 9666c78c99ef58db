-- What one call of the parser does, over plain lists.
use Rattle.std.proofs.Common.{◌≡◌, ℕ, ◌+◌, ◌-◌, ◌<◌, ◌≤◌, min, Bool, true, false, cond, List, [], ◌++◌, length, take, drop, refl, sym, ap, ◌∙◌, arith, inl, inr}
use Rattle.std.proofs.lemmas.Bool.{cases_lt}
use Rattle.std.proofs.lemmas.List.{take-append-drop, take-append-le, drop-append-le, take-take, take_all, drop_all, length-drop, length-append, length-take, append-nil}
use Rattle.std.proofs.Math.Seq.{take-append-add, drop-append-add}
use Rattle.nbd_wire.specs.declared.export.Export.{Export}
use Rattle.nbd_wire.specs.declared.phase.Phase.{Phase}
use Rattle.nbd_wire.specs.declared.phase.Phase.TheVariants.{Transmitting, Closed}
use Rattle.nbd_wire.specs.Heads.{request_at}
use Rattle.nbd_wire.specs.Units.{payload_len, IsUnit, IsPartial, Splits}
use Rattle.nbd_wire.specs.Parser.{ParserState, HoldsRest, ParserRepresents, Waits, Completes}
use Rattle.nbd_wire.proofs.Cutting.{request_front, short_is_partial}
use Rattle.nbd_wire.proofs.UnitLaws.{partial_is_short, Splits_more, Splits_unit}
use Rattle.nbd_wire.proofs.StandingLaws.{holds_the_rest, stands_waiting, stands_completed}
use Rattle.nbd_wire.specs.declared.next.Next.{Next}
use Rattle.nbd_wire.specs.declared.next.Next.TheVariants.{More, Reply, Run, Close}
use Rattle.nbd_transmission.specs.declared.transmission.Refusal.{Refusal}
use Rattle.nbd_transmission.specs.Taking.{answer_to, is_accepted_write, payload_of, phase_of}
use Rattle.nbd_transmission.specs.Parser.{TransmissionAnswersUnit, TransmissionAdvances, TransmissionOneMore, TransmissionNextOrMore, TransmissionAnswers}
use Rattle.nbd_transmission.proofs.Answered.{after_is_phase_of, answer_is_no_more, accepted_is_short}

take_past : (k m : ℕ) (xs ys : List ℕ) → k ≡ length xs + m → take k (xs ++ ys) ≡ xs ++ take m ys
take_past k m xs ys e = rw e (take-append-add xs ys m)

drop_past : (k m : ℕ) (xs ys : List ℕ) → k ≡ length xs + m → drop k (xs ++ ys) ≡ drop m ys
drop_past k m xs ys e = rw e (drop-append-add xs ys m)

-- the head that is kept grows by the bytes that were copied
pub head_grows : (rest bytes head grown : List ℕ) (filled n used : ℕ) → take 28 rest ≡ take filled head → filled ≡ min (length rest) 28 → n ≡ min (28 - filled) (length bytes)
    → take (filled + n) grown ≡ take filled head ++ take n bytes → n ≤ used → (length rest + n < 28 → used ≡ n) → take 28 (rest ++ take used bytes) ≡ take (filled + n) grown
head_grows rest bytes head grown filled n used kept filled-is n-is copied le short =
    elim (cases_lt (length rest) 28) [
      | inl lt ↦
          let all : take 28 rest ≡ rest = take_all 28 rest (omega arith) in
          let front : take 28 (rest ++ take used bytes) ≡ rest ++ take (28 - filled) (take used bytes) = take_past 28 (28 - filled) rest (take used bytes) (omega arith) in
          let piece : take (28 - filled) (take used bytes) ≡ take n bytes =
          elim (cases_lt n (28 - filled)) [
            | inl less ↦
                let same : used ≡ n = short (omega arith) in
                rw same (take_all (28 - filled) (take n bytes) (omega (arith, length-take n bytes)))
            | inr whole ↦
                let same : 28 - filled ≡ n = omega arith in
                rw same (take-take n used bytes le)
          ] in
          front ∙ ap (λ (t : List ℕ). rest ++ t) piece ∙ ap (λ (t : List ℕ). t ++ take n bytes) (sym all ∙ kept) ∙ sym copied
      | inr ge ↦
          let none : n ≡ 0 = omega arith in
          let nothing : take n bytes ≡ [] = rw none refl in
          take-append-le 28 rest (take used bytes) ge ∙ kept ∙ sym (append-nil (take filled head)) ∙ ap (λ (t : List ℕ). take filled head ++ t) (sym nothing) ∙ sym copied
    ]

pub payload_short : (export : Export) (rest : List ℕ) → length rest ≤ 28 → payload_of export rest ≡ []
payload_short export rest short = by_test (is_accepted_write export (request_at rest)) where
  by_test : (b : Bool) → cond b (drop 28 rest) [] ≡ []
  by_test true = drop_all 28 rest short
  by_test false = refl

-- behind a whole head each further byte is payload, or none is
pub payload_grows : (export : Export) (rest x : List ℕ) (b : Bool) (p u : ℕ) → u ≡ length x → 28 ≤ length rest + u → is_accepted_write export (request_at (rest ++ x)) ≡ b → p ≡ cond b (u - (28 - length rest)) 0
    → payload_of export (rest ++ x) ≡ payload_of export rest ++ drop (u - p) x
payload_grows export rest x true p u u-is long accepted p-is =
    elim (cases_lt (length rest) 28) [
      | inl lt ↦
          let at : u - p ≡ 28 - length rest = omega arith in
          rw (accepted, payload_short export rest (omega arith), at) (drop_past 28 (28 - length rest) rest x (omega arith))
      | inr ge ↦
          let at : u - p ≡ 0 = omega arith in
          let before : is_accepted_write export (request_at rest) ≡ true = ap (is_accepted_write export) (sym (request_front rest x ge)) ∙ accepted in
          rw (accepted, before, at) (drop-append-le 28 rest x ge)
    ]
payload_grows export rest x false p u u-is long accepted p-is =
    let at : u - p ≡ length x = omega arith in
    let none : drop (length x) x ≡ [] = drop_all (length x) x (omega arith) in
    elim (cases_lt (length rest) 28) [
      | inl lt ↦ rw (accepted, payload_short export rest (omega arith), at, none) refl
      | inr ge ↦
          let before : is_accepted_write export (request_at rest) ≡ false = ap (is_accepted_write export) (sym (request_front rest x ge)) ∙ accepted in
          rw (accepted, before, at, none) refl
    ]

-- a request is read from its head alone
pub request_in_head : (rest head : List ℕ) → 28 ≤ length rest → take 28 rest ≡ head → request_at rest ≡ request_at head
request_in_head rest head long e =
    ap request_at (sym (take-append-drop 28 rest)) ∙ request_front (take 28 rest) (drop 28 rest) (omega (arith, length-take 28 rest)) ∙ ap request_at e

-- how long the rest is then
pub length_used : (rest bytes : List ℕ) (used : ℕ) → used ≤ length bytes → length (rest ++ take used bytes) ≡ length rest + used
length_used rest bytes used le = omega (arith, length-append rest (take used bytes), length-take used bytes)

-- where the head is whole, it is what is kept, and tells the request
pub whole_head : (rest bytes head grown : List ℕ) (count filled n used : ℕ) → length rest ≡ count → take 28 rest ≡ take (min count 28) head → filled ≡ min count 28 → n ≡ min (28 - filled) (length bytes)
    → take (filled + n) grown ≡ take filled head ++ take n bytes → length grown ≡ 28 → n ≤ used → used ≤ length bytes → 28 ≤ count + n → (take 28 (rest ++ take used bytes) ≡ grown) × (request_at (rest ++ take used bytes) ≡ request_at grown)
whole_head rest bytes head grown count filled n used len kept filled-is n-is copied size le fits long =
    let at : take 28 rest ≡ take filled head = kept ∙ ap (λ (m : ℕ). take m head) (sym filled-is) in
    let grows = head_grows rest bytes head grown filled n used at (omega arith) n-is copied le (λ short. absurd (omega arith)) in
    let whole = grows ∙ take_all (filled + n) grown (omega arith) in
    (whole, request_in_head (rest ++ take used bytes) grown (omega (arith, length_used rest bytes used fits)) whole)

-- ---- the exits

pub waits : (old new : ParserState) (rest : List ℕ) → old.phase ≡ Transmitting → new.phase ≡ old.phase → (28 ≤ length rest → length rest < 28 + payload_len (request_at rest)) → HoldsRest 28 new rest → Waits 28 old rest new
waits old new rest is_open same short keeps =
    record { partial = rw is_open (short_is_partial Transmitting rest short); phase = same; keeps = keeps }

pub completes : (old new : ParserState) (rest : List ℕ) (next : Next Refusal) → old.phase ≡ Transmitting → next ≡ answer_to old.export rest → IsUnit Transmitting rest → new.phase ≡ phase_of next → HoldsRest 28 new [] → TransmissionAdvances old rest next new
completes old new rest next is_open answer is_unit phase keeps =
    by_next next (λ e. answer_is_no_more old.export (request_at rest) (sym answer ∙ e)) (whole, answer)
  where
    whole : Completes 28 old rest new
    whole = record {
      is_unit = rw is_open is_unit;
      phase = rw is_open (phase ∙ ap phase_of answer ∙ sym (after_is_phase_of old.export (request_at rest)));
      keeps = keeps;
    }

    by_next : (next : Next Refusal) → (next ≡ More → ⊥) → TransmissionAnswersUnit old rest next new → TransmissionAdvances old rest next new
    by_next More h done = absurd (h refl)
    by_next (Run c) h done = done
    by_next (Reply refusal) h done = done
    by_next Close h done = done

-- no more bytes have come than the head asks for
comes_short : (old new : ParserState) (rest : List ℕ) (next : Next Refusal) → old.phase ≡ Transmitting → TransmissionAdvances old rest next new → 28 ≤ length rest → length rest ≤ 28 + payload_len (request_at rest)
comes_short old new rest next is_open a long = by_next next a where
  unit : (next : Next Refusal) → TransmissionAnswersUnit old rest next new → length rest ≤ 28 + payload_len (request_at rest)
  unit next done =
      let u : IsUnit Transmitting rest = rw is_open at done.0.is_unit in
      omega (arith, u.whole)

  by_next : (next : Next Refusal) → TransmissionAdvances old rest next new → length rest ≤ 28 + payload_len (request_at rest)
  by_next More w =
      let partial : IsPartial Transmitting rest = rw is_open at w.partial in
      let short = partial_is_short Transmitting rest tt partial long in
      omega (arith, short)
  by_next (Run c) done = unit (Run c) done
  by_next (Reply refusal) done = unit (Reply refusal) done
  by_next Close done = unit Close done

-- so an accepted payload fits
pub payload_fits : (old new : ParserState) (rest : List ℕ) (next : Next Refusal) → old.phase ≡ Transmitting → TransmissionAdvances old rest next new → length (payload_of old.export rest) ≤ old.export.max_len
payload_fits old new rest next is_open a =
    elim (cases_lt (length rest) 28) [
      | inl lt ↦
          let none = payload_short old.export rest (omega arith) in
          rw none (omega arith)
      | inr long ↦ by_test (is_accepted_write old.export (request_at rest)) refl (comes_short old new rest next is_open a long)
    ]
  where
    by_test : (b : Bool) → is_accepted_write old.export (request_at rest) ≡ b → length rest ≤ 28 + payload_len (request_at rest) → length (cond b (drop 28 rest) []) ≤ old.export.max_len
    by_test true e short =
        let most = accepted_is_short old.export (request_at rest) e in
        omega (arith, length-drop 28 rest)
    by_test false e short = omega arith

-- ---- from the unit begun to the whole text

abbrev Stepping : ParserState → ParserState → List ℕ → Next Refusal → Type 0
Stepping old new used next = (rest : List ℕ) → HoldsRest 28 old rest → TransmissionAdvances old (rest ++ used) next new

not_closed : (p : Phase) → p ≡ Transmitting → p ≡ Closed → ⊥
not_closed p e shut = absurd_of (sym e ∙ shut) where
  absurd_of : Transmitting ≡ Closed → ⊥
  absurd_of e = cc

pub answers_from_step : (start : Phase) (old new : ParserState) (text used : List ℕ) (next : Next Refusal) → old.phase ≡ Transmitting → ParserRepresents 28 start old text → Stepping old new used next → TransmissionAnswers start old.export text (text ++ used) next
answers_from_step start old new text used next is_open s step units rest split =
    let mine : Splits start text units rest old.phase = rw is_open split in
    by_next next (step rest (holds_the_rest 28 start old text units rest (not_closed old.phase is_open) s mine))
  where
    one_more : (next : Next Refusal) → TransmissionAnswersUnit old (rest ++ used) next new → TransmissionOneMore start old.export (text ++ used) next units
    one_more next done = record {
      unit = rest ++ used;
      split = Splits_unit start text used units rest Transmitting split (rw is_open at done.0.is_unit);
      answer = done.1;
    }

    by_next : (next : Next Refusal) → TransmissionAdvances old (rest ++ used) next new → TransmissionNextOrMore start old.export (text ++ used) next units
    by_next More w = (rest ++ used, Splits_more start text used units rest Transmitting split (rw is_open at w.partial))
    by_next (Run c) done = one_more (Run c) done
    by_next (Reply refusal) done = one_more (Reply refusal) done
    by_next Close done = one_more Close done

pub stands_from_step : (start : Phase) (old new : ParserState) (text used : List ℕ) (next : Next Refusal) → old.phase ≡ Transmitting → ParserRepresents 28 start old text → Stepping old new used next → ParserRepresents 28 start new (text ++ used)
stands_from_step start old new text used next is_open s step =
    by_next next (step s.rest (s.keeps (not_closed old.phase is_open)))
  where
    by_next : (next : Next Refusal) → TransmissionAdvances old (s.rest ++ used) next new → ParserRepresents 28 start new (text ++ used)
    by_next More w = stands_waiting 28 start old new text used s w
    by_next (Run c) done = stands_completed 28 start old new text used s done.0
    by_next (Reply refusal) done = stands_completed 28 start old new text used s done.0
    by_next Close done = stands_completed 28 start old new text used s done.0
