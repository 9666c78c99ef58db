-- Each text has a cutting into units and a rest, and this is it. That it is the only one, and what more bytes do to it: `one_cutting`.
use Rattle.std.proofs.Common.{◌≡◌, ℕ, zero, suc, ◌+◌, ◌<◌, ◌≤◌, ◌⊎◌, List, [], ◌∷◌, ◌++◌, length, take, drop, refl, sym, ap, ◌∙◌, arith, inl, inr}
use Rattle.std.proofs.lemmas.Bool.{cases_lt}
use Rattle.std.proofs.lemmas.List.{take-append-drop, drop-append-le, length-drop, length-append, length-take-le}
use Rattle.byteorder.specs.Endian.{big_number}
use Rattle.byteorder.specs.Numbers.{big_from-append}
use Rattle.nbd_wire.specs.declared.phase.Phase.{Phase}
use Rattle.nbd_wire.specs.declared.phase.Phase.TheVariants.{AwaitingFlags, Negotiating, Transmitting, Closed}
use Rattle.nbd_wire.specs.Heads.{request_at}
use Rattle.nbd_wire.specs.Options.{option_at}
use Rattle.nbd_wire.specs.Units.{head_len, data_len, payload_len, tail_len, IsOpen, IsUnit, IsPartial, after, Splits}

number_front : (n at : ℕ) (u x : List ℕ) → at + n ≤ length u → big_number n (drop at (u ++ x)) ≡ big_number n (drop at u)
number_front n at u x long =
    rw (drop-append-le at u x (omega arith)) (big_from-append n (drop at u) x (omega (arith, length-drop at u)))

pub request_front : (u x : List ℕ) → 28 ≤ length u → request_at (u ++ x) ≡ request_at u
unfolding request_at
request_front u x long =
    rw (number_front 4 0 u x (omega arith), number_front 2 4 u x (omega arith), number_front 2 6 u x (omega arith), number_front 8 8 u x (omega arith), number_front 8 16 u x (omega arith), number_front 4 24 u x (omega arith)) refl

pub option_front : (u x : List ℕ) → 16 ≤ length u → option_at (u ++ x) ≡ option_at u
unfolding option_at
option_front u x long =
    rw (number_front 8 0 u x (omega arith), number_front 4 8 u x (omega arith), number_front 4 12 u x (omega arith)) refl

-- what follows a head is told by the head
pub tail_front : (p : Phase) (u x : List ℕ) → head_len p ≤ length u → tail_len p (u ++ x) ≡ tail_len p u
tail_front AwaitingFlags u x long = refl
tail_front (Negotiating no_zeroes) u x long = ap data_len (option_front u x long)
tail_front Transmitting u x long = ap payload_len (request_front u x long)
tail_front Closed u x long = refl

-- what is shorter than its head or than its head says is no unit yet
pub short_is_partial : (p : Phase) (rest : List ℕ) → (head_len p ≤ length rest → length rest < head_len p + tail_len p rest) → IsPartial p rest
short_is_partial p rest short u more e h =
    let lens : length rest ≡ length u + length more = ap length e ∙ length-append u more in
    let tails : tail_len p rest ≡ tail_len p u = ap (tail_len p) e ∙ tail_front p u more h.whole_head in
    let small = short (omega (arith, h.whole_head)) in
    omega (arith, h.whole)

-- each text has a cutting
abbrev pub Cut : Phase → List ℕ → Type 0
Cut p text = (us : List (List ℕ)) × (r : List ℕ) × (q : Phase) × Splits p text us r q

pub head_pos : (p : Phase) → IsOpen p → 0 < head_len p
head_pos AwaitingFlags h = omega arith
head_pos (Negotiating no_zeroes) h = omega arith
head_pos Transmitting h = omega arith
head_pos Closed h = absurd h

pub first_unit : (p : Phase) (text : List ℕ) → IsOpen p → head_len p ≤ length text → head_len p + tail_len p text ≤ length text → IsUnit p (take (head_len p + tail_len p text) text)
first_unit p text open_p head whole =
    let n = head_len p + tail_len p text in
    let u = take n text in
    let len : length u ≡ n = length-take-le n text whole in
    let tails : tail_len p text ≡ tail_len p u = ap (tail_len p) (sym (take-append-drop n text)) ∙ tail_front p u (drop n text) (omega arith) in
    record { is_open = open_p; whole_head = omega arith; whole = omega arith }

open_or : (p : Phase) → IsOpen p ⊎ (IsOpen p → ⊥)
open_or AwaitingFlags = inl tt
open_or (Negotiating no_zeroes) = inl tt
open_or Transmitting = inl tt
open_or Closed = inr (λ h. h)

stop : (p : Phase) (text : List ℕ) → IsPartial p text → Cut p text
stop p text h = ([], text, p, (refl, refl, h))

cut_within : (k : ℕ) (p : Phase) (text : List ℕ) → length text < k → Cut p text
cut_within zero p text lt = absurd (omega arith)
cut_within (suc k) p text lt =
    let n = head_len p + tail_len p text in
    elim (open_or p) [
      | inr shut ↦ stop p text (λ u more e h. shut h.is_open)
      | inl open_p ↦ elim (cases_lt (length text) (head_len p)) [
        | inl short ↦ stop p text (short_is_partial p text (λ long. absurd (omega arith)))
        | inr head ↦ elim (cases_lt (length text) n) [
          | inl short ↦ stop p text (short_is_partial p text (λ _. short))
          | inr whole ↦
              let pos = head_pos p open_p in
              let more = cut_within k (after p (take n text)) (drop n text) (omega (arith, length-drop n text)) in
              (take n text ∷ more.0, more.1, more.2, (drop n text, sym (take-append-drop n text), first_unit p text open_p head whole, more.3))
        ]
      ]
    ]

-- that cutting
pub cut : (p : Phase) (text : List ℕ) → Cut p text
cut p text = cut_within (suc (length text)) p text (omega arith)
