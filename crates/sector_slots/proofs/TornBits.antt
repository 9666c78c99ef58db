-- What a program that was interrupted leaves of the bits, and what a later power-on reads of them.
use Rattle.std.proofs.Common.{◌≡◌, ◌≢◌, ℕ, ◌+◌, ◌-◌, ◌<◌, ◌≤◌, ◌⊎◌, List, length, refl, sym, ap, ◌∙◌, subst, arith, inl, inr}
use Rattle.std.specs.Prelude.{min, bit_and}
use Rattle.std.specs.Int.{bit_at}
use Rattle.std.proofs.lemmas.Bool.{cases_eq, cases_lt, cond-true}
use Rattle.std.proofs.lemmas.List.{get_or_past}
use Rattle.std.proofs.lemmas.Nat.Bits.{bit_at-lt, bit_at-zero, bit_at_above, same_from_bits}
use Rattle.chip_model.specs.Memory.{byte, and_at, with_differences}
use Rattle.chip_model.specs.Wavering.{Bits, Drawn}
use Rattle.chip_model.proofs.BitLaws.{mixed_one}
use Rattle.chip_model.proofs.MemoryLaws.{length-changed_from, length-placed, placed-inside, within}
use Rattle.chip_model.proofs.WaveringLaws.{past_bit}
use Rattle.nor_driver.specs.State.{as_before, torn_in_it, changed_whole}
use Rattle.erase_journal.proofs.Effects.{OneBit, bit-open, bit-close, bit-done}
use Rattle.erase_journal.proofs.Drawing.{anded, differ, differing}
use Rattle.erase_journal.specs.Torn.{ProgramInterrupted}

-- a bit that reads 0 does so after a program
pub zero-stays : (m : List ℕ) (at : ℕ) (bytes : List ℕ) (i k : ℕ) → bit_at (byte m i) k ≡ 0 → bit_at (byte (and_at m at bytes) i) k ≡ 0
zero-stays m at bytes i k none = let e = anded m at bytes i k in omega (arith, e, none)

-- what is programmed of the first of these bytes
pub first-bit : (m : List ℕ) (at : ℕ) (bytes : List ℕ) (k : ℕ) → 0 < length bytes → bit_at (byte (and_at m at bytes) at) k ≡ min (bit_at (byte m at) k) (bit_at (byte bytes 0) k)
first-bit m at bytes k some =
    let z : at - at ≡ 0 = omega arith in
    anded m at bytes at k ∙ ap (λ x. min (bit_at (byte m at) k) x) (cond-true _ _ _ (within at (length bytes) at (omega arith) (omega (arith, some))) ∙ ap (λ q. bit_at (byte bytes q) k) z)

-- a byte that was FFh
pub programmed-byte : (m : List ℕ) (at : ℕ) (bytes : List ℕ) (j : ℕ) → j < length bytes → byte m (at + j) ≡ 255 → byte (and_at m at bytes) (at + j) ≡ bit_and 255 (byte bytes j)
programmed-byte m at bytes j low full = elim (cases_lt (at + j) (length m)) [
  | inl inside ↦ placed-inside bit_and m at bytes j low inside ∙ ap (λ x. bit_and x (byte bytes j)) full
  | inr past ↦ (let none = get_or_past m (at + j) 0 past in absurd (omega (arith, none, full)))
]

-- A firm bit that a program doesn't change reads as it did, and is firm, also where the program was interrupted.
module _ (a new : Bits) (at : ℕ) (bytes : List ℕ) (i k : ℕ) (same : bit_at (byte (and_at a.shown at bytes) i) k ≡ bit_at (byte a.shown i) k) (firm : bit_at (byte a.weak i) k ≡ 0) where
  kept-shown : ProgramInterrupted at bytes a new → bit_at (byte new.shown i) k ≡ bit_at (byte a.shown i) k
  kept-shown (as_before e) = ap (λ (x : Bits). bit_at (byte x.shown i) k) e
  kept-shown (changed_whole e) = ap (λ (x : Bits). bit_at (byte x.shown i) k) e ∙ same
  kept-shown (torn_in_it t) = elim (cases_lt i (length a.shown)) [
    | inl low ↦ elim (t.0.each i low k) [ inl e ↦ e | inr e ↦ e ∙ same ]
    | inr past ↦ (let n = t.0.same_length in past_bit new.shown i k (omega (arith, n, past)) ∙ sym (past_bit a.shown i k past))
  ]

  kept-firm : ProgramInterrupted at bytes a new → bit_at (byte new.weak i) k ≡ 0
  kept-firm (as_before e) = ap (λ (x : Bits). bit_at (byte x.weak i) k) e ∙ firm
  kept-firm (changed_whole e) = ap (λ (x : Bits). bit_at (byte x.weak i) k) e ∙ zero-stays a.weak at bytes i k firm
  kept-firm (torn_in_it t) = ap (λ (w : List ℕ). bit_at (byte w i) k) t.1 ∙ elim (cases_lt i (length a.weak)) [
    | inl low ↦
        let e = differ a.shown (and_at a.shown at bytes) a.weak i k low in
        let two = bit_at-lt (byte a.shown i) k in
        omega (arith, e, same, firm, two)
    | inr past ↦ past_bit (with_differences a.shown (and_at a.shown at bytes) a.weak) i k (let l = length-changed_from (differing a.shown (and_at a.shown at bytes)) 0 a.weak in omega (arith, l, past))
  ]

-- A firm bit at a later power-on.
pub record IsKeptBit (new : Bits) (at k x : ℕ) : Type 0 where
  pub firm : bit_at (byte new.weak at) k ≡ 0
  pub reads : (v : List ℕ) → Drawn new.weak new.shown v → bit_at (byte v at) k ≡ x

pub shown-bit : (new : Bits) (at k x : ℕ) → bit_at (byte new.shown at) k ≡ x → bit_at (byte new.weak at) k ≡ 0 → IsKeptBit new at k x
shown-bit new at k x shown firm = record { firm = firm; reads = λ v d. d.firm at k firm ∙ shown }

-- Bit k of the first byte that was programmed, which was `old`: the program left it.
pub state-kept : (a new : Bits) (at : ℕ) (bytes : List ℕ) (old k : ℕ) → ProgramInterrupted at bytes a new → 0 < length bytes → byte a.shown at ≡ old → min (bit_at old k) (bit_at (byte bytes 0) k) ≡ bit_at old k → bit_at (byte a.weak at) k ≡ 0
    → IsKeptBit new at k (bit_at old k)
state-kept a new at bytes old k l some was left firm =
    let bit : bit_at (byte a.shown at) k ≡ bit_at old k = ap (λ x. bit_at x k) was in
    let e = first-bit a.shown at bytes k some in
    let same : bit_at (byte (and_at a.shown at bytes) at) k ≡ bit_at (byte a.shown at) k = omega (arith, e, bit, left) in
    shown-bit new at k (bit_at old k) (kept-shown a new at bytes at k same firm l ∙ bit) (kept-firm a new at bytes at k same firm l)

-- No bit of a byte becomes weak but the low eight.
pub high-kept : (a new : Bits) (at : ℕ) (bytes : List ℕ) (i k : ℕ) → ProgramInterrupted at bytes a new → byte a.shown i < 256 → 8 ≤ k → bit_at (byte a.weak i) k ≡ 0 → bit_at (byte new.weak i) k ≡ 0
high-kept a new at bytes i k l small high firm =
    let none = bit_at_above (byte a.shown i) 8 k small high in
    kept-firm a new at bytes i k (zero-stays a.shown at bytes i k none ∙ sym none) firm l

pub program-length : (a new : Bits) (at : ℕ) (bytes : List ℕ) → ProgramInterrupted at bytes a new → length new.shown ≡ length a.shown
program-length a new at bytes (as_before e) = ap (λ (x : Bits). length x.shown) e
program-length a new at bytes (torn_in_it t) = t.0.same_length
program-length a new at bytes (changed_whole e) = ap (λ (x : Bits). length x.shown) e ∙ length-placed bit_and a.shown at bytes

-- a bit that a step of one bit leaves
pub others-left : (j old new k : ℕ) → OneBit j old new → k ≢ j → min (bit_at old k) (bit_at new k) ≡ bit_at old k
others-left j old new k step other = let e = step.others k other in omega (arith, e)

-- One bit is programmed, of a byte that reads as `old`.
pub record IsBitStep (j old new : ℕ) : Type 0 where
  pub others : OneBit j old new
  pub one : bit_at old j ≡ 1
  pub none : bit_at new j ≡ 0
  pub small : old < 256

pub begin-step : IsBitStep 0 255 254
begin-step = record { others = bit-open; one = refl; none = refl; small = omega arith }

pub commit-step : IsBitStep 1 254 252
commit-step = record { others = bit-close; one = refl; none = refl; small = omega arith }

pub retire-step : IsBitStep 2 252 248
retire-step = record { others = bit-done; one = refl; none = refl; small = omega arith }

-- a byte of which that bit alone isn't firm
pub one-weak : (j old new t : ℕ) → IsBitStep j old new → ((k : ℕ) → k ≢ j → bit_at t k ≡ bit_at old k) → (t ≡ old) ⊎ (t ≡ new)
one-weak j old new t step same = mixed_one j old new t step.others.others (λ k. elim (cases_eq k j) as (λ _. (bit_at t k ≡ bit_at old k) ⊎ (bit_at t k ≡ bit_at new k)) [
  | inr other ↦ inl (same k other)
  | inl here ↦ subst (λ q. (bit_at t q ≡ bit_at old q) ⊎ (bit_at t q ≡ bit_at new q)) (sym here) (elim (cases_eq (bit_at t j) 0) as (λ _. (bit_at t j ≡ bit_at old j) ⊎ (bit_at t j ≡ bit_at new j)) [
    | inl low ↦ inr (low ∙ sym step.none)
    | inr some ↦ inl (let two = bit_at-lt t j in let one = step.one in omega (arith, some, two, one))
  ])
])

-- a byte each bit of which is 0
pub no-bits : (x : ℕ) → ((k : ℕ) → bit_at x k ≡ 0) → x ≡ 0
no-bits x each = same_from_bits x 0 (λ k. each k ∙ sym (bit_at-zero k))
