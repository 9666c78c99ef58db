-- Which bits are firm after a program or an erase, and stay so.
use Rattle.std.proofs.Common.{◌≡◌, ℕ, ◌+◌, ◌-◌, ◌<◌, ◌≤◌, List, length, sym, ap, ◌∙◌, arith, inl, inr}
use Rattle.std.specs.Prelude.{slice_range, bit_and, Result, Ok, Err, OnOk}
use Rattle.std.specs.Int.{bit_at}
use Rattle.std.proofs.lemmas.Bool.{cases_lt, cases_eq, cond-true}
use Rattle.std.proofs.lemmas.List.{get_or_past}
use Rattle.std.proofs.lemmas.Nat.Bits.{bit_at_and, bit_at-lt, bit_at-zero, bit_at_ones, same_from_bits}
use Rattle.chip_model.specs.Memory.{byte, and_at, cleared, fill_place}
use Rattle.chip_model.specs.Wavering.{Bits}
use Rattle.chip_model.proofs.MemoryLaws.{within, get-changed, length-changed_from, length-placed, placed-inside}
use Rattle.nor_driver.specs.State.{IsFirmer, program_bits}
use Rattle.nor_driver.specs.declared.error.NorError.{NorError}
use Rattle.erase_journal.specs.Weak.{AreFirm, AreZerosFirm}
use Rattle.erase_journal.proofs.Data.{slice-byte}

-- what is firm stays so
pub firm-stays : (a b : Bits) (i k : ℕ) → IsFirmer a b → bit_at (byte a.weak i) k ≡ 0 → bit_at (byte b.weak i) k ≡ 0
firm-stays a b i k f firm = elim (cases_eq (bit_at (byte b.weak i) k) 0) [
  | inl still ↦ still
  | inr weak ↦
      let two = bit_at-lt (byte b.weak i) k in
      let was = f.weak i k (omega (arith, weak, two)) in
      absurd (omega (arith, was, firm))
]

pub firm-byte-stays : (a b : Bits) (i : ℕ) → IsFirmer a b → byte a.weak i ≡ 0 → byte b.weak i ≡ 0
firm-byte-stays a b i f firm = same_from_bits (byte b.weak i) 0 (λ k. firm-stays a b i k f (ap (λ x. bit_at x k) firm ∙ bit_at-zero k) ∙ sym (bit_at-zero k))

pub are-firm-stays : (a b : Bits) (at n : ℕ) → IsFirmer a b → AreFirm a.weak at n → AreFirm b.weak at n
are-firm-stays a b at n f firm = λ k low. firm-byte-stays a b (at + k) f (firm k low)

pub zeros-firm-stay : (a b : Bits) (at n : ℕ) → IsFirmer a b → b.shown ≡ a.shown → AreZerosFirm a at n → AreZerosFirm b at n
zeros-firm-stay a b at n f same firm = λ i k from to low zero. firm-stays a b i k f (firm i k from to low (ap (λ (m : List ℕ). bit_at (byte m i) k) (sym same) ∙ zero))

-- bytes that are programmed as they read
weak-bit : (m w bytes : List ℕ) (at i k : ℕ) → bytes ≡ slice_range m at (at + length bytes) → at ≤ i → i < at + length bytes → bit_at (byte m i) k ≡ 0
    → bit_at (byte (and_at w at bytes) i) k ≡ 0
weak-bit m w bytes at i k read from to zero = elim (cases_lt i (length w)) [
  | inr past ↦ ap (λ x. bit_at x k) (get_or_past (and_at w at bytes) i 0 (let l = length-placed bit_and w at bytes in omega (arith, l, past))) ∙ bit_at-zero k
  | inl low ↦
      let is : at + (i - at) ≡ i = omega arith in
      let here_is : byte bytes (i - at) ≡ byte m i = ap (λ x. byte x (i - at)) read ∙ (slice-byte m at (length bytes) (i - at) (omega arith) ∙ ap (λ p. byte m p) is) in
      let here : byte (and_at w at bytes) i ≡ bit_and (byte w i) (byte m i) =
      rw is at (placed-inside bit_and w at bytes (i - at) (omega arith) (omega arith)) ∙ ap (λ x. bit_and (byte w i) x) here_is in
      let b = bit_at_and (byte w i) (byte m i) k in
      let e = ap (λ x. bit_at x k) here in
      omega (arith, b, e, zero)
]

pub again-firm : (old new : Bits) (bytes : List ℕ) (at : ℕ) (r : Result (Unit {0}) NorError) → bytes ≡ slice_range old.shown at (at + length bytes) → new.shown ≡ old.shown
    → OnOk r (new ≡ program_bits old at bytes) → OnOk r (AreZerosFirm new at (length bytes))
again-firm old new bytes at (Ok x) read same is = λ i k from to low zero.
    ap (λ (b : Bits). bit_at (byte b.weak i) k) is
    ∙ weak-bit old.shown old.weak bytes at i k read from to (ap (λ (m : List ℕ). bit_at (byte m i) k) (sym same) ∙ zero)
again-firm old new bytes at (Err e) read same is = tt

-- one range after another
pub zeros-firm-on : (b : Bits) (at n more : ℕ) → AreZerosFirm b at n → AreZerosFirm b (at + n) more → AreZerosFirm b at (n + more)
zeros-firm-on b at n more p q = λ i k from to low zero. elim (cases_lt i (at + n)) [
  | inl here ↦ p i k from here low zero
  | inr past ↦ q i k past (omega (arith, to)) low zero
]

-- a page that is erased has no bit that reads 0
pub blank-firm : (b : Bits) (at n : ℕ) → ((k : ℕ) → k < n → byte b.shown (at + k) ≡ 255) → AreZerosFirm b at n
blank-firm b at n blank = λ i k from to low zero.
    let is : at + (i - at) ≡ i = omega arith in
    let full : byte b.shown i ≡ 255 = rw is at (blank (i - at) (omega arith)) in
    let one = bit_at_ones 8 k low in
    let e = ap (λ x. bit_at x k) full in
    absurd (omega (arith, one, e, zero))

-- an erase
pub erase-firm : (w : List ℕ) (at n : ℕ) → AreFirm (cleared w at n) at n
erase-firm w at n k low = elim (cases_lt (at + k) (length w)) [
  | inl here ↦ get-changed (fill_place 0 at n) w (at + k) 0 here ∙ cond-true _ _ _ (within at n (at + k) (omega arith) (omega arith))
  | inr past ↦ get_or_past (cleared w at n) (at + k) 0 (let l = length-changed_from (fill_place 0 at n) 0 w in omega (arith, l, past))
]
