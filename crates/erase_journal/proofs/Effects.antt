-- What the calls of a NOR memory do to its places.
use Rattle.std.proofs.Common.{◌≡◌, ◌≢◌, ℕ, zero, suc, ◌+◌, ◌<◌, ◌≤◌, ◌⊎◌, false, List, [], ◌∷◌, length, refl, sym, ap, ◌∙◌, arith, inl, inr}
use Rattle.std.specs.Prelude.{bit_and}
use Rattle.std.specs.Int.{bit_at}
use Rattle.std.proofs.lemmas.List.{get_or_past}
use Rattle.std.proofs.lemmas.Nat.Bits.{bit_at-suc}
use Rattle.std.proofs.lemmas.Bool.{cases_lt, cases_eq, cond-false}
use Rattle.std.proofs.lemmas.Grind.{same_number_lists}
use Rattle.chip_model.specs.Memory.{byte, and_at, erased, is_within, IsMixed, TornAnd, TornErase}
use Rattle.chip_model.proofs.MemoryLaws.{length-placed, get-placed, placed-inside, length-erased, erased-outside, erased-inside, within, not-within-below, not-within-above}
use Rattle.chip_model.proofs.BitLaws.{mixed_same, mixed_one}
use Rattle.nor_driver.specs.State.{Leaves, as_before, torn_in_it, changed_whole}
use Rattle.erase_journal.specs.Places.{Spoiled, Changed}

-- past the end both read 0
pub past-same : (m m' : List ℕ) (i : ℕ) → length m' ≡ length m → length m ≤ i → byte m' i ≡ byte m i
past-same m m' i e high = get_or_past m' i 0 (omega (arith, e)) ∙ sym (get_or_past m i 0 high)

pub and-outside : (m : List ℕ) (a : ℕ) (bytes : List ℕ) (i : ℕ) → is_within a (length bytes) i ≡ false → byte (and_at m a bytes) i ≡ byte m i
and-outside m a bytes i out = elim (cases_lt i (length m)) [
  | inl low ↦ get-placed bit_and m a bytes i 0 low ∙ cond-false _ _ _ out
  | inr high ↦ past-same m (and_at m a bytes) i (length-placed bit_and m a bytes) high
]

-- The unit is erased, whole or torn.
pub erased-spoiled : (m : List ℕ) (a size : ℕ) → Spoiled a size m (erased m a size)
erased-spoiled m a size = record {
  same_length = length-erased m a size;
  below = λ k low. erased-outside m a size k (not-within-below a size k low);
  above = λ k high. erased-outside m a size k (not-within-above a size k high);
}

pub erased-bytes : (m : List ℕ) (a size : ℕ) → a + size ≤ length m → (k : ℕ) → k < size → byte (erased m a size) (a + k) ≡ 255
erased-bytes m a size fits k low = erased-inside m a size (a + k) (within a size (a + k) (omega arith) (omega arith)) (omega arith)

pub spoiled-refl : (a n : ℕ) (m : List ℕ) → Spoiled a n m m
spoiled-refl a n m = record { same_length = refl; below = λ k low. refl; above = λ k high. refl }

torn-erase-spoiled : (m : List ℕ) (a size : ℕ) (torn : List ℕ) → TornErase m a size torn → Spoiled a size m torn
torn-erase-spoiled m a size torn h = record {
  same_length = h.same_length;
  below = λ k low. h.outside k (not-within-below a size k low);
  above = λ k high. h.outside k (not-within-above a size k high);
}

pub erase-leaves : (m : List ℕ) (a size : ℕ) (new : List ℕ) → Leaves m (TornErase m a size) (erased m a size) new → Spoiled a size m new
erase-leaves m a size new (as_before e) = rw e (spoiled-refl a size m)
erase-leaves m a size new (torn_in_it h) = torn-erase-spoiled m a size new h
erase-leaves m a size new (changed_whole e) = rw e (erased-spoiled m a size)

-- Bytes are programmed, whole or torn.
pub and-spoiled : (m : List ℕ) (a : ℕ) (bytes : List ℕ) → Spoiled a (length bytes) m (and_at m a bytes)
and-spoiled m a bytes = record {
  same_length = length-placed bit_and m a bytes;
  below = λ k low. and-outside m a bytes k (not-within-below a (length bytes) k low);
  above = λ k high. and-outside m a bytes k (not-within-above a (length bytes) k high);
}

torn-outside : (m : List ℕ) (a : ℕ) (bytes torn : List ℕ) → TornAnd m a bytes torn → (k : ℕ) → is_within a (length bytes) k ≡ false → byte torn k ≡ byte m k
torn-outside m a bytes torn t k out = elim (cases_lt k (length m)) [
  | inl inside ↦ mixed_same (byte m k) (byte torn k) (rw (and-outside m a bytes k out) at (t.each k inside))
  | inr past ↦ past-same m torn k t.same_length past
]

pub torn-spoiled : (m : List ℕ) (a : ℕ) (bytes torn : List ℕ) → TornAnd m a bytes torn → Spoiled a (length bytes) m torn
torn-spoiled m a bytes torn t = record {
  same_length = t.same_length;
  below = λ k low. torn-outside m a bytes torn t k (not-within-below a (length bytes) k low);
  above = λ k high. torn-outside m a bytes torn t k (not-within-above a (length bytes) k high);
}

pub and-leaves : (m : List ℕ) (a : ℕ) (bytes new : List ℕ) → Leaves m (TornAnd m a bytes) (and_at m a bytes) new → Spoiled a (length bytes) m new
and-leaves m a bytes new (as_before e) = rw e (spoiled-refl a (length bytes) m)
and-leaves m a bytes new (torn_in_it t) = torn-spoiled m a bytes new t
and-leaves m a bytes new (changed_whole e) = rw e (and-spoiled m a bytes)

-- old and new differ in the bit j alone
pub record OneBit (j old new : ℕ) : Type 0 where
  pub others : (k : ℕ) → k ≢ j → bit_at old k ≡ bit_at new k

bits-open : (k : ℕ) → k ≢ 0 → bit_at 255 k ≡ bit_at 254 k
bits-open zero other = absurd (other refl)
bits-open (suc k) other = bit_at-suc 255 k ∙ sym (bit_at-suc 254 k)

pub bit-open : OneBit 0 255 254
bit-open = record { others = bits-open }

bits-close : (k : ℕ) → k ≢ 1 → bit_at 254 k ≡ bit_at 252 k
bits-close zero other = refl
bits-close (suc zero) other = absurd (other refl)
bits-close (suc (suc k)) other = bit_at-suc 254 (suc k) ∙ bit_at-suc 127 k ∙ sym (bit_at-suc 126 k) ∙ sym (bit_at-suc 252 (suc k))

pub bit-close : OneBit 1 254 252
bit-close = record { others = bits-close }

bits-give_up : (k : ℕ) → k ≢ 1 → bit_at 255 k ≡ bit_at 253 k
bits-give_up zero other = refl
bits-give_up (suc zero) other = absurd (other refl)
bits-give_up (suc (suc k)) other = bit_at-suc 255 (suc k) ∙ bit_at-suc 127 k ∙ sym (bit_at-suc 126 k) ∙ sym (bit_at-suc 253 (suc k))

pub bit-give_up : OneBit 1 255 253
bit-give_up = record { others = bits-give_up }

bits-done : (k : ℕ) → k ≢ 2 → bit_at 252 k ≡ bit_at 248 k
bits-done zero other = refl
bits-done (suc zero) other = refl
bits-done (suc (suc zero)) other = absurd (other refl)
bits-done (suc (suc (suc k))) other = bit_at-suc 252 (suc (suc k)) ∙ bit_at-suc 126 (suc k) ∙ bit_at-suc 63 k ∙ sym (bit_at-suc 62 k) ∙ sym (bit_at-suc 124 (suc k)) ∙ sym (bit_at-suc 248 (suc (suc k)))

pub bit-done : OneBit 2 252 248
bit-done = record { others = bits-done }

other-place : (a k : ℕ) → k ≢ a → is_within a 1 k ≡ false
other-place a k other = elim (cases_lt k a) [ inl low ↦ not-within-below a 1 k low | inr high ↦ not-within-above a 1 k (omega arith) ]

-- One byte is programmed.
pub program-changes : (m : List ℕ) (a old value : ℕ) → a < length m → byte m a ≡ old → Changed a old (bit_and old value) m (and_at m a (value ∷ []))
program-changes m a old value low was = record {
  was = was;
  is = let z : a + 0 ≡ a = omega arith in
      (rw z at (placed-inside bit_and m a (value ∷ []) 0 (omega arith) (omega arith))) ∙ ap (λ x. bit_and x value) was;
  same_length = length-placed bit_and m a (value ∷ []);
  rest = λ k other. and-outside m a (value ∷ []) k (other-place a k other);
}

-- One byte is programmed or torn, where one bit changes: all or nothing.
pub program-torn : (j : ℕ) (m : List ℕ) (a old value : ℕ) (torn : List ℕ) → a < length m → byte m a ≡ old → OneBit j old (bit_and old value)
    → TornAnd m a (value ∷ []) torn → (torn ≡ m) ⊎ Changed a old (bit_and old value) m torn
program-torn j m a old value torn low was one h =
    let c = program-changes m a old value low was in
    let others : (k : ℕ) → k ≢ a → byte torn k ≡ byte m k = λ k other. torn-outside m a (value ∷ []) torn h k (other-place a k other) in
    let here : IsMixed old (bit_and old value) (byte torn a) = rw (c.is, was) at (h.each a low) in
    elim (mixed_one j old (bit_and old value) (byte torn a) one.others here) [
      | inl e ↦ inl (same_number_lists torn m h.same_length (λ k below. elim (cases_eq k a) [ inl same ↦ rw same (e ∙ sym was) | inr other ↦ others k other ]))
      | inr e ↦ inr (record { was = was; is = e; same_length = h.same_length; rest = others })
    ]

pub program-leaves : (j : ℕ) (m : List ℕ) (a old value : ℕ) (new : List ℕ) → a < length m → byte m a ≡ old → OneBit j old (bit_and old value)
    → Leaves m (TornAnd m a (value ∷ [])) (and_at m a (value ∷ [])) new → (new ≡ m) ⊎ Changed a old (bit_and old value) m new
program-leaves j m a old value new low was one (as_before e) = inl e
program-leaves j m a old value new low was one (torn_in_it h) = program-torn j m a old value new low was one h
program-leaves j m a old value new low was one (changed_whole e) = inr (rw e (program-changes m a old value low was))
