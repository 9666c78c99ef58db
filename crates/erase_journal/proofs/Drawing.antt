-- What a power-on reads after an operation of a NOR memory whose bits waver: what the operation leaves of a memory that reads as a draw of the one before it.
use Rattle.std.proofs.Common.{◌≡◌, ◌≢◌, ℕ, ◌+◌, ◌-◌, ◌%◌, ◌<◌, ◌≤◌, ◌⊎◌, Bool, true, false, cond, List, length, refl, sym, ap, ◌∙◌, subst, arith, inl, inr}
use Rattle.std.specs.Prelude.{bit_and, bit_or, bit_xor, max, min}
use Rattle.std.specs.Int.{bit_at}
use Rattle.std.proofs.lemmas.List.{ext_get_or}
use Rattle.std.proofs.lemmas.Bool.{cases_lt, cases_eq}
use Rattle.std.proofs.lemmas.Nat.Bits.{bit_at_and, bit_at_or, bit_at_xor, bit_at-lt, same_from_bits}
use Rattle.chip_model.specs.Memory.{byte, changed, and_at, is_within, with_differences}
use Rattle.chip_model.specs.Wavering.{Bits, Drawn}
use Rattle.chip_model.proofs.MemoryLaws.{length-changed_from, get-changed, length-placed, get-placed, length-erased, not-within-above, not-within-below}
use Rattle.chip_model.proofs.WaveringLaws.{past_bit, erase_out, fill_out}
use Rattle.nor_driver.specs.State.{Leaves, as_before, torn_in_it, changed_whole, TornProgramBits, program_bits, TornEraseBits, erase_bits}
use Rattle.erase_journal.specs.Places.{Spoiled}

-- the memory that reads as v where no bit was weak, and as m where one was
abbrev pub mixed : List ℕ → List ℕ → ℕ → ℕ → ℕ
mixed m w i x = bit_xor x (bit_and (bit_xor x (byte m i)) (byte w i))

mixed_bit : (m w v : List ℕ) (i k : ℕ) → i < length v
    → bit_at (byte (changed (mixed m w) v) i) k ≡ (bit_at (byte v i) k + min ((bit_at (byte v i) k + bit_at (byte m i) k) % 2) (bit_at (byte w i) k)) % 2
mixed_bit m w v i k low =
    let x = byte v i in
    let a = bit_at_xor x (byte m i) k in
    let b = bit_at_and (bit_xor x (byte m i)) (byte w i) k in
    ap (λ z. bit_at z k) (get-changed (mixed m w) v i 0 low)
    ∙ (bit_at_xor x (bit_and (bit_xor x (byte m i)) (byte w i)) k
    ∙ ap (λ z. (bit_at x k + z) % 2) (b ∙ ap (λ z. min z (bit_at (byte w i) k)) a))

pub mixed_firm : (m w v : List ℕ) (i k : ℕ) → bit_at (byte w i) k ≡ 0 → bit_at (byte (changed (mixed m w) v) i) k ≡ bit_at (byte v i) k
mixed_firm m w v i k z = elim (cases_lt i (length v)) [
  | inl low ↦ (let e = mixed_bit m w v i k low in let x = bit_at-lt (byte v i) k in omega (arith, e, z, x))
  | inr high ↦ past_bit (changed (mixed m w) v) i k (let n = length-changed_from (mixed m w) 0 v in omega (arith, n, high)) ∙ sym (past_bit v i k high)
]

pub mixed_weak : (m w v : List ℕ) (i k : ℕ) → i < length v → bit_at (byte w i) k ≢ 0 → bit_at (byte (changed (mixed m w) v) i) k ≡ bit_at (byte m i) k
mixed_weak m w v i k low n =
    let e = mixed_bit m w v i k low in
    let x = bit_at-lt (byte v i) k in
    let y = bit_at-lt (byte m i) k in
    let z = bit_at-lt (byte w i) k in
    omega (arith, e, n, x, y, z)

-- the memory that reads as m where no bit was weak, and as v where one was
abbrev pub read_as : List ℕ → List ℕ → List ℕ → List ℕ
read_as v w m = changed (mixed v w) m

pub length-read : (v w m : List ℕ) → length (read_as v w m) ≡ length m
length-read v w m = length-changed_from (mixed v w) 0 m

pub read_drawn : (v w m : List ℕ) → Drawn w m (read_as v w m)
read_drawn v w m = record {
  same_length = length-read v w m;
  firm = λ i k z. mixed_firm v w m i k z;
}

-- bits whose weak ones read as v
abbrev pub bits_as : List ℕ → Bits → Bits
bits_as v a = record { shown = read_as v a.weak a.shown; weak = a.weak }

-- the bits as they read at a power-on
abbrev pub bits_drawn : List ℕ → Bits → Bits
bits_drawn v b = record { shown = v; weak = b.weak }

-- a draw is what it reads as
drawn-same : (w m v : List ℕ) → Drawn w m v → v ≡ read_as v w m
drawn-same w m v d =
    let n = length-read v w m in
    let c = d.same_length in
    ext_get_or 0 v (read_as v w m) (omega (arith, n, c)) (λ i low. same_from_bits (byte v i) (byte (read_as v w m) i) (λ k. elim (cases_eq (bit_at (byte w i) k) 0) [
      | inl z ↦ d.firm i k z ∙ sym (mixed_firm v w m i k z)
      | inr some ↦ sym (mixed_weak v w m i k (omega (arith, c, low)) some)
    ]))

-- the data's bit at a place, and 1 where no data falls
abbrev pub fallen : ℕ → List ℕ → ℕ → ℕ → ℕ
fallen at bytes i k = cond (is_within at (length bytes) i) (bit_at (byte bytes (i - at)) k) 1

and_cond : (t : Bool) (x d k : ℕ) → bit_at (cond t (bit_and x d) x) k ≡ min (bit_at x k) (cond t (bit_at d k) 1)
and_cond true x d k = bit_at_and x d k
and_cond false x d k = let two = bit_at-lt x k in omega (arith, two)

fallen-two : (t : Bool) (x k : ℕ) → cond t (bit_at x k) 1 < 2
fallen-two true x k = bit_at-lt x k
fallen-two false x k = omega arith

pub anded : (m : List ℕ) (at : ℕ) (bytes : List ℕ) (i k : ℕ) → bit_at (byte (and_at m at bytes) i) k ≡ min (bit_at (byte m i) k) (fallen at bytes i k)
anded m at bytes i k = elim (cases_lt i (length m)) [
  | inl low ↦
      ap (λ x. bit_at x k) (get-placed bit_and m at bytes i 0 low)
      ∙ and_cond (is_within at (length bytes) i) (byte m i) (byte bytes (i - at)) k
  | inr high ↦
      let a = past_bit m i k high in
      let b = past_bit (and_at m at bytes) i k (let l = length-placed bit_and m at bytes in omega (arith, l, high)) in
      omega (arith, a, b)
]

-- the bits in which two memories differ, beside weak ones
abbrev pub differing : List ℕ → List ℕ → ℕ → ℕ → ℕ
differing m m' i x = bit_or x (bit_xor (byte m i) (byte m' i))

pub differ : (m m' w : List ℕ) (i k : ℕ) → i < length w
    → bit_at (byte (with_differences m m' w) i) k ≡ max (bit_at (byte w i) k) ((bit_at (byte m i) k + bit_at (byte m' i) k) % 2)
differ m m' w i k low =
    ap (λ x. bit_at x k) (get-changed (differing m m') w i 0 low)
    ∙ (bit_at_or (byte w i) (bit_xor (byte m i) (byte m' i)) k
    ∙ ap (λ x. max (bit_at (byte w i) k) x) (bit_at_xor (byte m i) (byte m' i) k))

two : (a b c : ℕ) → a < 2 → b < 2 → c < 2 → b ≢ a → (c ≡ a) ⊎ (c ≡ b)
two a b c x y z n = elim (cases_eq c a) [ inl e ↦ inl e | inr ne ↦ inr (omega (arith, x, y, z, n, ne)) ]

-- the same bits
abbrev with_bits : List ℕ → List ℕ → Bits
with_bits m w = record { shown = m; weak = w }

pub same-bits : (m m' w w' : List ℕ) → m ≡ m' → w ≡ w' → with_bits m w ≡ with_bits m' w'
same-bits m m' w w' e f = rw (e, f) refl

-- A program.
module _ (a : Bits) (at : ℕ) (bytes v : List ℕ) where
  abbrev r : List ℕ
  r = read_as v a.weak a.shown

  abbrev d : ℕ → ℕ → ℕ
  d i k = fallen at bytes i k

  d-two : (i k : ℕ) → d i k < 2
  d-two i k = fallen-two (is_within at (length bytes) i) (byte bytes (i - at)) k

  -- one that completed
  whole-bit : (i k : ℕ) → i < length a.shown → Drawn (and_at a.weak at bytes) (and_at a.shown at bytes) v → bit_at (byte v i) k ≡ bit_at (byte (and_at r at bytes) i) k
  whole-bit i k low w =
      let pw = anded a.weak at bytes i k in
      let pm = anded a.shown at bytes i k in
      let pr = anded r at bytes i k in
      let x = bit_at-lt (byte v i) k in
      let dt = d-two i k in
      elim (cases_eq (bit_at (byte a.weak i) k) 0) [
        | inl z ↦
            let same = mixed_firm v a.weak a.shown i k z in
            let f = w.firm i k (omega (arith, pw, z)) in
            omega (arith, f, pm, pr, same)
        | inr some ↦
            let same = mixed_weak v a.weak a.shown i k low some in
            elim (cases_eq (d i k) 0) [
              | inl none ↦
                  let f = w.firm i k (omega (arith, pw, none)) in
                  omega (arith, f, pm, pr, none)
              | inr one ↦ omega (arith, pr, same, one, x, dt)
            ]
      ]

  whole : Drawn (and_at a.weak at bytes) (and_at a.shown at bytes) v → v ≡ and_at r at bytes
  whole w =
      let n = length-read v a.weak a.shown in
      let l = length-placed bit_and r at bytes in
      let m = length-placed bit_and a.shown at bytes in
      let c = w.same_length in
      ext_get_or 0 v (and_at r at bytes) (omega (arith, n, l, m, c)) (λ i low. same_from_bits (byte v i) (byte (and_at r at bytes) i) (λ k. whole-bit i k (omega (arith, low, m, c)) w))

  -- one that was interrupted: the same bits are weak, whatever was read
  weak-bit : (i k : ℕ) → i < length a.weak → bit_at (byte (with_differences a.shown (and_at a.shown at bytes) a.weak) i) k ≡ bit_at (byte (with_differences r (and_at r at bytes) a.weak) i) k
  weak-bit i k low =
      let e = differ a.shown (and_at a.shown at bytes) a.weak i k low in
      let f = differ r (and_at r at bytes) a.weak i k low in
      let pm = anded a.shown at bytes i k in
      let pr = anded r at bytes i k in
      let w = bit_at-lt (byte a.weak i) k in
      elim (cases_eq (bit_at (byte a.weak i) k) 0) [
        | inl z ↦ (let same = mixed_firm v a.weak a.shown i k z in omega (arith, e, f, pm, pr, same, z))
        | inr some ↦ omega (arith, e, f, w, some)
      ]

  same-weak : with_differences a.shown (and_at a.shown at bytes) a.weak ≡ with_differences r (and_at r at bytes) a.weak
  same-weak =
      let l = length-changed_from (differing a.shown (and_at a.shown at bytes)) 0 a.weak in
      let n = length-changed_from (differing r (and_at r at bytes)) 0 a.weak in
      ext_get_or 0 (with_differences a.shown (and_at a.shown at bytes) a.weak) (with_differences r (and_at r at bytes) a.weak) (omega (arith, l, n)) (λ i low. same_from_bits (byte (with_differences a.shown (and_at a.shown at bytes) a.weak) i) (byte (with_differences r (and_at r at bytes) a.weak) i) (λ k. weak-bit i k (omega (arith, low, l))))

  torn-bit : (b : Bits) (i k : ℕ) → i < length a.shown → TornProgramBits a at bytes b → Drawn b.weak b.shown v
      → (bit_at (byte v i) k ≡ bit_at (byte r i) k) ⊎ (bit_at (byte v i) k ≡ bit_at (byte (and_at r at bytes) i) k)
  torn-bit b i k low t w =
      let pm = anded a.shown at bytes i k in
      let pr = anded r at bytes i k in
      elim (cases_eq (bit_at (byte a.weak i) k) 0) [
        | inr some ↦ inl (sym (mixed_weak v a.weak a.shown i k low some))
        | inl z ↦
            let same = mixed_firm v a.weak a.shown i k z in
            elim (cases_eq (bit_at (byte b.weak i) k) 0) [
              | inl firmly ↦
                  let f = w.firm i k firmly in
                  elim (t.0.each i low k) [ inl e ↦ inl (omega (arith, f, e, same)) | inr e ↦ inr (omega (arith, f, e, pm, pr, same)) ]
              | inr torn ↦ elim (cases_eq (bit_at (byte (and_at a.shown at bytes) i) k) (bit_at (byte a.shown i) k)) [
                | inr n ↦ elim (two (bit_at (byte a.shown i) k) (bit_at (byte (and_at a.shown at bytes) i) k) (bit_at (byte v i) k) (bit_at-lt (byte a.shown i) k) (bit_at-lt (byte (and_at a.shown at bytes) i) k) (bit_at-lt (byte v i) k) n) [
                  | inl e ↦ inl (omega (arith, e, same))
                  | inr e ↦ inr (omega (arith, e, pm, pr, same))
                ]
                | inl e ↦ absurd (elim (cases_lt i (length a.weak)) [
                  | inl inside ↦
                      let f = differ a.shown (and_at a.shown at bytes) a.weak i k inside in
                      let g = ap (λ (x : List ℕ). bit_at (byte x i) k) t.1 in
                      omega (arith, f, g, e, z, torn)
                  | inr past ↦
                      let f = past_bit (with_differences a.shown (and_at a.shown at bytes) a.weak) i k (let l = length-changed_from (differing a.shown (and_at a.shown at bytes)) 0 a.weak in omega (arith, l, past)) in
                      let g = ap (λ (x : List ℕ). bit_at (byte x i) k) t.1 in
                      omega (arith, f, g, torn)
                ])
              ]
            ]
      ]

  torn : (b : Bits) → TornProgramBits a at bytes b → Drawn b.weak b.shown v → TornProgramBits (bits_as v a) at bytes (bits_drawn v b)
  torn b t w =
      let n = length-read v a.weak a.shown in
      let l = t.0.same_length in
      let c = w.same_length in
      (record { same_length = omega (arith, n, l, c); each = λ i low k. torn-bit b i k (omega (arith, low, n)) t w }, t.1 ∙ same-weak)

-- What a power-on reads after a program, whole or torn, is what the program leaves of such a memory.
pub program-drawn : (a b : Bits) (at : ℕ) (bytes v : List ℕ) → Leaves a (TornProgramBits a at bytes) (program_bits a at bytes) b → Drawn b.weak b.shown v
    → Leaves (bits_as v a) (TornProgramBits (bits_as v a) at bytes) (program_bits (bits_as v a) at bytes) (bits_drawn v b)
program-drawn a b at bytes v (as_before e) w =
    let f = ap (λ (x : Bits). x.weak) e in
    as_before (same-bits v (read_as v a.weak a.shown) b.weak a.weak (drawn-same a.weak a.shown v (subst (λ (x : Bits). Drawn x.weak x.shown v) e w)) f)
program-drawn a b at bytes v (torn_in_it t) w = torn_in_it (torn a at bytes v b t w)
program-drawn a b at bytes v (changed_whole e) w =
    changed_whole (same-bits v (and_at (read_as v a.weak a.shown) at bytes) b.weak (and_at a.weak at bytes) (whole a at bytes v (subst (λ (x : Bits). Drawn x.weak x.shown v) e w)) (ap (λ (x : Bits). x.weak) e))

-- An erase: outside of its unit nothing changes.
pub erase-beside : (a b : Bits) (at size : ℕ) → Leaves a (TornEraseBits a at size) (erase_bits a at size) b → (i k : ℕ) → is_within at size i ≡ false
    → (bit_at (byte b.shown i) k ≡ bit_at (byte a.shown i) k) × (bit_at (byte b.weak i) k ≡ bit_at (byte a.weak i) k)
erase-beside a b at size (as_before e) i k out = (ap (λ (x : Bits). bit_at (byte x.shown i) k) e, ap (λ (x : Bits). bit_at (byte x.weak i) k) e)
erase-beside a b at size (torn_in_it t) i k out = (ap (λ x. bit_at x k) (t.0.outside i out), ap (λ (x : List ℕ). bit_at (byte x i) k) t.1 ∙ erase_out a.weak at size i k out)
erase-beside a b at size (changed_whole e) i k out = (
  ap (λ (x : Bits). bit_at (byte x.shown i) k) e ∙ erase_out a.shown at size i k out,
  ap (λ (x : Bits). bit_at (byte x.weak i) k) e ∙ fill_out 0 a.weak at size i k out,
)

erase-length : (a b : Bits) (at size : ℕ) → Leaves a (TornEraseBits a at size) (erase_bits a at size) b → length b.shown ≡ length a.shown
erase-length a b at size (as_before e) = ap (λ (x : Bits). length x.shown) e
erase-length a b at size (torn_in_it t) = t.0.same_length
erase-length a b at size (changed_whole e) = ap (λ (x : Bits). length x.shown) e ∙ length-erased a.shown at size

-- and a power-on reads there what was read
erase-drawn-bit : (a b : Bits) (at size : ℕ) (v : List ℕ) → Leaves a (TornEraseBits a at size) (erase_bits a at size) b → Drawn b.weak b.shown v → (i k : ℕ) → is_within at size i ≡ false
    → bit_at (byte v i) k ≡ bit_at (byte (read_as v a.weak a.shown) i) k
erase-drawn-bit a b at size v l w i k out =
    let s = erase-beside a b at size l i k out in
    elim (cases_eq (bit_at (byte a.weak i) k) 0) [
      | inl z ↦ w.firm i k (s.1 ∙ z) ∙ (s.0 ∙ sym (mixed_firm v a.weak a.shown i k z))
      | inr some ↦ elim (cases_lt i (length a.shown)) [
        | inl low ↦ sym (mixed_weak v a.weak a.shown i k low some)
        | inr past ↦
            let n = length-read v a.weak a.shown in
            let c = w.same_length in
            let e = erase-length a b at size l in
            past_bit v i k (omega (arith, past, c, e)) ∙ sym (past_bit (read_as v a.weak a.shown) i k (omega (arith, past, n)))
      ]
    ]

pub erase-drawn : (a b : Bits) (at size : ℕ) (v : List ℕ) → Leaves a (TornEraseBits a at size) (erase_bits a at size) b → Drawn b.weak b.shown v → Spoiled at size (read_as v a.weak a.shown) v
erase-drawn a b at size v l w = record {
  same_length = (let n = length-read v a.weak a.shown in let c = w.same_length in let e = erase-length a b at size l in omega (arith, n, c, e));
  below = λ i low. same_from_bits (byte v i) (byte (read_as v a.weak a.shown) i) (λ k. erase-drawn-bit a b at size v l w i k (not-within-below at size i low));
  above = λ i high. same_from_bits (byte v i) (byte (read_as v a.weak a.shown) i) (λ k. erase-drawn-bit a b at size v l w i k (not-within-above at size i high));
}

pub erase-weak-beside : (a b : Bits) (at size : ℕ) → Leaves a (TornEraseBits a at size) (erase_bits a at size) b → (i : ℕ) → (i < at) ⊎ (at + size ≤ i) → byte b.weak i ≡ byte a.weak i
erase-weak-beside a b at size l i out = same_from_bits (byte b.weak i) (byte a.weak i) (λ k. (erase-beside a b at size l i k (elim out [ inl low ↦ not-within-below at size i low | inr high ↦ not-within-above at size i high ])).1)
