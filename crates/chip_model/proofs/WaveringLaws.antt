-- What follows of bits that waver.
use Rattle.std.proofs.Common.{◌≡◌, ℕ, ◌+◌, ◌/◌, ◌%◌, ◌<◌, ◌≤◌, ◌⊎◌, Bool, true, false, cond, ◌&&◌, List, length, refl, sym, ap, ◌∙◌, subst, arith, inl, inr, eqb, ltb}
use Rattle.std.specs.Prelude.{bit_and, bit_or, bit_xor, max, min}
use Rattle.std.specs.Int.{bit_at}
use Rattle.std.proofs.lemmas.Nat.{and_le_r}
use Rattle.std.proofs.lemmas.List.{get_or_past, ext_get_or}
use Rattle.std.proofs.lemmas.Bool.{cases_lt, cases_eq, cond-true, cond-false}
use Rattle.std.proofs.lemmas.Nat.Bits.{bit_at_or, bit_at_and, bit_at_xor, bit_at_above, bit_at-lt, bit_at-zero, bit_at_ones, same_from_bits}
use Rattle.chip_model.specs.Memory.{byte, changed, is_within, fill_place, erased, Torn, TornErase}
use Rattle.chip_model.specs.Chip.{Operation, Idle, Programming, Erasing, Setting, page_place, programmed, offset_in_page}
use Rattle.chip_model.specs.Cut.{TornMemory, weakened}
use Rattle.chip_model.specs.Wavering.{Bits, IsBits, IsSteady, AtMost, Drawn, TornProgram, TornUnit, TornBits, completed_bits, worst, SteadyIsTheModel, WorstStandsForAll}
use Rattle.chip_model.proofs.MemoryLaws.{length-changed_from, get-changed, length-programmed, programmed_page, length-erased, get-erased}

-- a byte past the end has no bit
pub past_bit : (m : List ℕ) (i k : ℕ) → length m ≤ i → bit_at (byte m i) k ≡ 0
past_bit m i k high = ap (λ x. bit_at x k) (get_or_past m i 0 high) ∙ bit_at-zero k

-- a number with no bit from the eighth on is a byte
pub byte_from_bits : (v : ℕ) → ((k : ℕ) → 8 ≤ k → bit_at v k ≡ 0) → v < 256
byte_from_bits v h =
    let e : v ≡ bit_and v 255 = same_from_bits v (bit_and v 255) (λ k. elim (cases_lt k 8) [
      | inl low ↦ (let a = bit_at_and v 255 k in let b = bit_at_ones 8 k low in let c = bit_at-lt v k in omega (arith, a, b, c))
      | inr high ↦ (let a = bit_at_and v 255 k in let b = h k high in omega (arith, a, b))
    ]) in
    omega (arith, e, and_le_r v 255)

-- what a program makes of a bit: the least of the old one and of the data's, which is 1 where no
-- data falls
and_bit : (t : Bool) (x d k : ℕ) → bit_at (cond t (bit_and x d) x) k ≡ min (bit_at x k) (cond t (bit_at d k) 1)
and_bit true x d k = bit_at_and x d k
and_bit false x d k = let two = bit_at-lt x k in omega (arith, two)

two_cond : (t : Bool) (x k : ℕ) → cond t (bit_at x k) 1 < 2
two_cond true x k = bit_at-lt x k
two_cond false x k = omega arith

abbrev pub data_bit : ℕ → List ℕ → ℕ → ℕ → ℕ
data_bit at bytes i k = cond ((eqb (i / 256) (at / 256)) && ltb (offset_in_page at i) (length bytes)) (bit_at (byte bytes (offset_in_page at i)) k) 1

pub data_two : (at : ℕ) (bytes : List ℕ) (i k : ℕ) → data_bit at bytes i k < 2
data_two at bytes i k = two_cond ((eqb (i / 256) (at / 256)) && ltb (offset_in_page at i) (length bytes)) (byte bytes (offset_in_page at i)) k

pub program_bit : (m : List ℕ) (at : ℕ) (bytes : List ℕ) (i k : ℕ) → bit_at (byte (programmed m at bytes) i) k ≡ min (bit_at (byte m i) k) (data_bit at bytes i k)
program_bit m at bytes i k = elim (cases_lt i (length m)) [
  | inl low ↦
      ap (λ (xs : List ℕ). bit_at (byte xs i) k) (programmed_page m at bytes)
      ∙ (ap (λ x. bit_at x k) (get-changed (page_place bit_and at bytes) m i 0 low)
      ∙ and_bit ((eqb (i / 256) (at / 256)) && ltb (offset_in_page at i) (length bytes)) (byte m i) (byte bytes (offset_in_page at i)) k)
  | inr high ↦
      let a = past_bit m i k high in
      let b = past_bit (programmed m at bytes) i k (omega (arith, length-programmed m at bytes, high)) in
      omega (arith, a, b)
]

-- the bits of a unit that was filled
fill_in : (v : ℕ) (m : List ℕ) (a n i k : ℕ) → is_within a n i ≡ true → i < length m → bit_at (byte (changed (fill_place v a n) m) i) k ≡ bit_at v k
fill_in v m a n i k here low = ap (λ x. bit_at x k) (get-changed (fill_place v a n) m i 0 low ∙ cond-true _ _ _ here)

pub fill_out : (v : ℕ) (m : List ℕ) (a n i k : ℕ) → is_within a n i ≡ false → bit_at (byte (changed (fill_place v a n) m) i) k ≡ bit_at (byte m i) k
fill_out v m a n i k out = elim (cases_lt i (length m)) [
  | inl low ↦ ap (λ x. bit_at x k) (get-changed (fill_place v a n) m i 0 low ∙ cond-false _ _ _ out)
  | inr high ↦ past_bit (changed (fill_place v a n) m) i k (omega (arith, length-changed_from (fill_place v a n) 0 m, high)) ∙ sym (past_bit m i k high)
]

erase_in : (m : List ℕ) (a n i k : ℕ) → is_within a n i ≡ true → i < length m → bit_at (byte (erased m a n) i) k ≡ bit_at 255 k
erase_in m a n i k here low = ap (λ x. bit_at x k) (get-erased m a n i 0 low ∙ cond-true _ _ _ here)

pub erase_out : (m : List ℕ) (a n i k : ℕ) → is_within a n i ≡ false → bit_at (byte (erased m a n) i) k ≡ bit_at (byte m i) k
erase_out m a n i k out = elim (cases_lt i (length m)) [
  | inl low ↦ ap (λ x. bit_at x k) (get-erased m a n i 0 low ∙ cond-false _ _ _ out)
  | inr high ↦ past_bit (erased m a n) i k (omega (arith, length-erased m a n, high)) ∙ sym (past_bit m i k high)
]

erase_past : (m : List ℕ) (a n i k : ℕ) → length m ≤ i → bit_at (byte (erased m a n) i) k ≡ 0
erase_past m a n i k high = past_bit (erased m a n) i k (omega (arith, length-erased m a n, high))

-- a test comes out one way or the other
pub either : (t : Bool) → (t ≡ true) ⊎ (t ≡ false)
either true = inl refl
either false = inr refl

-- the bits that an erase makes firm
pub firm_erase : (w : List ℕ) (a n i k : ℕ) → is_within a n i ≡ true → bit_at (byte (changed (fill_place 0 a n) w) i) k ≡ 0
firm_erase w a n i k here = elim (cases_lt i (length w)) [
  | inl low ↦ fill_in 0 w a n i k here low ∙ bit_at-zero k
  | inr high ↦ past_bit (changed (fill_place 0 a n) w) i k (omega (arith, length-changed_from (fill_place 0 a n) 0 w, high))
]

-- the bits that a loss leaves weak
abbrev weaker : List ℕ → ℕ → List ℕ → ℕ → ℕ → ℕ
weaker v at bytes i w = bit_or w (bit_xor (byte v i) (byte (programmed v at bytes) i))

weak_bit : (v w : List ℕ) (at : ℕ) (bytes : List ℕ) (i k : ℕ) → i < length w
    → bit_at (byte (weakened (Programming at bytes) v w) i) k ≡ max (bit_at (byte w i) k) ((bit_at (byte v i) k + min (bit_at (byte v i) k) (data_bit at bytes i k)) % 2)
weak_bit v w at bytes i k low =
    ap (λ x. bit_at x k) (get-changed (weaker v at bytes) w i 0 low)
    ∙ (bit_at_or (byte w i) (bit_xor (byte v i) (byte (programmed v at bytes) i)) k
    ∙ (ap (λ x. max (bit_at (byte w i) k) x) (bit_at_xor (byte v i) (byte (programmed v at bytes) i) k)
    ∙ ap (λ x. max (bit_at (byte w i) k) ((bit_at (byte v i) k + x) % 2)) (program_bit v at bytes i k)))

weak_past : (v w : List ℕ) (at : ℕ) (bytes : List ℕ) (i k : ℕ) → length w ≤ i → bit_at (byte (weakened (Programming at bytes) v w) i) k ≡ 0
weak_past v w at bytes i k high = past_bit (weakened (Programming at bytes) v w) i k (omega (arith, length-changed_from (weaker v at bytes) 0 w, high))

-- what isn't weak after the loss of a program wasn't before, and the program doesn't change it
firm_still : (b : Bits) (at : ℕ) (bytes : List ℕ) (i k : ℕ) → IsBits b → bit_at (byte (weakened (Programming at bytes) b.shown b.weak) i) k ≡ 0
    → (bit_at (byte b.weak i) k ≡ 0) × (min (bit_at (byte b.shown i) k) (data_bit at bytes i k) ≡ bit_at (byte b.shown i) k)
firm_still b at bytes i k is firm = elim (cases_lt i (length b.weak)) [
  | inl low ↦
      let e = weak_bit b.shown b.weak at bytes i k low in
      let x = bit_at-lt (byte b.shown i) k in
      let d = data_two at bytes i k in
      (omega (arith, e, firm), omega (arith, e, firm, x, d))
  | inr high ↦
      let w = past_bit b.weak i k high in
      let v = past_bit b.shown i k (omega (arith, high, is.same_length)) in
      (w, omega (arith, v))
]

-- A chip with no weak bit.

steady_program : (b : Bits) (at : ℕ) (bytes : List ℕ) → IsSteady b → (i k : ℕ) → bit_at (byte (programmed b.weak at bytes) i) k ≡ 0
steady_program b at bytes h i k = let e = program_bit b.weak at bytes i k in let z = h i k in omega (arith, e, z)

steady_erase : (b : Bits) (at size : ℕ) → IsSteady b → (i k : ℕ) → bit_at (byte (changed (fill_place 0 at size) b.weak) i) k ≡ 0
steady_erase b at size h i k = elim (either (is_within at size i)) [
  | inl here ↦ firm_erase b.weak at size i k here
  | inr out ↦ fill_out 0 b.weak at size i k out ∙ h i k
]

steady_completes : (op : Operation) (b : Bits) → IsSteady b → IsSteady (completed_bits op b)
steady_completes Idle b h = h
steady_completes (Programming at bytes) b h = steady_program b at bytes h
steady_completes (Erasing at size) b h = steady_erase b at size h
steady_completes (Setting value) b h = h

steady_power : (b : Bits) (v : List ℕ) → IsSteady b → Drawn b.weak b.shown v → v ≡ b.shown
steady_power b v h d = ext_get_or 0 v b.shown d.same_length (λ i low. same_from_bits (byte v i) (byte b.shown i) (λ k. d.firm i k (h i k)))

-- one of two bits that differ
one_of_two : (x y z : ℕ) → x < 2 → y < 2 → z < 2 → (x ≡ y → ⊥) → (z ≡ x) ⊎ (z ≡ y)
one_of_two x y z a b c ne = elim (cases_eq z x) [ inl e ↦ inl e | inr other ↦ inr (omega (arith, ne, other)) ]

torn_program : (b new : Bits) (v : List ℕ) (at : ℕ) (bytes : List ℕ) → IsSteady b → TornProgram b (completed_bits (Programming at bytes) b) new → Drawn new.weak new.shown v
    → Torn b.shown (programmed b.shown at bytes) v
torn_program b new v at bytes h t d = record {
  same_length = d.same_length ∙ t.same_length;
  each = λ i low k. elim (t.each i k) [
    | inl as_before ↦ inl (d.firm i k (as_before.1 ∙ h i k) ∙ as_before.0)
    | inr other ↦ elim other [
      | inl as_after ↦ inr (d.firm i k (as_after.1 ∙ steady_program b at bytes h i k) ∙ as_after.0)
      | inr wavers ↦ one_of_two _ _ _ (bit_at-lt (byte b.shown i) k) (bit_at-lt (byte (programmed b.shown at bytes) i) k) (bit_at-lt (byte v i) k)
          (λ e. wavers.1 (sym e, steady_program b at bytes h i k ∙ sym (h i k)))
    ]
  ];
}

torn_unit : (b new : Bits) (v : List ℕ) (at size : ℕ) → IsSteady b → TornUnit at size b new → Drawn new.weak new.shown v → TornErase b.shown at size v
torn_unit b new v at size h t d = record {
  same_length = d.same_length ∙ t.same_length;
  outside = λ i out. same_from_bits (byte v i) (byte b.shown i) (λ k.
      let alike = t.outside i k out in
      d.firm i k (alike.1 ∙ h i k) ∙ alike.0);
  inside = λ i here. byte_from_bits (byte v i) (λ k high.
      d.firm i k (bit_at_above (byte new.weak i) 8 k (t.bits.weak i) high) ∙ bit_at_above (byte new.shown i) 8 k (t.bits.shown i) high);
}

steady_torn : (op : Operation) (b new : Bits) (v : List ℕ) → IsBits b → IsSteady b → TornBits op b new → Drawn new.weak new.shown v → TornMemory op b.shown v
steady_torn Idle b new v is h t d = steady_power b v h (subst (λ (n : Bits). Drawn n.weak n.shown v) t d)
steady_torn (Programming at bytes) b new v is h t d = torn_program b new v at bytes h t d
steady_torn (Erasing at size) b new v is h t d = torn_unit b new v at size h t d
steady_torn (Setting value) b new v is h t d = steady_power b v h (subst (λ (n : Bits). Drawn n.weak n.shown v) t d)

torn_all_program : (b : Bits) (v : List ℕ) (at : ℕ) (bytes : List ℕ) → IsBits b → Torn b.shown (programmed b.shown at bytes) v → Drawn (weakened (Programming at bytes) b.shown b.weak) b.shown v
torn_all_program b v at bytes is t = record {
  same_length = t.same_length;
  firm = λ i k firm. elim (cases_lt i (length b.shown)) [
    | inl low ↦ elim (t.each i low k) [
      | inl old ↦ old
      | inr new ↦ new ∙ (program_bit b.shown at bytes i k ∙ (firm_still b at bytes i k is firm).1)
    ]
    | inr high ↦ past_bit v i k (omega (arith, t.same_length, high)) ∙ sym (past_bit b.shown i k high)
  ];
}

torn_all_unit : (b : Bits) (v : List ℕ) (at size : ℕ) → IsBits b → TornErase b.shown at size v → Drawn (erased b.weak at size) b.shown v
torn_all_unit b v at size is t = record {
  same_length = t.same_length;
  firm = λ i k firm. elim (either (is_within at size i)) [
    | inr out ↦ ap (λ x. bit_at x k) (t.outside i out)
    | inl here ↦ elim (cases_lt i (length b.shown)) [
      | inr high ↦ past_bit v i k (omega (arith, t.same_length, high)) ∙ sym (past_bit b.shown i k high)
      | inl low ↦ elim (cases_lt k 8) [
        | inl small ↦
            let e = erase_in b.weak at size i k here (omega (arith, low, is.same_length)) in
            let one = bit_at_ones 8 k small in
            absurd (omega (arith, e, one, firm))
        | inr large ↦ bit_at_above (byte v i) 8 k (t.inside i here) large ∙ sym (bit_at_above (byte b.shown i) 8 k (is.shown i) large)
      ]
    ]
  ];
}

drawn_same : (w v : List ℕ) (m : List ℕ) → v ≡ m → Drawn w m v
drawn_same w v m e = subst (λ (n : List ℕ). Drawn w m n) (sym e) (record { same_length = refl; firm = λ i k firm. refl })

torn_all : (op : Operation) (b : Bits) (v : List ℕ) → IsBits b → TornMemory op b.shown v → Drawn (worst op b).weak b.shown v
torn_all Idle b v is t = drawn_same b.weak v b.shown t
torn_all (Programming at bytes) b v is t = torn_all_program b v at bytes is t
torn_all (Erasing at size) b v is t = torn_all_unit b v at size is t
torn_all (Setting value) b v is t = drawn_same b.weak v b.shown t

pub steady_is_the_model : SteadyIsTheModel
steady_is_the_model = record { completes = steady_completes; powers_on = steady_power; torn = steady_torn; all_torn = torn_all }

-- The worst outcome.

worst_program : (b : Bits) (at : ℕ) (bytes : List ℕ) → IsBits b → TornProgram b (completed_bits (Programming at bytes) b) (worst (Programming at bytes) b)
worst_program b at bytes is = record {
  bits = record {
    same_length = length-changed_from (weaker b.shown at bytes) 0 b.weak ∙ is.same_length;
    shown = is.shown;
    weak = λ i. byte_from_bits (byte (weakened (Programming at bytes) b.shown b.weak) i) (λ k high. elim (cases_lt i (length b.weak)) [
      | inr past ↦ weak_past b.shown b.weak at bytes i k past
      | inl low ↦
          let e = weak_bit b.shown b.weak at bytes i k low in
          let w = bit_at_above (byte b.weak i) 8 k (is.weak i) high in
          let v = bit_at_above (byte b.shown i) 8 k (is.shown i) high in
          omega (arith, e, w, v)
    ]);
  };
  same_length = refl;
  each = λ i k. elim (cases_lt i (length b.weak)) [
    | inr past ↦ inl (refl, weak_past b.shown b.weak at bytes i k past ∙ sym (past_bit b.weak i k past))
    | inl low ↦
        let e = weak_bit b.shown b.weak at bytes i k low in
        let x = bit_at-lt (byte b.shown i) k in
        let w = bit_at-lt (byte b.weak i) k in
        let d = data_two at bytes i k in
        elim (cases_eq (min (bit_at (byte b.shown i) k) (data_bit at bytes i k)) (bit_at (byte b.shown i) k)) [
          | inl same ↦ inl (refl, omega (arith, e, same, x, w))
          | inr differs ↦ inr (inr (omega (arith, e, differs, x, w, d), λ alike. differs (sym (program_bit b.shown at bytes i k) ∙ alike.0)))
        ]
  ];
}

worst_unit : (b : Bits) (at size : ℕ) → IsBits b → TornUnit at size b (worst (Erasing at size) b)
worst_unit b at size is = record {
  bits = record {
    same_length = length-erased b.weak at size ∙ is.same_length;
    shown = is.shown;
    weak = λ i. byte_from_bits (byte (erased b.weak at size) i) (λ k high. elim (either (is_within at size i)) [
      | inr out ↦ erase_out b.weak at size i k out ∙ bit_at_above (byte b.weak i) 8 k (is.weak i) high
      | inl here ↦ elim (cases_lt i (length b.weak)) [
        | inl low ↦ erase_in b.weak at size i k here low ∙ bit_at_above 255 8 k (omega arith) high
        | inr past ↦ erase_past b.weak at size i k past
      ]
    ]);
  };
  same_length = refl;
  outside = λ i k out. (refl, erase_out b.weak at size i k out);
}

worst_torn : (op : Operation) (b : Bits) → IsBits b → TornBits op b (worst op b)
worst_torn Idle b is = refl
worst_torn (Programming at bytes) b is = worst_program b at bytes is
worst_torn (Erasing at size) b is = worst_unit b at size is
worst_torn (Setting value) b is = refl

order_start : (b : Bits) → AtMost b b
order_start b = record { same_length = refl; firm = λ i k firm. (refl, refl) }

order_program : (b c : Bits) (at : ℕ) (bytes : List ℕ) → AtMost b c → AtMost (completed_bits (Programming at bytes) b) (completed_bits (Programming at bytes) c)
order_program b c at bytes h = record {
  same_length = length-programmed b.shown at bytes ∙ (h.same_length ∙ sym (length-programmed c.shown at bytes));
  firm = λ i k firm.
      let wc = program_bit c.weak at bytes i k in
      let wb = program_bit b.weak at bytes i k in
      let vc = program_bit c.shown at bytes i k in
      let vb = program_bit b.shown at bytes i k in
      let d = data_two at bytes i k in
      let two = bit_at-lt (byte c.weak i) k in
      elim (cases_eq (bit_at (byte c.weak i) k) 0) [
        | inl is_firm ↦
            let alike = h.firm i k is_firm in
            (vb ∙ (ap (λ x. min x (data_bit at bytes i k)) alike.0 ∙ sym vc), wb ∙ (ap (λ x. min x (data_bit at bytes i k)) alike.1 ∙ sym wc))
        | inr is_weak ↦
            let zero_data : data_bit at bytes i k ≡ 0 = omega (arith, wc, firm, d, is_weak, two) in
            (omega (arith, vb, vc, zero_data), omega (arith, wb, wc, zero_data))
      ];
}

order_erase : (b c : Bits) (at size : ℕ) → AtMost b c → AtMost (completed_bits (Erasing at size) b) (completed_bits (Erasing at size) c)
order_erase b c at size h = record {
  same_length = length-erased b.shown at size ∙ (h.same_length ∙ sym (length-erased c.shown at size));
  firm = λ i k firm. elim (either (is_within at size i)) [
    | inr out ↦
        let alike = h.firm i k (sym (fill_out 0 c.weak at size i k out) ∙ firm) in (
          erase_out b.shown at size i k out ∙ (alike.0 ∙ sym (erase_out c.shown at size i k out)),
          fill_out 0 b.weak at size i k out ∙ (alike.1 ∙ sym (fill_out 0 c.weak at size i k out)),
        )
    | inl here ↦
        let same = h.same_length in
        let weak = firm_erase b.weak at size i k here ∙ sym (firm_erase c.weak at size i k here) in
        elim (cases_lt i (length c.shown)) [
          | inl low ↦ (erase_in b.shown at size i k here (omega (arith, same, low)) ∙ sym (erase_in c.shown at size i k here low), weak)
          | inr past ↦ (erase_past b.shown at size i k (omega (arith, same, past)) ∙ sym (erase_past c.shown at size i k past), weak)
        ]
  ];
}

order_completes : (op : Operation) (b c : Bits) → AtMost b c → AtMost (completed_bits op b) (completed_bits op c)
order_completes Idle b c h = h
order_completes (Programming at bytes) b c h = order_program b c at bytes h
order_completes (Erasing at size) b c h = order_erase b c at size h
order_completes (Setting value) b c h = h

order_lost_program : (b c new : Bits) (at : ℕ) (bytes : List ℕ) → IsBits c → AtMost b c → TornProgram b (completed_bits (Programming at bytes) b) new → AtMost new (worst (Programming at bytes) c)
order_lost_program b c new at bytes is h t = record {
  same_length = t.same_length ∙ h.same_length;
  firm = λ i k firm.
      let still = firm_still c at bytes i k is firm in
      let alike = h.firm i k still.0 in
      let vb = program_bit b.shown at bytes i k in
      let wb = program_bit b.weak at bytes i k in
      let v : bit_at (byte (programmed b.shown at bytes) i) k ≡ bit_at (byte b.shown i) k =
      vb ∙ (ap (λ x. min x (data_bit at bytes i k)) alike.0 ∙ (still.1 ∙ sym alike.0)) in
      let wz : bit_at (byte b.weak i) k ≡ 0 = alike.1 ∙ still.0 in
      let w : bit_at (byte (programmed b.weak at bytes) i) k ≡ bit_at (byte b.weak i) k = omega (arith, wb, wz) in
      elim (t.each i k) [
        | inl as_before ↦ (as_before.0 ∙ alike.0, as_before.1 ∙ (wz ∙ sym firm))
        | inr other ↦ elim other [
          | inl as_after ↦ (as_after.0 ∙ (v ∙ alike.0), as_after.1 ∙ (w ∙ (wz ∙ sym firm)))
          | inr wavers ↦ absurd (wavers.1 (v, w))
        ]
      ];
}

order_lost_unit : (b c new : Bits) (at size : ℕ) → IsBits c → AtMost b c → TornUnit at size b new → AtMost new (worst (Erasing at size) c)
order_lost_unit b c new at size is h t = record {
  same_length = t.same_length ∙ h.same_length;
  firm = λ i k firm. elim (either (is_within at size i)) [
    | inr out ↦
        let here = erase_out c.weak at size i k out in
        let alike = h.firm i k (sym here ∙ firm) in
        let same = t.outside i k out in
        (same.0 ∙ alike.0, same.1 ∙ (alike.1 ∙ sym here))
    | inl here ↦
        let long = t.same_length in
        let longer = h.same_length in
        let weak_long = t.bits.same_length in
        elim (cases_lt i (length c.shown)) [
          | inr past ↦ (
            past_bit new.shown i k (omega (arith, long, longer, past)) ∙ sym (past_bit c.shown i k past),
            past_bit new.weak i k (omega (arith, long, longer, weak_long, past)) ∙ sym firm,
          )
          | inl low ↦ elim (cases_lt k 8) [
            | inl small ↦
                let e = erase_in c.weak at size i k here (omega (arith, low, is.same_length)) in
                let one = bit_at_ones 8 k small in
                absurd (omega (arith, e, one, firm))
            | inr large ↦ (
              bit_at_above (byte new.shown i) 8 k (t.bits.shown i) large ∙ sym (bit_at_above (byte c.shown i) 8 k (is.shown i) large),
              bit_at_above (byte new.weak i) 8 k (t.bits.weak i) large ∙ sym firm,
            )
          ]
        ]
  ];
}

order_loses : (op : Operation) (b c new : Bits) → IsBits c → AtMost b c → TornBits op b new → AtMost new (worst op c)
order_loses Idle b c new is h t = subst (λ (n : Bits). AtMost n c) (sym t) h
order_loses (Programming at bytes) b c new is h t = order_lost_program b c new at bytes is h t
order_loses (Erasing at size) b c new is h t = order_lost_unit b c new at size is h t
order_loses (Setting value) b c new is h t = subst (λ (n : Bits). AtMost n c) (sym t) h

order_power : (b c : Bits) (v : List ℕ) → AtMost b c → Drawn b.weak b.shown v
    → Drawn c.weak c.shown v × AtMost (record { shown = v; weak = b.weak }) (record { shown = v; weak = c.weak })
order_power b c v h d = (
  record {
    same_length = d.same_length ∙ h.same_length;
    firm = λ i k firm. let alike = h.firm i k firm in d.firm i k (alike.1 ∙ firm) ∙ alike.0;
  },
  record { same_length = refl; firm = λ i k firm. (refl, (h.firm i k firm).1) },
)

pub worst_stands : WorstStandsForAll
worst_stands = record { is_torn = worst_torn; start = order_start; completes = order_completes; loses = order_loses; powers_on = order_power }
