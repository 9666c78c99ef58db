-- Which bits waver after an operation, and what a draw leaves of a memory.
use Rattle.std.proofs.Common.{◌≡◌, ℕ, zero, suc, ◌+◌, ◌-◌, ◌*◌, ◌/◌, ◌%◌, ◌<◌, ◌≤◌, ◌⊎◌, Bool, true, false, cond, ◌&&◌, ◌||◌, ◌==◌, List, Vec, Global, length, get_or, refl, sym, ap, ◌∙◌, subst, arith, inl, inr, leb, ltb}
use Rattle.std.specs.Prelude.{bit_and, bit_or, bit_xor, set, max, min}
use Rattle.std.specs.Int.{bit_at, w8}
use Rattle.std.specs.Int.Bits.{xor_self, or_zero_r}
use Rattle.std.specs.Vec.{with_items}
use Rattle.std.proofs.lemmas.List.{get_or_past, with_items_is}
use Rattle.std.proofs.lemmas.Bool.{cases_lt, cases_eq, cond-true, cond-false, and_from, and_left, and_right, ne_eqb, lt-ltb, le-ltb, lt-leb, or_cases, eqb-true}
use Rattle.std.proofs.lemmas.Nat.Bits.{bit_at_or, bit_at_and, bit_at_not, bit_at_above, bit_at-lt, bit_at-zero, same_from_bits}
use Rattle.std.proofs.lemmas.Grind.{same_number_lists}
use Rattle.chip_model.specs.Memory.{byte, changed, changed_from, is_within, fill_place, erased}
use Rattle.chip_model.specs.Chip.{Operation, Idle, Programming, Erasing, Setting, is_idle, page_place, programmed}
use Rattle.chip_model.specs.Chip.{firmed}
use Rattle.chip_model.specs.Cut.{weakened}
use Rattle.chip_model.specs.Wavering.{Drawn}
use Rattle.chip_model.proofs.MemoryLaws.{length-changed_from, get-changed, changed_from_none, changed_set, programmed_page, length-programmed, length-erased, within, not-within-below, not-within-above}
use Rattle.chip_simulator.specs.Mask.{by_mask, filled}
use Rattle.chip_simulator.specs.Fits.{operation_of}
use Rattle.chip_simulator.specs.declared.frame.Operation as s
use Rattle.chip_simulator.specs.declared.frame.Operation.TheVariants as o
use Rattle.chip_simulator.proofs.MaskLaws.{filled_unit}
use Rattle.chip_simulator.specs.Weak.{drawn_by}

-- a list of no byte stays one
pub empty_same : (xs ys : List ℕ) → length xs ≡ 0 → length ys ≡ 0 → xs ≡ ys
empty_same xs ys a b = same_number_lists xs ys (a ∙ sym b) (λ i h. absurd (omega (arith, a, h)))

pub firmed_none : (op : Operation) (w : List ℕ) → length w ≡ 0 → w ≡ firmed op w
firmed_none Idle w e = refl
firmed_none (Programming at bytes) w e = empty_same w (programmed w at bytes) e (length-programmed w at bytes ∙ e)
firmed_none (Erasing at size) w e = empty_same w (changed (fill_place 0 at size) w) e (length-changed_from (fill_place 0 at size) 0 w ∙ e)
firmed_none (Setting value) w e = refl

pub weakened_none : (op : Operation) (m w : List ℕ) → length w ≡ 0 → w ≡ weakened op m w
weakened_none Idle m w e = refl
weakened_none (Programming at bytes) m w e =
    empty_same w (weakened (Programming at bytes) m w) e
    (length-changed_from (λ i x. bit_or x (bit_xor (byte m i) (byte (programmed m at bytes) i))) 0 w ∙ e)
weakened_none (Erasing at size) m w e = empty_same w (erased w at size) e (length-erased w at size ∙ e)
weakened_none (Setting value) m w e = refl

pub length-firmed : (op : Operation) (w : List ℕ) → length (firmed op w) ≡ length w
length-firmed Idle w = refl
length-firmed (Programming at bytes) w = length-programmed w at bytes
length-firmed (Erasing at size) w = length-changed_from (fill_place 0 at size) 0 w
length-firmed (Setting value) w = refl

pub length-weakened : (op : Operation) (m w : List ℕ) → length (weakened op m w) ≡ length w
length-weakened Idle m w = refl
length-weakened (Programming at bytes) m w = length-changed_from (λ i x. bit_or x (bit_xor (byte m i) (byte (programmed m at bytes) i))) 0 w
length-weakened (Erasing at size) m w = length-erased w at size
length-weakened (Setting value) m w = refl

-- a change at the n places from a on
abbrev pub part_place : (ℕ → ℕ → ℕ) → ℕ → ℕ → ℕ → ℕ → ℕ
part_place f a n i x = cond (is_within a n i) (f i x) x

pub part_none : (f : ℕ → ℕ → ℕ) (m : List ℕ) (a : ℕ) → m ≡ changed (part_place f a 0) m
part_none f m a = sym (changed_from_none (part_place f a 0) (λ i x. cond-false _ _ _ (elim (cases_lt i a) [
  | inl low ↦ not-within-below a 0 i low
  | inr high ↦ not-within-above a 0 i (omega (arith, high))
])) 0 m)

part_other : (f : ℕ → ℕ → ℕ) (a n i x : ℕ) → (i ≡ a + n → ⊥) → part_place f a (n + 1) i x ≡ part_place f a n i x
part_other f a n i x ne = elim (cases_lt i (a + n)) [
  | inl low ↦ (let h : i < a + (n + 1) = omega arith in ap (λ t. cond (leb a i && t) (f i x) x) (lt-ltb _ _ h ∙ sym (lt-ltb _ _ low)))
  | inr high ↦ (let h : a + (n + 1) ≤ i = omega (arith, ne) in ap (λ t. cond (leb a i && t) (f i x) x) (le-ltb _ _ h ∙ sym (le-ltb _ _ high)))
]

-- what is read at the next place is still as it was
pub part_next : (f : ℕ → ℕ → ℕ) (m : List ℕ) (a n : ℕ) → a + n < length m → byte (changed (part_place f a n) m) (a + n) ≡ byte m (a + n)
part_next f m a n low = get-changed (part_place f a n) m (a + n) 0 low ∙ cond-false _ _ _ (not-within-above a n (a + n) (omega arith))

pub part_more : (f : ℕ → ℕ → ℕ) (m : List ℕ) (a n y : ℕ) → y ≡ f (a + n) (byte m (a + n)) → set (changed (part_place f a n) m) (a + n) y ≡ changed (part_place f a (n + 1)) m
part_more f m a n y e = changed_set (part_place f a n) (part_place f a (n + 1)) m (a + n) y
    (λ i x ne. part_other f a n i x ne)
    (λ h. cond-true _ _ _ (within a (n + 1) (a + n) (omega arith) (omega arith)) ∙ sym e)

-- a change of all places
pub part_all : (f : ℕ → ℕ → ℕ) (m : List ℕ) (n : ℕ) → length m ≤ n → changed (part_place f 0 n) m ≡ changed f m
part_all f m n all =
    let l = length-changed_from (part_place f 0 n) 0 m in
    same_number_lists (changed (part_place f 0 n) m) (changed f m) (l ∙ sym (length-changed_from f 0 m)) (λ i h.
    let low : i < length m = omega (arith, l, h) in
    get-changed (part_place f 0 n) m i 0 low ∙ (cond-true _ _ _ (within 0 n i (omega arith) (omega arith)) ∙ sym (get-changed f m i 0 low)))

-- the bits that a page program is to change, place by place of its page
abbrev pub weaker_place : List ℕ → ℕ → List ℕ → ℕ → ℕ → ℕ
weaker_place m at bytes i w = bit_or w (bit_xor (byte m i) (page_place bit_and at bytes i (byte m i)))

pub weaken_paged : (m w : List ℕ) (at : ℕ) (bytes : List ℕ) → length w ≡ length m → changed (part_place (weaker_place m at bytes) (at / 256 * 256) 256) w ≡ weakened (Programming at bytes) m w
weaken_paged m w at bytes same =
    let f = weaker_place m at bytes in
    let page = at / 256 * 256 in
    let g : ℕ → ℕ → ℕ = λ i x. bit_or x (bit_xor (byte m i) (byte (programmed m at bytes) i)) in
    let l = length-changed_from (part_place f page 256) 0 w in
    same_number_lists (changed (part_place f page 256) w) (changed g w) (l ∙ sym (length-changed_from g 0 w)) (λ i h.
    let low : i < length w = omega (arith, l, h) in
    let lowm : i < length m = omega (arith, same, low) in
    let there : byte (programmed m at bytes) i ≡ page_place bit_and at bytes i (byte m i) =
    ap (λ (xs : List ℕ). byte xs i) (programmed_page m at bytes) ∙ get-changed (page_place bit_and at bytes) m i 0 lowm in
    get-changed (part_place f page 256) w i 0 low
    ∙ (elim (cases_eq (i / 256) (at / 256)) [
      | inl e ↦ cond-true _ _ _ (within page 256 i (omega arith) (omega arith)) ∙ ap (λ y. bit_or (byte w i) (bit_xor (byte m i) y)) (sym there)
      | inr ne ↦
          let out : is_within page 256 i ≡ false = elim (cases_lt i page) [
            | inl below ↦ not-within-below page 256 i below
            | inr above ↦ not-within-above page 256 i (omega (arith, ne, above))
          ] in
          let same_byte : byte (programmed m at bytes) i ≡ byte m i = there ∙ cond-false _ _ _ (and_left _ _ (ne_eqb _ _ ne)) in
          cond-false _ _ _ out
          ∙ sym (ap (λ y. bit_or (byte w i) (bit_xor (byte m i) y)) same_byte
          ∙ (ap (λ y. bit_or (byte w i) y) (xor_self (byte m i)) ∙ or_zero_r (byte w i)))
    ] ∙ sym (get-changed g w i 0 low)))

-- a draw, place by place
abbrev pub drawn_place : List ℕ → List ℕ → ℕ → ℕ → ℕ
drawn_place draw weak i x = by_mask (byte weak i) x (byte draw (i % length draw))

keeps_bit : (x y m n r : ℕ) → x < 2 → m ≡ 0 → (n ≡ 1) ⊎ (x ≡ 0) → r ≡ max (min x n) (min y m) → r ≡ x
keeps_bit x y m n r two z h e = elim h [ inl up ↦ omega arith | inr down ↦ omega arith ]

-- a bit that isn't weak
pub drawn_bit : (w x d k : ℕ) → w < 256 → x < 256 → bit_at w k ≡ 0 → bit_at (by_mask w x d) k ≡ bit_at x k
drawn_bit w x d k small byte firm =
    let e1 = bit_at_or (bit_and x (255 - w)) (bit_and d w) k in
    let e2 = bit_at_and x (255 - w) k in
    let e3 = bit_at_and d w k in
    let whole = e1 ∙ (ap (λ z. max z (bit_at (bit_and d w) k)) e2 ∙ ap (λ z. max (min (bit_at x k) (bit_at (255 - w) k)) z) e3) in
    keeps_bit (bit_at x k) (bit_at d k) (bit_at w k) (bit_at (255 - w) k) _ (bit_at-lt x k) firm
    (elim (cases_lt k 8) as (λ _. (bit_at (255 - w) k ≡ 1) ⊎ (bit_at x k ≡ 0)) [
      | inl low ↦ inl (bit_at_not w8 w k small low ∙ ap (λ b. 1 - b) firm)
      | inr high ↦ inr (bit_at_above x 8 k byte high)
    ]) whole

-- a byte none of whose bits is weak
steady_byte : (x d : ℕ) → x < 256 → by_mask 0 x d ≡ x
steady_byte x d small = same_from_bits (by_mask 0 x d) x (λ k. drawn_bit 0 x d k (omega arith) small (bit_at-zero k))

pub drawn_whole : (draw weak m : List ℕ) (n : ℕ) → ((i : ℕ) → byte m i < 256) → (length weak ≡ 0) ⊎ (length weak ≡ length m) → n ≡ length weak
    → changed (part_place (drawn_place draw weak) 0 n) m ≡ drawn_by draw weak m
unfolding drawn_by
drawn_whole draw weak m n small sizes e = elim sizes [
  | inr same ↦ part_all (drawn_place draw weak) m n (omega (arith, e, same))
  | inl none ↦
      let f = part_place (drawn_place draw weak) 0 n in
      let l = length-changed_from f 0 m in
      same_number_lists (changed f m) (changed (drawn_place draw weak) m) (l ∙ sym (length-changed_from (drawn_place draw weak) 0 m)) (λ i h.
      let low : i < length m = omega (arith, l, h) in
      let zero_bits : byte weak i ≡ 0 = get_or_past weak i 0 (omega (arith, none)) in
      get-changed f m i 0 low
      ∙ (cond-false _ _ _ (not-within-above 0 n i (omega (arith, e, none)))
      ∙ (sym (ap (λ b. by_mask b (byte m i) (byte draw (i % length draw))) zero_bits ∙ steady_byte (byte m i) (byte draw (i % length draw)) (small i))
      ∙ sym (get-changed (drawn_place draw weak) m i 0 low))))
]

pub drawn_draw : (draw weak m : List ℕ) → ((i : ℕ) → byte m i < 256) → ((i : ℕ) → byte weak i < 256) → Drawn weak m (drawn_by draw weak m)
unfolding drawn_by
drawn_draw draw weak m small masks =
    let l = length-changed_from (drawn_place draw weak) 0 m in
    record {
      same_length = l;
      firm = λ i k firm. elim (cases_lt i (length m)) [
        | inl low ↦
            ap (λ x. bit_at x k) (get-changed (drawn_place draw weak) m i 0 low)
            ∙ drawn_bit (byte weak i) (byte m i) (byte draw (i % length draw)) k (masks i) (small i) firm
        | inr high ↦ ap (λ x. bit_at x k) (get_or_past (changed (drawn_place draw weak) m) i 0 (omega (arith, l, high)) ∙ sym (get_or_past m i 0 high))
      ];
    }

-- the weak bits of no byte, or of as many bytes as the memory has
pub is_tracked : (w m : List ℕ) → ((length w == 0) || (length w == length m)) ≡ true → (length w ≡ 0) ⊎ (length w ≡ length m)
is_tracked w m h = elim (or_cases _ _ h) [
  | inl none ↦ inl (eqb-true _ _ none)
  | inr same ↦ inr (eqb-true _ _ same)
]

pub firmed_erase : (op : s.Operation) (latched w new : List ℕ) (at size : ℕ) → op ≡ o.Erasing at size → new ≡ filled 0 w at size → new ≡ firmed (operation_of latched op) w
firmed_erase op latched w new at size is exact =
    exact ∙ (filled_unit 0 w at size ∙ sym (ap (λ (p : s.Operation). firmed (operation_of latched p) w) is))

-- the same of lists as long
pub still_tracked : (w m w' m' : List ℕ) → ((length w == 0) || (length w == length m)) ≡ true → length w' ≡ length w → length m' ≡ length m
    → ((length w' == 0) || (length w' == length m')) ≡ true
still_tracked w m w' m' h a b = ap (λ n. (n == 0) || (n == length m')) a ∙ (ap (λ n. (length w == 0) || (length w == n)) b ∙ h)

-- a vector that is written to as a slice
pub kept_items : (v : Vec ℕ Global) (old new : List ℕ) → old ≡ v.items → length new ≡ length old → (with_items v new).items ≡ new
kept_items v old new e l = with_items_is v new (l ∙ (ap length e ∙ sym v.ok.0))
