-- What an operation that is interrupted by a mask leaves is what a loss of power may leave.
use Rattle.std.proofs.Common.{◌≡◌, ℕ, ◌+◌, ◌-◌, ◌/◌, ◌<◌, ◌≤◌, ◌⊎◌, Bool, true, false, cond, ◌&&◌, List, length, get_or, refl, sym, ap, ◌∙◌, subst, arith, inl, inr, eqb, ltb}
use Rattle.std.specs.Prelude.{bit_and, max, min}
use Rattle.std.specs.Int.{bit_at, w8}
use Rattle.std.proofs.lemmas.Nat.{and_le_r}
use Rattle.std.proofs.lemmas.Bool.{cases_lt, cases_eq}
use Rattle.std.proofs.lemmas.Nat.Bits.{bit_at_or, bit_at_and, bit_at_not, bit_at_above, bit_at-lt}
use Rattle.chip_model.specs.Memory.{changed, erased, fill_place, IsMixed, Torn, TornErase}
use Rattle.chip_model.specs.Chip.{page_place, programmed, offset_in_page}
use Rattle.chip_model.proofs.MemoryLaws.{length-changed_from, get-changed, programmed_page, erased_fill, filled_torn}
use Rattle.chip_simulator.specs.Mask.{by_mask, torn_byte, half_programmed, filled}

by_two : (x y m n r : ℕ) → x < 2 → y < 2 → m < 2 → n ≡ 1 - m → r ≡ max (min x n) (min y m) → (r ≡ x) ⊎ (r ≡ y)
by_two x y m n r hx hy hm hn hr = elim (cases_eq m 0) [ inl z ↦ inl (omega arith) | inr nz ↦ inr (omega arith) ]

above_two : (x y m n r : ℕ) → y ≡ 0 → n ≡ 0 → r ≡ max (min x n) (min y m) → (r ≡ x) ⊎ (r ≡ y)
above_two x y m n r hy hn hr = inr (omega arith)

-- two bytes by a mask are mixed
pub mixed_by : (mask x y : ℕ) → mask < 256 → y < 256 → IsMixed x y (by_mask mask x y)
mixed_by mask x y small byte k =
    let e1 = bit_at_or (bit_and x (255 - mask)) (bit_and y mask) k in
    let e2 = bit_at_and x (255 - mask) k in
    let e3 = bit_at_and y mask k in
    let whole = e1 ∙ (ap (λ z. max z (bit_at (bit_and y mask) k)) e2 ∙ ap (λ z. max (min (bit_at x k) (bit_at (255 - mask) k)) z) e3) in
    elim (cases_lt k 8) [
      | inl low ↦ by_two (bit_at x k) (bit_at y k) (bit_at mask k) (bit_at (255 - mask) k) _ (bit_at-lt x k) (bit_at-lt y k) (bit_at-lt mask k) (bit_at_not w8 mask k small low) whole
      | inr high ↦ above_two (bit_at x k) (bit_at y k) (bit_at mask k) (bit_at (255 - mask) k) _ (bit_at_above y 8 k byte high) (bit_at_above (255 - mask) 8 k (omega arith) high) whole
    ]

mixed_cond : (t : Bool) (x y z : ℕ) → IsMixed x y z → IsMixed x (cond t y x) (cond t z x)
mixed_cond true x y z h = h
mixed_cond false x y z h = λ k. inl refl

pub half_page : (mask : ℕ) (m : List ℕ) (at : ℕ) (bytes : List ℕ) → half_programmed mask m at bytes ≡ changed (page_place (torn_byte mask) at bytes) m
unfolding half_programmed
half_page mask m at bytes = refl

pub filled_unit : (v : ℕ) (m : List ℕ) (at size : ℕ) → filled v m at size ≡ changed (fill_place v at size) m
unfolding filled
filled_unit v m at size = refl

-- a program by a mask is a torn one
pub half_torn : (mask : ℕ) (m : List ℕ) (at : ℕ) (bytes : List ℕ) → mask < 256 → ((i : ℕ) → get_or bytes i 0 < 256) → Torn m (programmed m at bytes) (half_programmed mask m at bytes)
half_torn mask m at bytes small fits =
    let half = half_page mask m at bytes in
    let whole = programmed_page m at bytes in
    let place : (i : ℕ) → i < length m → IsMixed (get_or m i 0) (get_or (changed (page_place bit_and at bytes) m) i 0) (get_or (changed (page_place (torn_byte mask) at bytes) m) i 0) = λ i low.
    let test = (eqb (i / 256) (at / 256)) && ltb (offset_in_page at i) (length bytes) in
    let x = get_or m i 0 in
    let b = get_or bytes (offset_in_page at i) 0 in
    let one : IsMixed x (bit_and x b) (torn_byte mask x b) = mixed_by mask x (bit_and x b) small (omega (arith, and_le_r x b, fits (offset_in_page at i))) in
    let both : IsMixed x (cond test (bit_and x b) x) (cond test (torn_byte mask x b) x) = mixed_cond test x (bit_and x b) (torn_byte mask x b) one in
    subst (λ y. IsMixed x (get_or (changed (page_place bit_and at bytes) m) i 0) y) (sym (get-changed (page_place (torn_byte mask) at bytes) m i 0 low))
    (subst (λ y. IsMixed x y (cond test (torn_byte mask x b) x)) (sym (get-changed (page_place bit_and at bytes) m i 0 low)) both) in
    subst (λ (t : List ℕ). Torn m (programmed m at bytes) t) (sym half)
    (subst (λ (n : List ℕ). Torn m n (changed (page_place (torn_byte mask) at bytes) m)) (sym whole)
    (record { same_length = length-changed_from (page_place (torn_byte mask) at bytes) 0 m; each = place }))

-- a filled unit is a torn erase, and with FFh an erased one
pub fill_torn : (v : ℕ) (m : List ℕ) (a n : ℕ) → v < 256 → a + n ≤ length m → TornErase m a n (filled v m a n)
fill_torn v m a n small fits = subst (λ (t : List ℕ). TornErase m a n t) (sym (filled_unit v m a n)) (filled_torn v m a n small fits)

pub fill_erased : (v : ℕ) (m : List ℕ) (a n : ℕ) → v ≡ 255 → filled v m a n ≡ erased m a n
fill_erased v m a n e = filled_unit v m a n ∙ (ap (λ w. changed (fill_place w a n) m) e ∙ sym (erased_fill m a n))
