-- Erases of one unit after another, and what a loss of power leaves of them.
use Rattle.std.proofs.Common.{◌≡◌, ℕ, ◌+◌, ◌<◌, ◌≤◌, ◌⊎◌, true, false, List, length, get_or, sym, ap, ◌∙◌, subst, arith, inl, inr}
use Rattle.std.proofs.lemmas.Bool.{cases_lt, and_left, and_right, and_from, lt-ltb, le-ltb, le-leb, lt-leb, true≢false, cond-true, cond-false}
use Rattle.std.proofs.lemmas.List.{ext_get_or}
use Rattle.chip_model.specs.Memory.{byte, cleared, erased, is_within, fill_place, TornErase}
use Rattle.chip_model.proofs.MemoryLaws.{length-changed_from, get-changed, length-erased, get-erased, erased-outside}
use Rattle.chip_model.specs.Chip.{Chip, Erasing, completed, is_idle}
use Rattle.chip_model.specs.Frames.{starts}
use Rattle.nor_driver.specs.Steps.{ChangeInterrupted, ChangeFails, not_begun, torn, whole, no_power}
use Rattle.nor_driver.specs.State.{Leaves, as_before, torn_in_it, changed_whole}
use Rattle.nor_driver.proofs.Shape.{IsErase, begins_small, small_cut, after_loss, slow_memory}
use Rattle.nor_driver.specs.declared.error.NorError.{NorError}
use Rattle.nor_driver.specs.declared.error.NorError.TheVariants as errors
use Rattle.serprog_chip.specs.Beyond.{KeepsOutside}
use Rattle.serprog_chip.specs.Erasing.{EraseStops}

pub within_out : (a n i : ℕ) → is_within a n i ≡ false → (i < a) ⊎ (a + n ≤ i)
within_out a n i h = elim (cases_lt i a) [
  | inl low ↦ inl low
  | inr from ↦ elim (cases_lt i (a + n)) [
    | inl below ↦ absurd (true≢false (sym (and_from _ _ (le-leb _ _ from) (lt-ltb _ _ below)) ∙ h))
    | inr above ↦ inr above
  ]
]

pub out_within : (a n i : ℕ) → (i < a) ⊎ (a + n ≤ i) → is_within a n i ≡ false
out_within a n i h = elim h [ inl low ↦ and_left _ _ (lt-leb _ _ low) | inr above ↦ and_right _ _ (le-ltb _ _ above) ]

-- an erase that ends where another begins
fills : (v a n k i x : ℕ) → fill_place v (a + n) k i (fill_place v a n i x) ≡ fill_place v a (n + k) i x
fills v a n k i x = elim (cases_lt i a) [
  | inl low ↦
      let low2 : i < a + n = omega arith in
      cond-false _ _ _ (out_within (a + n) k i (inl low2)) ∙ (cond-false _ _ _ (out_within a n i (inl low)) ∙ sym (cond-false _ _ _ (out_within a (n + k) i (inl low))))
  | inr from ↦ elim (cases_lt i (a + n)) [
    | inl below ↦
        let b : i < a + (n + k) = omega arith in
        cond-false _ _ _ (out_within (a + n) k i (inl below)) ∙ (cond-true _ _ _ (and_from _ _ (le-leb _ _ from) (lt-ltb _ _ below)) ∙ sym (cond-true _ _ _ (and_from _ _ (le-leb _ _ from) (lt-ltb _ _ b))))
    | inr past ↦ elim (cases_lt i (a + n + k)) [
      | inl inner ↦
          let b : i < a + (n + k) = omega arith in
          cond-true _ _ _ (and_from _ _ (le-leb _ _ past) (lt-ltb _ _ inner)) ∙ sym (cond-true _ _ _ (and_from _ _ (le-leb _ _ from) (lt-ltb _ _ b)))
      | inr above ↦
          let b : a + (n + k) ≤ i = omega arith in
          cond-false _ _ _ (out_within (a + n) k i (inr above)) ∙ (cond-false _ _ _ (out_within a n i (inr past)) ∙ sym (cond-false _ _ _ (out_within a (n + k) i (inr b))))
    ]
  ]
]

pub erased_more : (m : List ℕ) (a n k : ℕ) → erased (erased m a n) (a + n) k ≡ erased m a (n + k)
erased_more m a n k =
    let l1 = length-erased m a n in
    let l2 = length-erased (erased m a n) (a + n) k in
    ext_get_or 0 _ _ (l2 ∙ (l1 ∙ sym (length-erased m a (n + k)))) (λ i h.
    let low : i < length m = omega (arith, l1, l2) in
    let low1 : i < length (erased m a n) = omega (arith, l1) in
    get-erased (erased m a n) (a + n) k i 0 low1
    ∙ (ap (λ v. fill_place 255 (a + n) k i v) (get-erased m a n i 0 low)
    ∙ (fills 255 a n k i (get_or m i 0) ∙ sym (get-erased m a (n + k) i 0 low))))

cleared_more : (m : List ℕ) (a n k : ℕ) → cleared (cleared m a n) (a + n) k ≡ cleared m a (n + k)
cleared_more m a n k =
    let l1 = length-changed_from (fill_place 0 a n) 0 m in
    let l2 = length-changed_from (fill_place 0 (a + n) k) 0 (cleared m a n) in
    ext_get_or 0 _ _ (l2 ∙ (l1 ∙ sym (length-changed_from (fill_place 0 a (n + k)) 0 m))) (λ i h.
    let low : i < length m = omega (arith, l1, l2) in
    let low1 : i < length (cleared m a n) = omega (arith, l1) in
    get-changed (fill_place 0 (a + n) k) (cleared m a n) i 0 low1
    ∙ (ap (λ v. fill_place 0 (a + n) k i v) (get-changed (fill_place 0 a n) m i 0 low)
    ∙ (fills 0 a n k i (get_or m i 0) ∙ sym (get-changed (fill_place 0 a (n + k)) m i 0 low))))

-- what an erase leaves outside of its unit, whether it was whole or torn
leaves_outside : (m left : List ℕ) (at : ℕ) → Leaves m (TornErase m at 4096) (erased m at 4096) left → KeepsOutside m at 4096 left
leaves_outside m left at h = elim h [
  | as_before e ↦ record { same_length = ap length e; outside = λ i o. ap (λ l. byte l i) e }
  | torn_in_it t ↦ record { same_length = t.same_length; outside = t.outside }
  | changed_whole e ↦ record { same_length = ap length e ∙ length-erased m at 4096; outside = λ i o. ap (λ l. byte l i) e ∙ erased-outside m at 4096 i o }
]

counted : (c left : Chip) (cuts cuts' : ℕ) (sent : List ℕ) → c.powered ≡ true → ChangeInterrupted c cuts sent left cuts' → cuts' ≡ cuts + 1
counted c left cuts cuts' sent on i = elim i [
  | not_begun p k n ↦ n
  | torn p k n ↦ n
  | whole p k n ↦ n
  | no_power off same n ↦ absurd (true≢false (sym on ∙ off))
]

pub unit_stops : (e : NorError) (c left : Chip) (cuts slows cuts' slows' : ℕ) (sent : List ℕ) (at : ℕ) → is_idle c.operation ≡ true → c.powered ≡ true → IsErase c sent at 32 4096
    → ChangeFails e c cuts slows sent left cuts' slows' → EraseStops e c cuts at 4096 left cuts'
unit_stops errors.Cut c left cuts slows cuts' slows' sent at idle on p h =
    let l = after_loss c cuts sent left cuts' idle (begins_small c sent at p) h.0 in
    (leaves_outside c.memory left.memory at (small_cut c sent left.memory at p l.leaves), l.powered, counted c left cuts cuts' sent on h.0)
unit_stops errors.Slow c left cuts slows cuts' slows' sent at idle on p h =
    let e : left.memory ≡ c.memory = ap (λ (d : Chip). d.memory) h.1 ∙ slow_memory c sent (begins_small c sent at p) in
    (record { same_length = ap length e; outside = λ i o. ap (λ l. byte l i) e }, h.2)

-- a later unit of a longer erase
later_outside : (m left : List ℕ) (a n k all : ℕ) → n + k ≤ all → KeepsOutside (erased m a n) (a + n) k left → KeepsOutside m a all left
later_outside m left a n k all fits h = record {
  same_length = h.same_length ∙ length-erased m a n;
  outside = λ i o. elim (within_out a all i o) [
    | inl low ↦
        let low2 : i < a + n = omega arith in
        h.outside i (out_within (a + n) k i (inl low2)) ∙ erased-outside m a n i (out_within a n i (inl low))
    | inr above ↦
        let b : a + n + k ≤ i = omega arith in
        let d : a + n ≤ i = omega arith in
        h.outside i (out_within (a + n) k i (inr b)) ∙ erased-outside m a n i (out_within a n i (inr d))
  ];
}

pub wider : (e : NorError) (c left : Chip) (cuts cuts' a k all : ℕ) → k ≤ all → EraseStops e c cuts a k left cuts' → EraseStops e c cuts a all left cuts'
wider errors.Cut c left cuts cuts' a k all fits h =
    (record { same_length = h.0.same_length; outside = λ i o. h.0.outside i (elim (within_out a all i o) as (λ _. is_within a k i ≡ false) [ inl low ↦ out_within a k i (inl low) | inr above ↦ (let b : a + k ≤ i = omega arith in out_within a k i (inr b)) ]) }, h.1, h.2)
wider errors.Slow c left cuts cuts' a k all fits h =
    (record { same_length = h.0.same_length; outside = λ i o. h.0.outside i (elim (within_out a all i o) as (λ _. is_within a k i ≡ false) [ inl low ↦ out_within a k i (inl low) | inr above ↦ (let b : a + k ≤ i = omega arith in out_within a k i (inr b)) ]) }, h.1)

-- the chip once n bytes from a on are erased
pub erased_to : Chip → ℕ → ℕ → Chip
erased_to c a n = completed (starts c (Erasing a n))

pub later_stops : (e : NorError) (c left : Chip) (cuts cuts' a n k all : ℕ) → n + k ≤ all → EraseStops e (completed (starts c (Erasing a n))) cuts (a + n) k left cuts' → EraseStops e c cuts a all left cuts'
later_stops errors.Cut c left cuts cuts' a n k all fits h = (later_outside c.memory left.memory a n k all fits h.0, h.1, h.2)
later_stops errors.Slow c left cuts cuts' a n k all fits h = (later_outside c.memory left.memory a n k all fits h.0, h.1)

with_memory : Chip → List ℕ → Chip
with_memory c m = record (completed c) { memory = m }

pub next_unit : (c : Chip) (a n k : ℕ) → completed (starts (completed (starts c (Erasing a n))) (Erasing (a + n) k)) ≡ completed (starts c (Erasing a (n + k)))
next_unit c a n k =
    ap (λ (m : List ℕ). record (completed (starts c (Erasing a n))) { memory = m; weak = cleared (cleared c.weak a n) (a + n) k }) (erased_more c.memory a n k)
    ∙ ap (λ (w : List ℕ). record (completed (starts c (Erasing a n))) { memory = erased c.memory a (n + k); weak = w }) (cleared_more c.weak a n k)

-- the memory is as long as it was, once n bytes are erased
pub same_length : (c d : Chip) (a n : ℕ) → d ≡ completed (starts c (Erasing a n)) → length d.memory ≡ length c.memory
same_length c d a n is = ap (λ (x : Chip). length x.memory) is ∙ length-erased c.memory a n

pub next_chip : (c d new : Chip) (a n k all : ℕ) → n + k ≡ all → d ≡ completed (starts c (Erasing a n)) → new ≡ completed (starts d (Erasing (a + n) k)) → new ≡ completed (starts c (Erasing a all))
next_chip c d new a n k all sum is more =
    more ∙ (ap (λ (x : Chip). completed (starts x (Erasing (a + n) k))) is ∙ (next_unit c a n k ∙ ap (λ m. completed (starts c (Erasing a m))) sum))

pub later_failure : (e : NorError) (c d left : Chip) (cuts cuts0 cuts' a n k all : ℕ) → n + k ≤ all → cuts0 ≡ cuts → d ≡ completed (starts c (Erasing a n)) → EraseStops e d cuts0 (a + n) k left cuts' → EraseStops e c cuts a all left cuts'
later_failure e c d left cuts cuts0 cuts' a n k all fits same is h =
    later_stops e c left cuts cuts' a n k all fits (subst (λ (x : ℕ). EraseStops e (completed (starts c (Erasing a n))) x (a + n) k left cuts') same (subst (λ (x : Chip). EraseStops e x cuts0 (a + n) k left cuts') is h))
