-- What is given of a sector is what a newest slot holds, or zeros.
use Rattle.std.proofs.Common.{◌≡◌, ◌⊎◌, ℕ, zero, suc, ◌+◌, ◌-◌, ◌*◌, ◌/◌, ◌%◌, ◌<◌, ◌≤◌, ◌++◌, Bool, true, false, List, [], length, min, take, drop, refl, sym, ap, subst, ◌∙◌, arith, inl, inr}
use Rattle.std.proofs.lemmas.Bool.{cases_eq, cases_lt, eq-eqb, ne_eqb}
use Rattle.std.proofs.lemmas.List.{take_all, length-take, length-drop, length-append, take-append-le, drop-append-le, drop_all}
use Rattle.std.proofs.lemmas.Option.{none-some}
use Rattle.std.specs.Prelude.{Option, Some, None, if◌then◌else◌, is_none, is_some, ◌&&◌, slice_range, unwrap_or}
use Rattle.chip_model.specs.Geometry.{IsChipSize, sector_count}
use Rattle.block_device.specs.Contents.{sector}
use Rattle.nor_layout.specs.declared.header.Generation.{Generation}
use Rattle.nor_layout.specs.declared.header.Generation.TheVariants as generations
use Rattle.nor_layout.specs.declared.header.Tag.{Tag}
use Rattle.nor_layout.specs.declared.layout.Layout.{Layout}
use Rattle.nor_layout.specs.Headers.{next_generation}
use Rattle.sector_slots.specs.Sectors.{zeros}
use Rattle.sector_slots.specs.Slots.{slot_count}
use Rattle.flash_disk.specs.Contents.{joined}
use Rattle.sector_rescue.specs.Given.{HoldsSector, NoneHolds, MayBeGiven, IsGiven, AreGiven}
use Rattle.sector_rescue.specs.Rescue.{first_held, given_slot, holders, is_last, layout_told, newest_of, none_held, payload, payload_or, payload_place, rescued, rescued_at, said_at, with_holder, with_said}
use Rattle.sector_rescue.specs.declared.slot.Said.{Said}
use Rattle.sector_rescue.specs.declared.slot.Said.TheVariants.{Nothing, Doubtful, Holds}
use Rattle.sector_rescue.specs.declared.table.Holders.{Holders}

-- ---- the slots of each generation

-- the slot of a generation
abbrev at : Generation → Holders → Option ℕ
at generations.Zero h = h.zero
at generations.One h = h.one
at generations.Two h = h.two
at generations.Three h = h.three

at-cases : (k j : Generation) (s : ℕ) (h : Holders) → ((k ≡ j) × (at k (with_holder j s h) ≡ first_held (at k h) s)) ⊎ ((k ≡ j → ⊥) × (at k (with_holder j s h) ≡ at k h))
at-cases generations.Zero generations.Zero s h = inl (refl, refl)
at-cases generations.Zero generations.One s h = inr (λ e. absurd (cc e), refl)
at-cases generations.Zero generations.Two s h = inr (λ e. absurd (cc e), refl)
at-cases generations.Zero generations.Three s h = inr (λ e. absurd (cc e), refl)
at-cases generations.One generations.Zero s h = inr (λ e. absurd (cc e), refl)
at-cases generations.One generations.One s h = inl (refl, refl)
at-cases generations.One generations.Two s h = inr (λ e. absurd (cc e), refl)
at-cases generations.One generations.Three s h = inr (λ e. absurd (cc e), refl)
at-cases generations.Two generations.Zero s h = inr (λ e. absurd (cc e), refl)
at-cases generations.Two generations.One s h = inr (λ e. absurd (cc e), refl)
at-cases generations.Two generations.Two s h = inl (refl, refl)
at-cases generations.Two generations.Three s h = inr (λ e. absurd (cc e), refl)
at-cases generations.Three generations.Zero s h = inr (λ e. absurd (cc e), refl)
at-cases generations.Three generations.One s h = inr (λ e. absurd (cc e), refl)
at-cases generations.Three generations.Two s h = inr (λ e. absurd (cc e), refl)
at-cases generations.Three generations.Three s h = inl (refl, refl)

-- slot s is one of the first n and says that it holds sector g
record HoldsBelow (said : ℕ → Said) (n s g : ℕ) (k : Generation) : Type 0 where
  pub number : s < n
  pub says : said s ≡ Holds (record { number = g; generation = k })

-- What is known of a generation: the slot that is noted holds the sector, and where none is none
-- does.
abbrev Known : (ℕ → Said) → ℕ → ℕ → Generation → Option ℕ → Type 0
Known said n g k None = (s : ℕ) → HoldsBelow said n s g k → ⊥
Known said n g k (Some s) = HoldsBelow said n s g k

known-later : (said : ℕ → Said) (n g : ℕ) (k : Generation) (o : Option ℕ) → (said n ≡ Holds (record { number = g; generation = k }) → ⊥) → Known said n g k o → Known said (suc n) g k o
known-later said n g k None other h = λ s held. elim (cases_eq s n) [
  | inl e ↦ other (subst (λ (t : ℕ). said t ≡ Holds (record { number = g; generation = k })) e held.says)
  | inr ne ↦ h s record { number = omega (arith, ne, held.number); says = held.says }
]
known-later said n g k (Some s) other h = record { number = omega (arith, h.number); says = h.says }

known-first : (said : ℕ → Said) (n g : ℕ) (k : Generation) (o : Option ℕ) → said n ≡ Holds (record { number = g; generation = k }) → Known said n g k o → Known said (suc n) g k (first_held o n)
known-first said n g k None says h = record { number = omega arith; says = says }
known-first said n g k (Some s) says h = record { number = omega (arith, h.number); says = h.says }

number_said : Said → ℕ
number_said Nothing = 0
number_said Doubtful = 0
number_said (Holds tag) = tag.number

generation_said : Said → Generation
generation_said Nothing = generations.Zero
generation_said Doubtful = generations.Zero
generation_said (Holds tag) = tag.generation

same-number : (t : Tag) (g : ℕ) (k : Generation) → Holds t ≡ Holds (record { number = g; generation = k }) → t.number ≡ g
unfolding number_said
same-number t g k e = ap number_said e

same-generation : (t : Tag) (g : ℕ) (k : Generation) → Holds t ≡ Holds (record { number = g; generation = k }) → k ≡ t.generation
unfolding generation_said
same-generation t g k e = sym (ap generation_said e)

known-with : (said : ℕ → Said) (n g : ℕ) (k : Generation) (t : Tag) (h : Holders) → said n ≡ Holds t → t.number ≡ g → Known said n g k (at k h) → Known said (suc n) g k (at k (with_holder t.generation n h))
known-with said n g k t h says number known = elim (at-cases k t.generation n h) [
  | inl p ↦
      let is : said n ≡ Holds (record { number = g; generation = k }) = says ∙ (ap (λ (x : ℕ). Holds (record { number = x; generation = t.generation })) number ∙ ap (λ (j : Generation). Holds (record { number = g; generation = j })) (sym p.0)) in
      subst (λ (o : Option ℕ). Known said (suc n) g k o) (sym p.1) (known-first said n g k (at k h) is known)
  | inr p ↦ subst (λ (o : Option ℕ). Known said (suc n) g k o) (sym p.1) (known-later said n g k (at k h) (λ e. p.0 (same-generation t g k (sym says ∙ e))) known)
]

known-said : (said : ℕ → Said) (n g : ℕ) (k : Generation) (x : Said) (h : Holders) → said n ≡ x → Known said n g k (at k h) → Known said (suc n) g k (at k (with_said x n g h))
known-said said n g k Nothing h says known = known-later said n g k (at k h) (λ e. absurd (cc (says, e))) known
known-said said n g k Doubtful h says known = known-later said n g k (at k h) (λ e. absurd (cc (says, e))) known
known-said said n g k (Holds t) h says known = elim (cases_eq t.number g) as (λ _. Known said (suc n) g k (at k (with_said (Holds t) n g h))) [
  | inl e ↦ rw (eq-eqb t.number g e) (known-with said n g k t h says e known)
  | inr ne ↦ rw (ne_eqb t.number g ne) (known-later said n g k (at k h) (λ e. ne (same-number t g k (sym says ∙ e))) known)
]

none-known : (said : ℕ → Said) (g : ℕ) (k : Generation) → Known said 0 g k (at k none_held)
none-known said g generations.Zero = λ s held. absurd (omega (arith, held.number))
none-known said g generations.One = λ s held. absurd (omega (arith, held.number))
none-known said g generations.Two = λ s held. absurd (omega (arith, held.number))
none-known said g generations.Three = λ s held. absurd (omega (arith, held.number))

known : (said : ℕ → Said) (n g : ℕ) (k : Generation) → Known said n g k (at k (holders said n g))
unfolding holders
known said zero g k = none-known said g k
known said (suc n) g k = known-said said n g k (said n) (holders said n g) refl (known said n g k)

-- ---- the newest

-- what is known of the slots of a sector of a chip
abbrev IsKnown : Layout → List ℕ → ℕ → Generation → Option ℕ → Type 0
IsKnown layout m g k None = NoneHolds layout m g k
IsKnown layout m g k (Some s) = HoldsSector layout m s g k

chip-known : (layout : Layout) (m : List ℕ) (g : ℕ) (k : Generation) (o : Option ℕ) → Known (said_at layout m) (slot_count m) g k o → IsKnown layout m g k o
chip-known layout m g k None h = λ s held. h s record { number = held.number; says = held.says }
chip-known layout m g k (Some s) h = record { number = h.number; says = h.says }

record AllKnown (layout : Layout) (m : List ℕ) (g : ℕ) (h : Holders) : Type 0 where
  zero : IsKnown layout m g generations.Zero h.zero
  one : IsKnown layout m g generations.One h.one
  two : IsKnown layout m g generations.Two h.two
  three : IsKnown layout m g generations.Three h.three

all-known : (layout : Layout) (m : List ℕ) (g : ℕ) → AllKnown layout m g (holders (said_at layout m) (slot_count m) g)
all-known layout m g =
    let n = slot_count m in
    let said = said_at layout m in
    let h = holders said n g in
    record {
      zero = chip-known layout m g generations.Zero h.zero (known said n g generations.Zero);
      one = chip-known layout m g generations.One h.one (known said n g generations.One);
      two = chip-known layout m g generations.Two h.two (known said n g generations.Two);
      three = chip-known layout m g generations.Three h.three (known said n g generations.Three);
    }

-- one whose next generation isn't there
given-last : (layout : Layout) (m : List ℕ) (g s : ℕ) (k : Generation) → HoldsSector layout m s g k → NoneHolds layout m g (next_generation k) → IsGiven layout m g (payload_or m (Some s))
given-last layout m g s k holds none = inl record { slot = s; generation = k; holds = holds; bytes_are = refl; last = inl none }

every : (layout : Layout) (m : List ℕ) (g a b c d : ℕ) → HoldsSector layout m a g generations.Zero → HoldsSector layout m b g generations.One → HoldsSector layout m c g generations.Two → HoldsSector layout m d g generations.Three → (k : Generation) → (s : ℕ) × HoldsSector layout m s g k
every layout m g a b c d x y z w generations.Zero = (a, x)
every layout m g a b c d x y z w generations.One = (b, y)
every layout m g a b c d x y z w generations.Two = (c, z)
every layout m g a b c d x y z w generations.Three = (d, w)

no-one : (layout : Layout) (m : List ℕ) (g : ℕ) → NoneHolds layout m g generations.Zero → NoneHolds layout m g generations.One → NoneHolds layout m g generations.Two → NoneHolds layout m g generations.Three → (k : Generation) → NoneHolds layout m g k
no-one layout m g x y z w generations.Zero = x
no-one layout m g x y z w generations.One = y
no-one layout m g x y z w generations.Two = z
no-one layout m g x y z w generations.Three = w

given-newest : (layout : Layout) (m : List ℕ) (g : ℕ) (z o t h : Option ℕ) → AllKnown layout m g (record { zero = z; one = o; two = t; three = h }) → IsGiven layout m g (payload_or m (newest_of (record { zero = z; one = o; two = t; three = h })))
given-newest layout m g None None None None k = inr (no-one layout m g k.zero k.one k.two k.three, refl)
given-newest layout m g None None None (Some d) k = given-last layout m g d generations.Three k.three k.zero
given-newest layout m g None None (Some c) None k = given-last layout m g c generations.Two k.two k.three
given-newest layout m g None None (Some c) (Some d) k = given-last layout m g d generations.Three k.three k.zero
given-newest layout m g None (Some b) None None k = given-last layout m g b generations.One k.one k.two
given-newest layout m g None (Some b) None (Some d) k = given-last layout m g b generations.One k.one k.two
given-newest layout m g None (Some b) (Some c) None k = given-last layout m g c generations.Two k.two k.three
given-newest layout m g None (Some b) (Some c) (Some d) k = given-last layout m g d generations.Three k.three k.zero
given-newest layout m g (Some a) None None None k = given-last layout m g a generations.Zero k.zero k.one
given-newest layout m g (Some a) None None (Some d) k = given-last layout m g a generations.Zero k.zero k.one
given-newest layout m g (Some a) None (Some c) None k = given-last layout m g a generations.Zero k.zero k.one
given-newest layout m g (Some a) None (Some c) (Some d) k = given-last layout m g a generations.Zero k.zero k.one
given-newest layout m g (Some a) (Some b) None None k = given-last layout m g b generations.One k.one k.two
given-newest layout m g (Some a) (Some b) None (Some d) k = given-last layout m g b generations.One k.one k.two
given-newest layout m g (Some a) (Some b) (Some c) None k = given-last layout m g c generations.Two k.two k.three
given-newest layout m g (Some a) (Some b) (Some c) (Some d) k = inl record { slot = a; generation = generations.Zero; holds = k.zero; bytes_are = refl; last = inr (every layout m g a b c d k.zero k.one k.two k.three) }

given-at : (layout : Layout) (m : List ℕ) (g : ℕ) → IsGiven layout m g (rescued_at layout m g)
given-at layout m g =
    let h = holders (said_at layout m) (slot_count m) g in
    given-newest layout m g h.zero h.one h.two h.three (all-known layout m g)

-- ---- the sectors, one after the other

length-payload : (m : List ℕ) (s : ℕ) → IsChipSize (length m) → s < slot_count m → length (payload m s) ≡ 512
length-payload m s size low =
    let p = payload_place s in
    let whole = size.whole in
    let inside : p + 512 ≤ length m = omega (arith, whole, low) in
    let cut : length (payload m s) ≡ min (p + 512 - p) (length (drop p m)) = length-take (p + 512 - p) (drop p m) in
    omega (arith, cut, inside, length-drop p m)

length-zeros : length zeros ≡ 512
unfolding zeros
length-zeros = refl

length-given : (layout : Layout) (m : List ℕ) (g : ℕ) (bytes : List ℕ) → IsChipSize (length m) → IsGiven layout m g bytes → length bytes ≡ 512
length-given layout m g bytes size (inl h) = ap (λ (x : List ℕ). length x) h.bytes_are ∙ length-payload m h.slot size h.holds.number
length-given layout m g bytes size (inr h) = ap (λ (x : List ℕ). length x) h.1 ∙ length-zeros

length-joined : (f : ℕ → List ℕ) (n : ℕ) → ((g : ℕ) → length (f g) ≡ 512) → length (joined f n) ≡ 512 * n
unfolding joined
length-joined f zero h = refl
length-joined f (suc n) h =
    let ih : length (joined f n) ≡ 512 * n = length-joined f n h in
    let last = h n in
    omega (arith, ih, last, length-append (joined f n) (f n))

sector-joined : (f : ℕ → List ℕ) (n : ℕ) → ((g : ℕ) → length (f g) ≡ 512) → (g : ℕ) → g < n → take 512 (drop (512 * g) (joined f n)) ≡ f g
unfolding joined
sector-joined f zero h g low = absurd (omega arith)
sector-joined f (suc n) h g low =
    let len = length-joined f n h in
    let apart : drop (512 * g) (joined f n ++ f n) ≡ drop (512 * g) (joined f n) ++ f n = drop-append-le (512 * g) (joined f n) (f n) (omega (arith, len)) in
    elim (cases_eq g n) [
      | inl e ↦
          let none : drop (512 * g) (joined f n) ≡ [] = drop_all (512 * g) (joined f n) (omega (arith, len, e)) in
          ap (λ (x : List ℕ). take 512 x) (apart ∙ ap (λ (x : List ℕ). x ++ f n) none) ∙ (take_all 512 (f n) (omega (arith, h n)) ∙ ap f (sym e))
      | inr ne ↦ ap (λ (x : List ℕ). take 512 x) apart ∙ (take-append-le 512 (drop (512 * g) (joined f n)) (f n) (omega (arith, len, ne, length-drop (512 * g) (joined f n))) ∙ sector-joined f n h g (omega (arith, ne)))
    ]

pub are_given : (m : List ℕ) → IsChipSize (length m) → AreGiven m (rescued m)
unfolding sector
are_given m size g low =
    let layout = layout_told m in
    let f = rescued_at layout m in
    subst (λ (x : List ℕ). IsGiven layout m g x) (sym (sector-joined f (sector_count (length m)) (λ k. length-given layout m k (f k) size (given-at layout m k)) g low)) (given-at layout m g)
