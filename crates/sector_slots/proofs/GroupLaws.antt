-- Blocks with groups: what their places are as slots, and that no step brings one about, or a sector that is live in one and in a slot of its own.
use Rattle.std.proofs.Common.{◌≡◌, ℕ, ◌-◌, ◌*◌, ◌<◌, ◌⊎◌, Bool, true, false, ◌&&◌, cond, List, length, refl, sym, ap, ◌∙◌, subst, arith, inl, inr}
use Rattle.std.specs.Prelude.{◌/◌, ◌==◌}
use Rattle.std.proofs.lemmas.Bool.{cases_eq}
use Rattle.chip_model.specs.Geometry.{block_count}
use Rattle.erase_journal.specs.Blocks.{SameChip}
use Rattle.nor_layout.specs.declared.header.Generation.{Generation}
use Rattle.nor_layout.specs.declared.header.Header.{Header}
use Rattle.nor_layout.specs.declared.header.Tag.{Tag}
use Rattle.nor_layout.specs.declared.kind.Kind.{Kind}
use Rattle.nor_layout.specs.declared.kind.Kind.TheVariants as kinds
use Rattle.nor_layout.specs.Kinds.{kind_of, mark_of, group_kind}
use Rattle.nor_layout.specs.Headers.{header_of}
use Rattle.chip_model.specs.Memory.{byte}
use Rattle.sector_slots.specs.Slots.{Slot, Free, Live, NoGeneration, Dead, Outside, slot_with, slot_in, descriptor_in, written_in, header_in, group_tag, content_bytes, is_group, counted, data_blocks, kind_at, raw_slot, slot_at, slot_count}
use Rattle.sector_slots.specs.Blocks.{HasGroupRoom, dead_group, two_blocks}
use Rattle.sector_slots.specs.Sectors.{LiveAt, GroupsAreApart, HasOnlySlots, GroupsFit, Single}
use Rattle.sector_slots.specs.Copying.{OnlyData, HoldsNothing}
use Rattle.sector_slots.proofs.CopyLaws.{quiet-live}

-- what the bytes of a block say of a place, by its kind
pub header-slot : (k : Kind) (h : Header) (i : ℕ) → is_group k ≡ false → header_in k h i ≡ h
header-slot kinds.Plain h i e = refl
header-slot kinds.Void h i e = refl
header-slot (kinds.Committed s) h i e = refl
header-slot kinds.Settled h i e = refl
header-slot (kinds.Group tag) h i e = absurd (let q : true ≡ false = e in cc)
header-slot kinds.DeadGroup h i e = absurd (let q : true ≡ false = e in cc)
header-slot kinds.SpoiltGroup h i e = absurd (let q : true ≡ false = e in cc)
header-slot kinds.Unknown h i e = refl

pub descriptor-slot : (b : List ℕ) (i : ℕ) → is_group (kind_of b) ≡ false → descriptor_in b i ≡ written_in b i
unfolding descriptor_in
descriptor-slot b i e = header-slot (kind_of b) (written_in b i) i e

pub group-slot : (b : List ℕ) (i : ℕ) (tag : Tag) → kind_of b ≡ kinds.Group tag → slot_in b i ≡ Live (group_tag tag i) (content_bytes b i)
unfolding slot_in descriptor_in
group-slot b i tag e = ap (λ k. slot_with (header_in k (written_in b i) i) (content_bytes b i)) e

pub dead-slot : (b : List ℕ) (i : ℕ) → kind_of b ≡ kinds.DeadGroup → slot_in b i ≡ Dead
unfolding slot_in descriptor_in
dead-slot b i e = ap (λ k. slot_with (header_in k (written_in b i) i) (content_bytes b i)) e

pub spoilt-slot : (b : List ℕ) (i : ℕ) → kind_of b ≡ kinds.SpoiltGroup → slot_in b i ≡ NoGeneration
unfolding slot_in descriptor_in
spoilt-slot b i e = ap (λ k. slot_with (header_in k (written_in b i) i) (content_bytes b i)) e

-- bytes 0 to 3 say whether a block is of a group, and which: what a place is depends on no other byte of the mark
mark-cases : (a p q r s : Bool) (source : ℕ) → is_group (cond a kinds.Plain (cond p kinds.Void (cond q kinds.Void (cond r (kinds.Committed source) (cond s kinds.Settled kinds.Unknown))))) ≡ false
mark-cases true p q r s source = refl
mark-cases false true q r s source = refl
mark-cases false false true r s source = refl
mark-cases false false false true s source = refl
mark-cases false false false false true source = refl
mark-cases false false false false false source = refl

mark-no_group : (b : List ℕ) → is_group (mark_of b) ≡ false
mark-no_group b = mark-cases ((byte b 4 == 255) && (byte b 5 == 255) && (byte b 6 == 255) && (byte b 7 == 255)) (byte b 4 == 255) (byte b 4 == 254) (byte b 4 == 252) (byte b 4 == 248) _

abbrev is_slots : List ℕ → Bool
is_slots b = (byte b 0 == 255) && (byte b 1 == 255) && (byte b 2 == 255) && (byte b 3 == 255)

place-by : (t : Bool) (m g : Kind) (w : Header) (i : ℕ) → is_group m ≡ false → header_in (cond t m g) w i ≡ cond t w (header_in g w i)
place-by true m g w i e = header-slot m w i e
place-by false m g w i e = refl

group-by : (t : Bool) (m g : Kind) → is_group m ≡ false → is_group (cond t m g) ≡ cond t false (is_group g)
group-by true m g e = e
group-by false m g e = refl

pub place-four : (b t : List ℕ) (w : Header) (i : ℕ) → byte t 0 ≡ byte b 0 → byte t 1 ≡ byte b 1 → byte t 2 ≡ byte b 2 → byte t 3 ≡ byte b 3 → header_in (kind_of t) w i ≡ header_in (kind_of b) w i
place-four b t w i e0 e1 e2 e3 =
    let same : cond (is_slots t) w (header_in (group_kind (header_of t)) w i) ≡ cond (is_slots b) w (header_in (group_kind (header_of b)) w i) = rw (e0, e1, e2, e3) refl in
    place-by (is_slots t) (mark_of t) (group_kind (header_of t)) w i (mark-no_group t) ∙ (same ∙ sym (place-by (is_slots b) (mark_of b) (group_kind (header_of b)) w i (mark-no_group b)))

pub group-four : (b t : List ℕ) → byte t 0 ≡ byte b 0 → byte t 1 ≡ byte b 1 → byte t 2 ≡ byte b 2 → byte t 3 ≡ byte b 3 → is_group (kind_of t) ≡ is_group (kind_of b)
group-four b t e0 e1 e2 e3 =
    let same : cond (is_slots t) false (is_group (group_kind (header_of t))) ≡ cond (is_slots b) false (is_group (group_kind (header_of b))) = rw (e0, e1, e2, e3) refl in
    group-by (is_slots t) (mark_of t) (group_kind (header_of t)) (mark-no_group t) ∙ (same ∙ sym (group-by (is_slots b) (mark_of b) (group_kind (header_of b)) (mark-no_group b)))

abbrev IsFreeSlot : Slot → Type 0
IsFreeSlot Free = Unit {0}
IsFreeSlot (Live tag x) = ⊥
IsFreeSlot NoGeneration = ⊥
IsFreeSlot Dead = ⊥
IsFreeSlot Outside = ⊥

free-kind : (b : List ℕ) (i : ℕ) (k : Kind) → kind_of b ≡ k → slot_in b i ≡ Free → is_group k ≡ false
free-kind b i kinds.Plain e f = refl
free-kind b i kinds.Void e f = refl
free-kind b i (kinds.Committed s) e f = refl
free-kind b i kinds.Settled e f = refl
free-kind b i (kinds.Group tag) e f = absurd (subst (λ s. IsFreeSlot s) (sym f ∙ group-slot b i tag e) tt)
free-kind b i kinds.DeadGroup e f = absurd (subst (λ s. IsFreeSlot s) (sym f ∙ dead-slot b i e) tt)
free-kind b i kinds.SpoiltGroup e f = absurd (subst (λ s. IsFreeSlot s) (sym f ∙ spoilt-slot b i e) tt)
free-kind b i kinds.Unknown e f = refl

-- a block with a free place isn't of a group
pub free-no_group : (b : List ℕ) (i : ℕ) → slot_in b i ≡ Free → is_group (kind_of b) ≡ false
free-no_group b i f = free-kind b i (kind_of b) refl f

-- the same kinds, the same room
pub room-same : (kind kind' : ℕ → Kind) (n : ℕ) → ((d : ℕ) → d < n → kind' d ≡ kind d) → HasGroupRoom kind n → HasGroupRoom kind' n
room-same kind kind' n k (dead_group c low e) = dead_group c low (k c low ∙ e)
room-same kind kind' n k (two_blocks c d a b lc ld ne ea eb same) = two_blocks c d a b lc ld ne (k c lc ∙ ea) (k d ld ∙ eb) same

-- each block is of a group where it was, or isn't one now and holds nothing
abbrev pub GroupsStay : (ℕ → Kind) → (ℕ → Kind) → (ℕ → Slot) → ℕ → Type 0
GroupsStay kind kind' f' n = (d : ℕ) → d < n
    → (is_group (kind' d) ≡ is_group (kind d)) ⊎ ((is_group (kind' d) ≡ false) × ((s : ℕ) → s < 7 * n → s / 7 ≡ d → HoldsNothing (f' s)))

pub kinds-stay : (kind kind' : ℕ → Kind) (f' : ℕ → Slot) (n : ℕ) → ((d : ℕ) → d < n → kind' d ≡ kind d) → GroupsStay kind kind' f' n
kinds-stay kind kind' f' n k d low = inl (ap is_group (k d low))

pub only-stays : (c n : ℕ) (kind kind' : ℕ → Kind) (slots slots' : ℕ → ℕ → Slot) (f' : ℕ → Slot) → OnlyData c n kind kind' slots slots' → is_group (kind' c) ≡ is_group (kind c) → GroupsStay kind kind' f' n
only-stays c n kind kind' slots slots' f' only same d low = elim (cases_eq d c) as (λ _. (is_group (kind' d) ≡ is_group (kind d)) ⊎ ((is_group (kind' d) ≡ false) × ((s : ℕ) → s < 7 * n → s / 7 ≡ d → HoldsNothing (f' s)))) [
  | inl e ↦ inl (ap (λ a. is_group (kind' a)) e ∙ (same ∙ ap (λ a. is_group (kind a)) (sym e)))
  | inr ne ↦ inl (ap is_group (only.same_kind d low ne))
]

pub quiet-stays : (c n : ℕ) (kind kind' : ℕ → Kind) (slots slots' : ℕ → ℕ → Slot) (f' : ℕ → Slot) → OnlyData c n kind kind' slots slots' → is_group (kind' c) ≡ false → ((s : ℕ) → s < 7 * n → s / 7 ≡ c → HoldsNothing (f' s))
    → GroupsStay kind kind' f' n
quiet-stays c n kind kind' slots slots' f' only none quiet d low = elim (cases_eq d c) as (λ _. (is_group (kind' d) ≡ is_group (kind d)) ⊎ ((is_group (kind' d) ≡ false) × ((s : ℕ) → s < 7 * n → s / 7 ≡ d → HoldsNothing (f' s)))) [
  | inl e ↦ inr (ap (λ a. is_group (kind' a)) e ∙ none, λ s h q. quiet s h (q ∙ e))
  | inr ne ↦ inl (ap is_group (only.same_kind d low ne))
]

live-stays : (kind kind' : ℕ → Kind) (f' : ℕ → Slot) (n s g : ℕ) (k : Generation) (x : List ℕ) → GroupsStay kind kind' f' n → LiveAt f' (7 * n) s g k x → is_group (kind' (s / 7)) ≡ is_group (kind (s / 7))
live-stays kind kind' f' n s g k x stay l =
    let low : s < 7 * n = l.number in
    elim (stay (s / 7) (omega arith)) as (λ _. is_group (kind' (s / 7)) ≡ is_group (kind (s / 7))) [ inl e ↦ e | inr p ↦ absurd (quiet-live (f' s) g k x (p.1 s low refl) l.is) ]

-- live slots that were live leave sectors apart
pub apart-fewer : (kind kind' : ℕ → Kind) (f f' : ℕ → Slot) (n : ℕ) → GroupsStay kind kind' f' n → ((s g : ℕ) (k : Generation) (x : List ℕ) → LiveAt f' (7 * n) s g k x → LiveAt f (7 * n) s g k x) → GroupsAreApart kind f (7 * n)
    → GroupsAreApart kind' f' (7 * n)
apart-fewer kind kind' f f' n stay sub a = record {
  apart = λ s t g j k x y l r. live-stays kind kind' f' n s g j x stay l ∙ (a.apart s t g j k x y (sub s g j x l) (sub t g k y r) ∙ sym (live-stays kind kind' f' n t g k y stay r));
}

-- and so does no second live slot
pub apart-single : (kind : ℕ → Kind) (f : ℕ → Slot) (n : ℕ) → Single f n → GroupsAreApart kind f n
apart-single kind f n single = record { apart = λ s t g j k x y l r. ap (λ a. is_group (kind (a / 7))) (single.one s t g j k x y l r) }

abbrev slots_after : List ℕ → ℕ → ℕ → Slot
slots_after m' n = counted (kind_at m') (raw_slot m') (block_count n - 4)

only-sized : (m m' : List ℕ) (f' : ℕ → Slot) → SameChip m m' → GroupsStay (kind_at m) (kind_at m') f' (data_blocks m) → HasOnlySlots m → HasOnlySlots m'
only-sized m m' f' chip stay h two c high =
    let n = chip.same_length in
    let low : c < data_blocks m = omega (arith, high, n) in
    elim (stay c low) as (λ _. is_group (kind_at m' c) ≡ false) [ inl e ↦ e ∙ h (sym (chip.superblock 8 (omega arith)) ∙ two) c low | inr p ↦ p.0 ]

pub fit-sized : (m m' : List ℕ) → SameChip m m' → GroupsAreApart (kind_at m') (slots_after m' (length m)) (slot_count m) → GroupsStay (kind_at m) (kind_at m') (slots_after m' (length m)) (data_blocks m) → HasOnlySlots m → GroupsFit m'
fit-sized m m' chip a stay only = record {
  sectors = subst (λ n. GroupsAreApart (kind_at m') (slots_after m' n) (7 * (block_count n - 4))) (sym chip.same_length) a;
  layout = only-sized m m' (slots_after m' (length m)) chip stay only;
}

pub fit-step : (m m' : List ℕ) → SameChip m m' → GroupsStay (kind_at m) (kind_at m') (slots_after m' (length m)) (data_blocks m)
    → ((s g : ℕ) (k : Generation) (x : List ℕ) → LiveAt (slots_after m' (length m)) (slot_count m) s g k x → LiveAt (slot_at m) (slot_count m) s g k x) → GroupsFit m → GroupsFit m'
fit-step m m' chip stay sub h = fit-sized m m' chip (apart-fewer (kind_at m) (kind_at m') (slot_at m) (slots_after m' (length m)) (data_blocks m) stay sub h.sectors) stay h.layout
