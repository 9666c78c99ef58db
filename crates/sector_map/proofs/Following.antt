-- The table follows a block that was copied.
use Rattle.std.proofs.Common.{◌≡◌, ◌≢◌, ℕ, zero, suc, ◌+◌, ◌-◌, ◌*◌, ◌<◌, ◌⊎◌, false, List, length, refl, sym, ap, ◌∙◌, subst, arith, inl, inr}
use Rattle.std.specs.Prelude.{◌/◌, ◌%◌, Option, Some, None, slice_index_or, not}
use Rattle.std.proofs.lemmas.Bool.{cases_eq}
use Rattle.chip_model.specs.Geometry.{sector_count, block_count}
use Rattle.nor_layout.specs.declared.header.Generation.{Generation}
use Rattle.nor_layout.specs.declared.header.Generation.TheVariants as generations
use Rattle.nor_layout.specs.declared.header.Header.{Header}
use Rattle.nor_layout.specs.declared.header.Header.TheVariants as headers
use Rattle.nor_layout.specs.declared.header.Tag.{Tag}
use Rattle.erase_journal.specs.Blocks.{SameChip}
use Rattle.sector_slots.specs.Slots.{Slot, Free, Live, NoGeneration, Dead, Outside, slot_with, descriptor_in, read_header, group_tag, content_bytes, is_group, slot_at, slot_count, data_blocks, data_block, kind_at}
use Rattle.sector_slots.specs.Blocks.{AreSettled, settled}
use Rattle.sector_slots.specs.Sectors.{LiveAt, SoundSlots, Single, IsSingle, IsSoundMap, HasSlotsAlone, HasOnlySlots}
use Rattle.sector_slots.proofs.SectorLaws.{number_in, kind_in}
use Rattle.sector_slots.proofs.GroupLaws.{apart-single, group-slot}
use Rattle.sector_stock.proofs.Moved.{rest-slot}
use Rattle.sector_slots.proofs.CopyLaws.{shifted-there, shifted-else}
use Rattle.sector_slots.specs.Copying.{shifted}
use Rattle.sector_map.specs.Scan.{HeadsOf, Follows, FollowsBlock, AreApart}
use Rattle.sector_map.specs.Table.{IsTableOf, IsOneAtMost, holder}
use Rattle.sector_map.specs.Replace.{HeldBy, IsInSlots}
use Rattle.sector_map.specs.declared.table.Held.{Held}
use Rattle.sector_map.specs.declared.table.LiveSlots.{LiveSlots}
use Rattle.sector_map.specs.declared.table.LiveSlots.TheVariants.{Absent}
use Rattle.sector_map.specs.declared.found.Found.TheVariants.{AtRest}
use Rattle.sector_slots.proofs.CopyLaws.{at-rest-counts}
use Rattle.sector_map.proofs.Founds.{heads-of}
use Rattle.sector_stock.specs.Takes.{Shifts, Converts, MakesNoGroup}
use Rattle.sector_map.proofs.MapSteps.{named-table, there, back-there}
use Rattle.sector_map.proofs.Retiring.{table-holder}

-- the descriptors of a block of a memory at rest
pub rest-heads : (m : List ℕ) (b : ℕ) (heads : List Header) → AreSettled m → b < data_blocks m → ((i : ℕ) → i < 7 → read_header heads i ≡ descriptor_in (data_block m b) i) → HeadsOf heads (slot_at m) b
rest-heads m b heads blocks low each = heads-of AtRest m b heads (record { rest = blocks.rest }) low (ap not (at-rest-counts (kind_at m b) (blocks.rest b low))) each

live-slot : (m : List ℕ) (b i : ℕ) (tag : Tag) (heads : List Header) → HeadsOf heads (slot_at m) b → i < 7 → read_header heads i ≡ headers.Live tag → (x : List ℕ) × (slot_at m (7 * b + i) ≡ Live tag x)
live-slot m b i tag heads h low is = let at = h i low in (at.0, at.1 ∙ ap (λ z. slot_with z at.0) is)

pub heads-apart : (m : List ℕ) (b : ℕ) (heads : List Header) (count : ℕ) → HeadsOf heads (slot_at m) b → b < data_blocks m → IsSoundMap m → IsSingle m → count ≡ sector_count (length m) → AreApart heads count
heads-apart m b heads count h low sound single e = record {
  within = λ i tag small is.
      let l = live-slot m b i tag heads h small is in
      let n = sound.slots.sector (7 * b + i) tag.number tag.generation l.0 (record { number = omega (arith, low, small); is = l.1 }) in
      subst (λ z. tag.number < z) (sym e) n;
  one = λ i j s t small_i small_j is js same.
      let l = live-slot m b i s heads h small_i is in
      let r = live-slot m b j t heads h small_j js in
      let q = single.one (7 * b + i) (7 * b + j) s.number s.generation t.generation l.0 r.0 (record { number = omega (arith, low, small_i); is = l.1 })
      (record { number = omega (arith, low, small_j); is = r.1 ∙ ap (λ z. Live (record { number = z; generation = t.generation }) r.0) (sym same) }) in
      omega (arith, q);
}

abbrev header_of_slot : Slot → Header
header_of_slot Free = headers.Free
header_of_slot (Live tag x) = headers.Live tag
header_of_slot NoGeneration = headers.NoGeneration
header_of_slot Dead = headers.Dead
header_of_slot Outside = headers.Dead

with-header : (h : Header) (x : List ℕ) → header_of_slot (slot_with h x) ≡ h
with-header headers.Free x = refl
with-header (headers.Live tag) x = refl
with-header headers.NoGeneration x = refl
with-header headers.Dead x = refl

head-live : (m : List ℕ) (b i : ℕ) (tag : Tag) (x : List ℕ) (heads : List Header) → HeadsOf heads (slot_at m) b → i < 7 → slot_at m (7 * b + i) ≡ Live tag x → read_header heads i ≡ headers.Live tag
head-live m b i tag x heads h low is = let at = h i low in sym (with-header (read_header heads i) at.0) ∙ (ap header_of_slot (sym at.1) ∙ ap header_of_slot is)

pub block-followed : (m : List ℕ) (b : ℕ) (heads : List Header) (old new : List LiveSlots) → HeadsOf heads (slot_at m) b → Follows 7 b heads old new → FollowsBlock b old new m
block-followed m b heads old new h f = record {
  size = f.size;
  here = λ i tag x low is. f.here i tag low (head-live m b i tag x heads h low is);
  others = λ g low out. f.others g low (λ i k small is. (let l = live-slot m b i (record { number = g; generation = k }) heads h small is in out i k l.0 small l.1));
}

-- The live slots of block s moved to the same places of block t, where a block of a group was converted with another generation; all others stay, and no copying goes on.
pub record Relocates (s t : ℕ) (m m' : List ℕ) : Type 0 where
  pub chip : SameChip m m'
  pub moved : (w g : ℕ) (k : Generation) (x : List ℕ) → LiveAt (slot_at m) (slot_count m) w g k x → w / 7 ≡ s → (j : Generation) × ((y : List ℕ) × LiveAt (slot_at m') (slot_count m) (7 * t + w % 7) g j y)
  pub elsewhere : (w g : ℕ) (k : Generation) (x : List ℕ) → LiveAt (slot_at m) (slot_count m) w g k x → w / 7 ≢ s → (y : List ℕ) × LiveAt (slot_at m') (slot_count m) w g k y
  pub back : (w g : ℕ) (k : Generation) (x : List ℕ) → LiveAt (slot_at m') (slot_count m) w g k x → (j : Generation) × ((y : List ℕ) × LiveAt (slot_at m) (slot_count m) (shifted t s w) g j y)
  pub round : (w g : ℕ) (k : Generation) (x : List ℕ) → LiveAt (slot_at m') (slot_count m) w g k x → shifted s t (shifted t s w) ≡ w
  pub whole : (w : ℕ) → w < slot_count m → slot_at m' w ≢ NoGeneration
  pub blocks : AreSettled m'
  pub groups : MakesNoGroup m m'

pub alone-kept : (m m' : List ℕ) → SameChip m m' → MakesNoGroup m m' → HasSlotsAlone m → HasSlotsAlone m'
alone-kept m m' chip none h c high = let n = chip.same_length in let low : c < data_blocks m = omega (arith, high, n) in none c low (h c low)

pub shifts-relocate : (s t : ℕ) (m m' : List ℕ) → Shifts s t m m' → Relocates s t m m'
shifts-relocate s t m m' h = record {
  chip = h.chip;
  moved = λ w g k x l e. (let p = h.on w g k x l in (k, (p.0, subst (λ v. LiveAt (slot_at m') (slot_count m) v g k p.0) (shifted-there s t w e) p.1)));
  elsewhere = λ w g k x l ne. (let p = h.on w g k x l in (p.0, subst (λ v. LiveAt (slot_at m') (slot_count m) v g k p.0) (shifted-else s t w ne) p.1));
  back = λ w g k x l. (let p = h.back w g k x l in (k, (p.0, p.1)));
  round = h.round;
  whole = h.whole;
  blocks = h.blocks;
  groups = h.groups;
}

not-live : (q : Slot) (g : ℕ) (k : Generation) (x : List ℕ) → q ≡ Free → q ≡ Live (record { number = g; generation = k }) x → ⊥
not-live q g k x free live = let e : 0 ≡ 1 = ap kind_in (sym free ∙ live) in omega (arith, e)

-- a block of a group that was converted
pub converts-relocate : (s t : ℕ) (m m' : List ℕ) → Converts s t m m' → AreSettled m → ((w : ℕ) → w < slot_count m → slot_at m w ≢ NoGeneration) → Relocates s t m m'
converts-relocate s t m m' c blocks whole =
    let was : (i : ℕ) → i < 7 → slot_at m (7 * s + i) ≡ Live (group_tag c.group i) (content_bytes (data_block m s) i) =
    λ i small. rest-slot m s i blocks.rest c.source small ∙ group-slot (data_block m s) i c.group c.was in
    let spare : (i : ℕ) → i < 7 → slot_at m (7 * t + i) ≡ Free = λ i small. rest-slot m t i blocks.rest c.target.number small ∙ c.target.spare.free i small in
    let low_s = c.source in
    let low_t = c.target.number in
    record {
      chip = c.chip;
      moved = λ w g k x l e.
          let i = w % 7 in
          let small : i < 7 = omega arith in
          let here : 7 * s + i ≡ w = omega (arith, e) in
          let number : 7 * c.group.number + i ≡ g = ap number_in (sym (was i small) ∙ (ap (λ v. slot_at m v) here ∙ l.is)) in
          let new = c.slots i small in
          (generations.Zero, (new.0, record { number = omega (arith, low_t, small); is = new.1 ∙ ap (λ n. Live (record { number = n; generation = generations.Zero }) new.0) number }));
      elsewhere = λ w g k x l ns. elim (cases_eq (w / 7) t) as (λ _. (y : List ℕ) × LiveAt (slot_at m') (slot_count m) w g k y) [
        | inl e ↦
            let i = w % 7 in
            let small : i < 7 = omega arith in
            let here : 7 * t + i ≡ w = omega (arith, e) in
            absurd (not-live (slot_at m w) g k x (ap (λ v. slot_at m v) (sym here) ∙ spare i small) l.is)
        | inr nt ↦ (x, record { number = l.number; is = c.others w l.number ns nt ∙ l.is })
      ];
      back = λ w g k x l. elim (cases_eq (w / 7) t) as (λ _. (j : Generation) × ((y : List ℕ) × LiveAt (slot_at m) (slot_count m) (shifted t s w) g j y)) [
        | inl e ↦
            let i = w % 7 in
            let small : i < 7 = omega arith in
            let here : 7 * t + i ≡ w = omega (arith, e) in
            let new = c.slots i small in
            let number : 7 * c.group.number + i ≡ g = ap number_in (sym new.1 ∙ (ap (λ v. slot_at m' v) here ∙ l.is)) in
            let x' = content_bytes (data_block m s) i in (
              c.group.generation,
              (
                x',
                subst (λ v. LiveAt (slot_at m) (slot_count m) v g c.group.generation x') (sym (shifted-there t s w e))
                    (record { number = omega (arith, low_s, small); is = was i small ∙ ap (λ n. Live (record { number = n; generation = c.group.generation }) x') number }),
              ),
            )
        | inr nt ↦ elim (cases_eq (w / 7) s) as (λ _. (j : Generation) × ((y : List ℕ) × LiveAt (slot_at m) (slot_count m) (shifted t s w) g j y)) [
          | inl e ↦
              let i = w % 7 in
              let small : i < 7 = omega arith in
              let here : 7 * s + i ≡ w = omega (arith, e) in
              absurd (not-live (slot_at m' w) g k x (ap (λ v. slot_at m' v) (sym here) ∙ c.freed i small) l.is)
          | inr ns ↦ (k, (x, subst (λ v. LiveAt (slot_at m) (slot_count m) v g k x) (sym (shifted-else t s w nt)) (record { number = l.number; is = sym (c.others w l.number ns nt) ∙ l.is })))
        ]
      ];
      round = λ w g k x l. elim (cases_eq (w / 7) t) as (λ _. shifted s t (shifted t s w) ≡ w) [
        | inl e ↦
            let v = 7 * s + w % 7 in
            let block : v / 7 ≡ s = omega arith in
            let again : 7 * t + v % 7 ≡ w = omega (arith, e) in
            ap (λ a. shifted s t a) (shifted-there t s w e) ∙ (shifted-there s t v block ∙ again)
        | inr nt ↦ elim (cases_eq (w / 7) s) as (λ _. shifted s t (shifted t s w) ≡ w) [
          | inl e ↦
              let i = w % 7 in
              let small : i < 7 = omega arith in
              let here : 7 * s + i ≡ w = omega (arith, e) in
              absurd (not-live (slot_at m' w) g k x (ap (λ v. slot_at m' v) (sym here) ∙ c.freed i small) l.is)
          | inr ns ↦ ap (λ a. shifted s t a) (shifted-else t s w nt) ∙ shifted-else s t w ns
        ]
      ];
      whole = λ w low none.
          let i = w % 7 in
          let small : i < 7 = omega arith in
          elim (cases_eq (w / 7) t) as (λ _. ⊥) [
            | inl e ↦
                let here : 7 * t + i ≡ w = omega (arith, e) in
                let q : 1 ≡ 2 = ap kind_in (sym (c.slots i small).1 ∙ (ap (λ v. slot_at m' v) here ∙ none)) in
                omega (arith, q)
            | inr nt ↦ elim (cases_eq (w / 7) s) as (λ _. ⊥) [
              | inl e ↦
                  let here : 7 * s + i ≡ w = omega (arith, e) in
                  let q : 0 ≡ 2 = ap kind_in (sym (c.freed i small) ∙ (ap (λ v. slot_at m' v) here ∙ none)) in
                  omega (arith, q)
              | inr ns ↦ whole w low (sym (c.others w low ns nt) ∙ none)
            ]
          ];
      blocks = c.blocks;
      groups = c.groups;
    }

-- No sector has two live slots then, and slots and blocks are sound.
pub relocates-single : (s t : ℕ) (m m' : List ℕ) → Relocates s t m m' → IsSingle m → Single (slot_at m') (slot_count m)
relocates-single s t m m' h single = record {
  one = λ a b g j k x y l r.
      let p = h.back a g j x l in
      let q = h.back b g k y r in
      let e : shifted t s a ≡ shifted t s b = single.one (shifted t s a) (shifted t s b) g p.0 q.0 p.1.0 q.1.0 p.1.1 q.1.1 in
      sym (h.round a g j x l) ∙ (ap (λ w. shifted s t w) e ∙ h.round b g k y r);
}

pub relocates-single-at : (s t : ℕ) (m m' : List ℕ) → Relocates s t m m' → IsSingle m → IsSingle m'
relocates-single-at s t m m' h single = subst (λ n. Single (slot_at m') (7 * (block_count n - 4))) (sym h.chip.same_length) (relocates-single s t m m' h single)

relocates-slots : (s t : ℕ) (m m' : List ℕ) → Relocates s t m m' → IsSoundMap m → IsSingle m → SoundSlots (slot_at m') (slot_count m) (sector_count (length m))
relocates-slots s t m m' h sound single =
    let one = relocates-single s t m m' h single in
    record {
      sector = λ a g k x l. let p = h.back a g k x l in sound.slots.sector (shifted t s a) g p.0 p.1.0 p.1.1;
      neighbours = λ a b g j k x y l r other. absurd (other (one.one a b g j k x y l r));
      two = λ a b c g i j k x y z l r o. inl (one.one a b g i j x y l r);
      whole = h.whole;
    }

layout-stays : (m m' : List ℕ) → SameChip m m' → MakesNoGroup m m' → HasOnlySlots m → HasOnlySlots m'
layout-stays m m' chip none only two = alone-kept m m' chip none (only (sym (chip.superblock 8 (omega arith)) ∙ two))

pub relocates-sound : (s t : ℕ) (m m' : List ℕ) → Relocates s t m m' → IsSoundMap m → IsSingle m → IsSoundMap m'
relocates-sound s t m m' h sound single = record {
  slots = subst (λ n. SoundSlots (slot_at m') (7 * (block_count n - 4)) (sector_count n)) (sym h.chip.same_length) (relocates-slots s t m m' h sound single);
  blocks = settled h.blocks;
  groups = record { sectors = apart-single (kind_at m') (slot_at m') (slot_count m') (relocates-single-at s t m m' h single); layout = layout-stays m m' h.chip h.groups sound.groups.layout };
}

-- A sector that no block with its group held isn't held by one now: neither the copy nor any other block became one.
pub relocates-own : (s t : ℕ) (m m' : List ℕ) (g : ℕ) → Relocates s t m m' → is_group (kind_at m t) ≡ false → IsInSlots g m → IsInSlots g m'
relocates-own s t m m' g h spare own w k x here =
    let l = there m m' w g k x h.chip here in
    let low = l.number in
    let inside : w / 7 < data_blocks m = omega (arith, low) in
    elim (cases_eq (w / 7) t) as (λ _. is_group (kind_at m' (w / 7)) ≡ false) [
      | inl e ↦ h.groups (w / 7) inside (ap (λ c. is_group (kind_at m c)) e ∙ spare)
      | inr nt ↦
          let p = h.back w g k x l in
          let was = own (shifted t s w) p.0 p.1.0 p.1.1 in
          h.groups (w / 7) inside (ap (λ v. is_group (kind_at m (v / 7))) (sym (shifted-else t s w nt)) ∙ was)
    ]

-- whether one of the first n slots of a block is live with sector g
abbrev Among : (ℕ → Slot) → ℕ → ℕ → ℕ → Type 0
Among f b g n = (i : ℕ) × ((i < n) × ((k : Generation) × ((x : List ℕ) × (f (7 * b + i) ≡ Live (record { number = g; generation = k }) x))))

abbrev NotAmong : (ℕ → Slot) → ℕ → ℕ → ℕ → Type 0
NotAmong f b g n = (i : ℕ) (k : Generation) (x : List ℕ) → i < n → f (7 * b + i) ≢ Live (record { number = g; generation = k }) x

slot-of : (s : Slot) (g : ℕ) → ((k : Generation) × ((x : List ℕ) × (s ≡ Live (record { number = g; generation = k }) x))) ⊎ ((k : Generation) (x : List ℕ) → s ≢ Live (record { number = g; generation = k }) x)
slot-of Free g = inr (λ k x e. (let q : 0 ≡ 1 = ap kind_in e in omega (arith, q)))
slot-of (Live tag y) g = elim (cases_eq tag.number g) as (λ _. ((k : Generation) × ((x : List ℕ) × (Live tag y ≡ Live (record { number = g; generation = k }) x))) ⊎ ((k : Generation) (x : List ℕ) → Live tag y ≢ Live (record { number = g; generation = k }) x)) [
  | inl same ↦ inl (tag.generation, (y, ap (λ z. Live (record { number = z; generation = tag.generation }) y) same))
  | inr other ↦ inr (λ k x e. other (ap number_in e))
]
slot-of NoGeneration g = inr (λ k x e. (let q : 2 ≡ 1 = ap kind_in e in omega (arith, q)))
slot-of Dead g = inr (λ k x e. (let q : 3 ≡ 1 = ap kind_in e in omega (arith, q)))
slot-of Outside g = inr (λ k x e. (let q : 4 ≡ 1 = ap kind_in e in omega (arith, q)))

among : (f : ℕ → Slot) (b g n : ℕ) → Among f b g n ⊎ NotAmong f b g n
among f b g zero = inr (λ i k x low e. omega (arith, low))
among f b g (suc n) = elim (among f b g n) as (λ _. Among f b g (suc n) ⊎ NotAmong f b g (suc n)) [
  | inl p ↦ (let low = p.1.0 in inl (p.0, (omega (arith, low), p.1.1)))
  | inr none ↦ elim (slot-of (f (7 * b + n)) g) as (λ _. Among f b g (suc n) ⊎ NotAmong f b g (suc n)) [
    | inl here ↦ inl (n, (omega arith, here))
    | inr quiet ↦ inr (λ i k x low e. elim (cases_eq i n) [ inl same ↦ quiet k x (ap (λ j. f (7 * b + j)) (sym same) ∙ e) | inr other ↦ none i k x (omega (arith, low, other)) e ])
  ]
]

-- the holder of a sector that none of block t's slots holds now
held-moves : (s t : ℕ) (m m' : List ℕ) (g : ℕ) (o : Option Held) → Relocates s t m m' → NotAmong (slot_at m') t g 7 → HeldBy o g m → HeldBy o g m'
held-moves s t m m' g None h out none = λ w k x l. (let p = h.back w g k x (there m m' w g k x h.chip l) in none (shifted t s w) p.0 p.1.0 p.1.1)
held-moves s t m m' g (Some o) h out (x, l) = elim (cases_eq (o.slot / 7) s) as (λ _. HeldBy (Some o) g m') [
  | inl e ↦ (let p = h.moved o.slot g o.generation x l e in absurd (out (o.slot % 7) p.0 p.1.0 (omega arith) p.1.1.is))
  | inr ne ↦ (let p = h.elsewhere o.slot g o.generation x l ne in (p.0, back-there m m' o.slot g o.generation p.0 h.chip p.1))
]

pub relocates-table : (s t : ℕ) (m m' : List ℕ) (old new : List LiveSlots) → Relocates s t m m' → t < data_blocks m → IsSoundMap m → IsSingle m → IsTableOf old m → FollowsBlock t old new m' → IsTableOf new m'
relocates-table s t m m' old new h low sound single tabled f =
    let sound' = relocates-sound s t m m' h sound single in
    let single' = relocates-single-at s t m m' h single in
    let size : length new ≡ sector_count (length m') = f.size ∙ (tabled.size ∙ ap (λ n. sector_count n) (sym h.chip.same_length)) in
    named-table new m' size sound' single'
    (λ g in_new. elim (among (slot_at m') t g 7) as (λ _. IsOneAtMost (slice_index_or new g Absent)) [
      | inl p ↦ subst (λ e. IsOneAtMost e) (sym (f.here p.0 (record { number = g; generation = p.1.1.0 }) p.1.1.1.0 p.1.0 p.1.1.1.1)) tt
      | inr out ↦ subst (λ e. IsOneAtMost e) (sym (f.others g (omega (arith, in_new, f.size)) (λ i k x small. out i k x small))) (tabled.single g (omega (arith, in_new, f.size)))
    ])
    (λ g in_new. elim (among (slot_at m') t g 7) as (λ _. HeldBy (holder (slice_index_or new g Absent)) g m') [
      | inl p ↦
          let small = p.1.0 in
          subst (λ e. HeldBy (holder e) g m') (sym (f.here p.0 (record { number = g; generation = p.1.1.0 }) p.1.1.1.0 p.1.0 p.1.1.1.1))
          (p.1.1.1.0, back-there m m' (7 * t + p.0) g p.1.1.0 p.1.1.1.0 h.chip (record { number = omega (arith, low, small); is = p.1.1.1.1 }))
      | inr out ↦ subst (λ e. HeldBy (holder e) g m') (sym (f.others g (omega (arith, in_new, f.size)) (λ i k x small. out i k x small)))
          (held-moves s t m m' g (holder (slice_index_or old g Absent)) h out (table-holder old m g tabled (omega (arith, in_new, f.size))))
    ])
