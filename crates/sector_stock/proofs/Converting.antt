-- A block that is live with a group, once it was converted into slots.
use Rattle.std.proofs.Common.{◌≡◌, ℕ, zero, suc, ◌+◌, ◌-◌, ◌*◌, ◌<◌, ◌≤◌, Bool, true, false, List, [], refl, sym, ap, ◌∙◌, subst, arith, inl, inr, if◌then◌else◌}
use Rattle.std.specs.Prelude.{◌/◌, ◌%◌}
use Rattle.std.proofs.lemmas.Bool.{cases_eq}
use Rattle.chip_model.specs.Geometry.{block_count}
use Rattle.erase_journal.specs.Places.{how_many}
use Rattle.nor_layout.specs.declared.header.Generation.TheVariants as generations
use Rattle.nor_layout.specs.declared.header.Tag.{Tag}
use Rattle.nor_layout.specs.declared.kind.Kind.{Kind}
use Rattle.nor_layout.specs.declared.kind.Kind.TheVariants as kinds
use Rattle.sector_slots.specs.Slots.{Live, group_tag, content_bytes, slot_at, slot_count, data_blocks, data_block, kind_at}
use Rattle.sector_slots.specs.Blocks.{AreSettled}
use Rattle.sector_slots.specs.Copying.{copy_slot, to_copy}
use Rattle.sector_slots.proofs.CopyLaws.{how_many-zero, how_many-suc}
use Rattle.sector_slots.proofs.GroupLaws.{group-slot}
use Rattle.sector_stock.specs.declared.index.SlotState.{SlotState}
use Rattle.sector_stock.specs.declared.index.BlockState.{BlockState}
use Rattle.sector_stock.specs.Room.{HasRoom, IsSpareBlock}
use Rattle.sector_stock.specs.Index.{is_dead, is_live_group, in_block, IsListed, HasNoGroup}
use Rattle.sector_stock.specs.Copy.{bare, IsCopyable, IsCopiedWhole, Copies}
use Rattle.sector_stock.specs.Takes.{dead_slots, live_groups, work_of, HasDead, HasNoGroups, IsLiveGroup, Converts}
use Rattle.sector_stock.proofs.Tags.{bare-live}
use Rattle.sector_stock.proofs.Tallies.{how_many-less, tally-some}
use Rattle.sector_stock.proofs.Moved.{rest-slot, moved-slots, sound-of, SlotsMoved, dead-copy, dead-falls, whole-groups}

plain-group : (k : Kind) (g : Tag) → k ≡ kinds.Group g → k ≡ kinds.Plain → ⊥
plain-group k g e f = let h : true ≡ false = ap is_live_group (sym e ∙ f) in cc

pub convertible : (s t : ℕ) (m : List ℕ) → HasRoom m → IsSpareBlock t m → s < data_blocks m → IsLiveGroup s m → IsCopyable s t m
convertible s t m room reserve low live = record {
  source = low;
  target = reserve.number;
  other = λ e. plain-group (kind_at m s) live.0 live.1 (ap (λ c. kind_at m c) e ∙ reserve.spare.plain);
  rest = room.blocks.rest;
  spare = reserve.spare;
  sound = sound-of m room;
  single = room.single;
}

-- counts of what passes one test, and of what passes another where it passes the first
one-fewer : (a b : Bool) → (b ≡ true → a ≡ true) → (if b then 1 else 0) ≤ (if a then 1 else 0)
one-fewer true true h = omega arith
one-fewer true false h = omega arith
one-fewer false true h = absurd (let e : false ≡ true = h refl in cc)
one-fewer false false h = omega arith

how_many-most : (p q : ℕ → Bool) (n : ℕ) → ((k : ℕ) → k < n → q k ≡ true → p k ≡ true) → how_many q n ≤ how_many p n
how_many-most p q zero h = let a = how_many-zero p in let b = how_many-zero q in omega (arith, a, b)
how_many-most p q (suc n) h =
    let rest = how_many-most p q n (λ k low. h k (omega (arith, low))) in
    let here = one-fewer (p n) (q n) (h n (omega arith)) in
    let a = how_many-suc p n in
    let b = how_many-suc q n in
    omega (arith, rest, here, a, b)

-- no slot is dead that wasn't
dead-most : (s t : ℕ) (m m' : List ℕ) → IsCopyable s t m → data_blocks m' ≡ data_blocks m → SlotsMoved (kind_at m s) s t (data_blocks m) (slot_at m) (slot_at m') → dead_slots m' ≤ dead_slots m
dead-most s t m m' h n moved = subst (λ k. how_many (λ w. is_dead (slot_at m' w)) (7 * k) ≤ dead_slots m) (sym n)
    (how_many-most (λ w. is_dead (slot_at m w)) (λ w. is_dead (slot_at m' w)) (slot_count m) (λ w low dead.
    let i = w % 7 in
    let tiny : i < 7 = omega arith in
    elim (cases_eq (w / 7) t) as (λ _. is_dead (slot_at m w) ≡ true) [
      | inl e ↦
          let here : 7 * t + i ≡ w = omega (arith, e) in
          let none = dead-copy (to_copy (kind_at m s) (slot_at m (7 * s + i))) (slot_at m' (7 * t + i)) (moved.target i tiny) in
          let q : true ≡ false = sym dead ∙ (ap (λ v. is_dead (slot_at m' v)) (sym here) ∙ none) in
          cc
      | inr nt ↦ elim (cases_eq (w / 7) s) as (λ _. is_dead (slot_at m w) ≡ true) [
        | inl e ↦
            let here : 7 * s + i ≡ w = omega (arith, e) in
            let q : true ≡ false = sym dead ∙ (ap (λ v. is_dead (slot_at m' v)) (sym here) ∙ ap is_dead (moved.source i tiny)) in
            cc
        | inr ns ↦ ap is_dead (sym (moved.others w low ns nt)) ∙ dead
      ]
    ]))

-- a copying makes no block live with a group
groups-most : (s t : ℕ) (m m' : List ℕ) → data_blocks m' ≡ data_blocks m → IsCopiedWhole s t m m' → live_groups m' ≤ live_groups m
groups-most s t m m' n c = subst (λ k. how_many (λ d. is_live_group (kind_at m' d)) k ≤ live_groups m) (sym n)
    (how_many-most (λ d. is_live_group (kind_at m d)) (λ d. is_live_group (kind_at m' d)) (data_blocks m) (λ d low is.
    elim (cases_eq d t) as (λ _. is_live_group (kind_at m d) ≡ true) [
      | inl e ↦ (let q : true ≡ false = sym is ∙ (ap (λ a. is_live_group (kind_at m' a)) e ∙ ap is_live_group c.settled) in cc)
      | inr nt ↦ elim (cases_eq d s) as (λ _. is_live_group (kind_at m d) ≡ true) [
        | inl e ↦ (let q : true ≡ false = sym is ∙ (ap (λ a. is_live_group (kind_at m' a)) e ∙ ap is_live_group c.erased.plain) in cc)
        | inr ns ↦ ap is_live_group (sym (c.same_kind d low ns nt)) ∙ is
      ]
    ]))

-- so where a block with a dead slot was copied, less is left to be tidied
pub work-falls : (s t : ℕ) (m m' : List ℕ) → HasRoom m → AreSettled m' → HasDead s m → IsSpareBlock t m → IsCopiedWhole s t m m' → work_of m' < work_of m
work-falls s t m m' room settled-now most reserve exact =
    let dead = dead-falls s t m m' room settled-now most reserve exact in
    let groups = groups-most s t m m' (ap (λ k. block_count k - 4) exact.same_length) exact in
    omega (arith, dead, groups)

-- and where any block was, no more
pub work-most : (s t : ℕ) (m m' : List ℕ) → HasRoom m → IsCopyable s t m → Copies s t m m' → work_of m' ≤ work_of m
work-most s t m m' room h c =
    let n : data_blocks m' ≡ data_blocks m = ap (λ k. block_count k - 4) c.chip.same_length in
    let dead = dead-most s t m m' h n (moved-slots s t m m' room.blocks.rest c.blocks.rest h.source h.target c.slots) in
    let groups = groups-most s t m m' n c.slots in
    omega (arith, dead, groups)

-- a block that is live with a group
pub group-of : (k : Kind) → is_live_group k ≡ true → (g : Tag) × (k ≡ kinds.Group g)
group-of kinds.Plain e = absurd (grind (arith, e))
group-of kinds.Void e = absurd (grind (arith, e))
group-of (kinds.Committed b) e = absurd (grind (arith, e))
group-of kinds.Settled e = absurd (grind (arith, e))
group-of (kinds.Group tag) e = (tag, refl)
group-of kinds.DeadGroup e = absurd (grind (arith, e))
group-of kinds.SpoiltGroup e = absurd (grind (arith, e))
group-of kinds.Unknown e = absurd (grind (arith, e))

pub group-listed : (m : List ℕ) (slots : List SlotState) (blocks : List BlockState) (c : ℕ) → IsListed slots blocks (slot_at m) (kind_at m) (data_blocks m) → c < data_blocks m → (in_block blocks c).group ≡ true → IsLiveGroup c m
group-listed m slots blocks c listed low is = group-of (kind_at m c) (sym (listed.each_block c low).group ∙ is)

pub other-listed : (m : List ℕ) (slots : List SlotState) (blocks : List BlockState) (c : ℕ) → IsListed slots blocks (slot_at m) (kind_at m) (data_blocks m) → c < data_blocks m → (in_block blocks c).group ≡ false → is_live_group (kind_at m c) ≡ false
other-listed m slots blocks c listed low is = sym (listed.each_block c low).group ∙ is

pub no-groups : (m : List ℕ) (slots : List SlotState) (blocks : List BlockState) → IsListed slots blocks (slot_at m) (kind_at m) (data_blocks m) → HasNoGroup blocks → HasNoGroups m
no-groups m slots blocks listed none c low = let n = listed.block_size in other-listed m slots blocks c listed low (none c (omega (arith, n, low)))

-- one block fewer is live with a group
groups-fall : (s t : ℕ) (m m' : List ℕ) → IsCopyable s t m → IsLiveGroup s m → data_blocks m' ≡ data_blocks m → Copies s t m m' → live_groups m' < live_groups m
groups-fall s t m m' h live n c = subst (λ k. how_many (λ d. is_live_group (kind_at m' d)) k < live_groups m) (sym n)
    (how_many-less (λ d. is_live_group (kind_at m d)) (λ d. is_live_group (kind_at m' d)) (data_blocks m) s (λ d low is.
    elim (cases_eq d t) as (λ _. is_live_group (kind_at m d) ≡ true) [
      | inl e ↦ (let q : true ≡ false = sym is ∙ (ap (λ a. is_live_group (kind_at m' a)) e ∙ ap is_live_group c.slots.settled) in cc)
      | inr nt ↦ elim (cases_eq d s) as (λ _. is_live_group (kind_at m d) ≡ true) [
        | inl e ↦ ap (λ a. is_live_group (kind_at m a)) e ∙ ap is_live_group live.1
        | inr ns ↦ ap is_live_group (sym (c.slots.same_kind d low ns nt)) ∙ is
      ]
    ])
    h.source (ap is_live_group live.1) (ap is_live_group c.slots.erased.plain))

pub converts-into : (s t : ℕ) (m m' : List ℕ) → HasRoom m → IsSpareBlock t m → s < data_blocks m → IsLiveGroup s m → Copies s t m m' → Converts s t m m'
converts-into s t m m' room reserve low live h =
    let g = live.0 in
    let rest = room.blocks.rest in
    let can = convertible s t m room reserve low live in
    let n : data_blocks m' ≡ data_blocks m = ap (λ k. block_count k - 4) h.chip.same_length in
    let moved = moved-slots s t m m' rest h.blocks.rest low reserve.number h.slots in
    let dead = dead-most s t m m' can n moved in
    let groups = groups-fall s t m m' can live n h in
    record {
      group = g;
      was = live.1;
      source = low;
      target = reserve;
      chip = h.chip;
      slots = λ i small.
          let x = content_bytes (data_block m s) i in
          let tag : Tag = record { number = 7 * g.number + i; generation = generations.Zero } in
          let old : slot_at m (7 * s + i) ≡ Live (group_tag g i) x = rest-slot m s i rest low small ∙ group-slot (data_block m s) i g live.1 in
          let copied : to_copy (kind_at m s) (slot_at m (7 * s + i)) ≡ Live tag x = ap (λ a. to_copy (kind_at m s) a) old ∙ ap (λ k. to_copy k (Live (group_tag g i) x)) live.1 in
          let p = bare-live (slot_at m' (7 * t + i)) tag [] (moved.target i small ∙ ap (λ a. copy_slot (bare a)) copied) in
          (p.0, p.1);
      freed = moved.source;
      others = moved.others;
      blocks = h.blocks;
      groups = whole-groups s t m m' h.slots;
      erased = h.slots.erased;
      fewer = omega (arith, dead, groups);
      sectors = h.sectors;
      clean = h.clean;
    }

-- a dead slot, or a block that is live with a group, is work
pub dead-work : (s : ℕ) (m : List ℕ) → HasDead s m → 0 < work_of m
dead-work s m h =
    let d = tally-some is_dead (slot_at m) s h.some in
    let low = h.number in
    let small = d.1.0 in
    let some = how_many-less (λ w. is_dead (slot_at m w)) (λ w. false) (slot_count m) (7 * s + d.0) (λ k inside q. absurd (let e : false ≡ true = q in cc)) (omega (arith, low, small)) d.1.1 refl in
    omega (arith, some)

pub group-work : (c : ℕ) (m : List ℕ) → c < data_blocks m → IsLiveGroup c m → 0 < work_of m
group-work c m low live =
    let some = how_many-less (λ d. is_live_group (kind_at m d)) (λ d. false) (data_blocks m) c (λ k inside q. absurd (let e : false ≡ true = q in cc)) low (ap is_live_group live.1) refl in
    omega (arith, some)
