-- The index of a memory of which one slot was written, or retired.
use Rattle.std.specs.Prelude.{◌⊎◌}
use Rattle.std.proofs.Common.{◌≡◌, ◌≢◌, ℕ, ◌+◌, ◌-◌, ◌*◌, ◌<◌, ◌≤◌, Bool, true, false, List, length, refl, sym, ap, ◌∙◌, subst, arith, inl, inr, if◌then◌else◌}
use Rattle.std.specs.Prelude.{◌/◌, ◌%◌}
use Rattle.std.proofs.lemmas.Bool.{cases_eq, false≢true}
use Rattle.chip_model.specs.Geometry.{IsChipSize, block_count}
use Rattle.nor_layout.specs.declared.header.Tag.{Tag}
use Rattle.sector_slots.specs.Slots.{Slot, Free, Live, NoGeneration, Dead, Outside, slot_at, slot_count, data_blocks, kind_at, raw_slot, counted, is_counted, IsLive, IsSpareIn}
use Rattle.sector_slots.specs.Steps.{OnlyPlace, HoldsTag}
use Rattle.sector_slots.proofs.MachineLaws.{block-data}
use Rattle.sector_slots.proofs.PlaceLaws.{later, later-is, place-others, place-kinds}
use Rattle.sector_stock.specs.declared.index.SlotState.{SlotState}
use Rattle.sector_stock.specs.declared.index.SlotState.TheVariants as states
use Rattle.sector_stock.specs.declared.index.BlockState.{BlockState}
use Rattle.sector_stock.specs.declared.index.Cursors.{Cursors}
use Rattle.sector_stock.specs.Index.{is_free_slot, is_dead, in_block, IsListed, IsIndexOf, IsAhead, IsHighestWhole, IsWholeBlock, IsStocked, Marked, one_dead_more, one_free_fewer}
use Rattle.sector_stock.specs.Index.{Counts, in_bounds, bound_row}
use Rattle.sector_stock.specs.declared.policy.Wanted.{Wanted}
use Rattle.sector_stock.specs.declared.policy.Wanted.TheVariants as wanteds
use Rattle.sector_stock.proofs.IndexLaws.{listed-dead, listed-live, listed-killed}
use Rattle.sector_slots.specs.Blocks.{IsReserveOf, IsAtRest}
use Rattle.sector_stock.specs.Room.{IsOutside, IsSpareBlock}
use Rattle.sector_stock.proofs.Moved.{numbers-in, reserve-is}
use Rattle.sector_stock.proofs.RoomLaws.{spare-block}
use Rattle.sector_stock.proofs.Tallies.{tally-none, tally-full, tally-most, not-both}
use Rattle.sector_stock.specs.Index.{erases_of, AreWithin}
use Rattle.sector_stock.proofs.Even.{even-kept}
use Rattle.sector_stock.proofs.Worn.{counted-live, counted-dead}

-- a free slot of a block, and one that isn't dead, in its numbers
pub free-some : (w : ℕ) (m : List ℕ) (slots : List SlotState) (blocks : List BlockState) (at : Cursors) → IsIndexOf slots blocks at m → w < slot_count m → slot_at m w ≡ Free → 0 < (in_block blocks (w / 7)).free
free-some w m slots blocks at index low free = elim (cases_eq (in_block blocks (w / 7)).free 0) as (λ _. 0 < (in_block blocks (w / 7)).free) [
  | inr ne ↦ omega (arith, ne)
  | inl e ↦
      let c = w / 7 in
      let i = w % 7 in
      let here : 7 * c + i ≡ w = omega arith in
      let count = (index.listed.each_block c (omega (arith, low))).free in
      absurd (not-both (is_free_slot (slot_at m (7 * c + i))) (ap (λ v. is_free_slot (slot_at m v)) here ∙ ap is_free_slot free) (tally-none is_free_slot (slot_at m) c i (sym count ∙ e) (omega arith)))
]

pub dead-room : (w : ℕ) (m : List ℕ) (slots : List SlotState) (blocks : List BlockState) (at : Cursors) → IsIndexOf slots blocks at m → w < slot_count m → IsLive (slot_at m w) → (in_block blocks (w / 7)).dead < 7
dead-room w m slots blocks at index low live =
    let c = w / 7 in
    let i = w % 7 in
    let here : 7 * c + i ≡ w = omega arith in
    let count = (index.listed.each_block c (omega (arith, low))).dead in
    let most = tally-most is_dead (slot_at m) c in
    elim (cases_eq (in_block blocks c).dead 7) as (λ _. (in_block blocks c).dead < 7) [
      | inr ne ↦ omega (arith, ne, count, most)
      | inl e ↦ absurd (not-both (is_dead (slot_at m (7 * c + i))) (tally-full is_dead (slot_at m) c i (sym count ∙ e) (omega arith)) (ap (λ v. is_dead (slot_at m v)) here ∙ ap is_dead live.2))
    ]

-- a slot of a wholly free block is free, or doesn't count
abbrev IsBare : Slot → Type 0
IsBare Free = Unit {0}
IsBare (Live tag x) = ⊥
IsBare NoGeneration = ⊥
IsBare Dead = ⊥
IsBare Outside = Unit {0}

bare-either : (b : Bool) (x : Slot) → x ≡ Free → IsBare (if b then x else Outside)
bare-either true x e = subst (λ a. IsBare a) (sym e) tt
bare-either false x e = tt

spare-bare : (m : List ℕ) (c w : ℕ) → IsSpareIn m c → w / 7 ≡ c → IsBare (slot_at m w)
unfolding counted
spare-bare m c w spare e =
    bare-either (is_counted (kind_at m) (data_blocks m) (w / 7)) (raw_slot m (w / 7) (w % 7)) (ap (λ d. raw_slot m d (w % 7)) e ∙ spare.free (w % 7) (omega arith))

spare-not : (m : List ℕ) (c w : ℕ) (x : Slot) → IsSpareIn m c → slot_at m w ≡ x → (IsBare x → ⊥) → c ≢ w / 7
spare-not m c w x spare is not-bare e = not-bare (subst (λ a. IsBare a) is (spare-bare m c w spare (sym e)))

-- a wholly free block stays one, where the slot lies outside it
spare-kept : (w r : ℕ) (m m' : List ℕ) → OnlyPlace w m m' → r ≢ w / 7 → IsSpareBlock r m → IsSpareBlock r m'
spare-kept w r m m' only other reserve =
    let n : data_blocks m' ≡ data_blocks m = ap (λ k. block_count k - 4) only.only.chip.same_length in
    let low = reserve.number in
    let datas = block-data (w / 7) m m' only.only in
    record {
      number = omega (arith, n, low);
      spare = record { plain = place-kinds w m m' only r low ∙ reserve.spare.plain; free = λ i small. datas.same_slots r i low other ∙ reserve.spare.free i small };
    }

-- the reserve stays, where the slot lies outside it and isn't free any more
reserve-kept : (w r : ℕ) (m m' : List ℕ) → OnlyPlace w m m' → (IsBare (slot_at m' w) → ⊥) → r ≢ w / 7 → IsReserveOf r m → IsReserveOf r m'
reserve-kept w r m m' only now other reserve =
    let n : data_blocks m' ≡ data_blocks m = ap (λ k. block_count k - 4) only.only.chip.same_length in
    let low = reserve.number in
    let datas = block-data (w / 7) m m' only.only in
    record {
      number = omega (arith, n, low);
      spare = record { plain = place-kinds w m m' only r low ∙ reserve.spare.plain; free = λ i small. datas.same_slots r i low other ∙ reserve.spare.free i small };
      highest = λ c inside spare.
          let ne : c ≢ w / 7 = spare-not m' c w (slot_at m' w) spare refl now in
          let here : c < data_blocks m = omega (arith, n, inside) in
          reserve.highest c here (record { plain = sym (place-kinds w m m' only c here) ∙ spare.plain; free = λ i small. sym (datas.same_slots c i here ne) ∙ spare.free i small });
    }

listed-after : (m m' : List ℕ) (slots : List SlotState) (blocks : List BlockState) → length m' ≡ length m → IsListed slots blocks (later m m') (kind_at m') (data_blocks m) → IsListed slots blocks (slot_at m') (kind_at m') (data_blocks m')
listed-after m m' slots blocks e h = subst (λ k. IsListed slots blocks (counted (kind_at m') (raw_slot m') (block_count k - 4)) (kind_at m') (block_count k - 4)) (sym e) h

live-after : (w : ℕ) (m m' : List ℕ) (tag : Tag) (x : List ℕ) → length m' ≡ length m → slot_at m' w ≡ Live tag x → IsLive (later m m' w)
live-after w m m' tag x e h = (tag, x, sym (later-is m m' w e) ∙ h)

live-bare : (x : Slot) → IsLive x → IsBare x → ⊥
live-bare x live bare = subst (λ a. IsBare a) live.2 bare

-- the counts of erases stay
even-live : (w : ℕ) (state : SlotState) (slots slots' : List SlotState) (blocks blocks' : List BlockState) → Marked w state (one_free_fewer (in_block blocks (w / 7))) slots slots' blocks blocks' → AreWithin 32 (length blocks) (erases_of blocks) → AreWithin 32 (length blocks') (erases_of blocks')
even-live w state slots slots' blocks blocks' marked even =
    subst (λ n. AreWithin 32 n (erases_of blocks')) (sym marked.block_size)
    (even-kept 32 (length blocks) (erases_of blocks) (erases_of blocks') (counted-live w (length blocks) state slots slots' blocks blocks' refl marked) even)

even-dead : (w : ℕ) (state : SlotState) (slots slots' : List SlotState) (blocks blocks' : List BlockState) → Marked w state (one_dead_more (in_block blocks (w / 7))) slots slots' blocks blocks' → AreWithin 32 (length blocks) (erases_of blocks) → AreWithin 32 (length blocks') (erases_of blocks')
even-dead w state slots slots' blocks blocks' marked even =
    subst (λ n. AreWithin 32 n (erases_of blocks')) (sym marked.block_size)
    (even-kept 32 (length blocks) (erases_of blocks) (erases_of blocks') (counted-dead w (length blocks) state slots slots' blocks blocks' refl marked) even)

-- a sector was written
pub index-put : (w : ℕ) (tag : Tag) (x m m' : List ℕ) (slots slots' : List SlotState) (blocks blocks' : List BlockState) (at : Cursors) → IsIndexOf slots blocks at m → w < slot_count m → slot_at m w ≡ Free → slot_at m' w ≡ Live tag x
    → OnlyPlace w m m' → at.reserve ≢ w / 7 → Marked w states.Live (one_free_fewer (in_block blocks (w / 7))) slots slots' blocks blocks' → IsAhead blocks' at → IsIndexOf slots' blocks' at m'
index-put w tag x m m' slots slots' blocks blocks' at index low free now only outside marked ahead =
    let e = only.only.chip.same_length in
    record {
      listed = listed-after m m' slots' blocks' e
          (listed-live w (data_blocks m) (slot_at m) (later m m') (kind_at m) (kind_at m') slots slots' blocks blocks' low (place-others w m m' only) (place-kinds w m m' only) free (live-after w m m' tag x e now) marked index.listed);
      ahead = ahead;
      reserve = spare-kept w at.reserve m m' only outside index.reserve;
      highest = λ by. reserve-kept w at.reserve m m' only (live-bare (slot_at m' w) (tag, x, now)) outside (index.highest by);
      even = λ by. even-live w states.Live slots slots' blocks blocks' marked (index.even by);
    }

-- a slot was retired
pub index-retired : (w : ℕ) (m m' : List ℕ) (slots slots' : List SlotState) (blocks blocks' : List BlockState) (at at' : Cursors) → IsIndexOf slots blocks at m → w < slot_count m → IsLive (slot_at m w) → slot_at m' w ≡ Dead
    → OnlyPlace w m m' → Marked w states.Dead (one_dead_more (in_block blocks (w / 7))) slots slots' blocks blocks' → IsAhead blocks' at' → at'.reserve ≡ at.reserve → at'.policy ≡ at.policy → IsIndexOf slots' blocks' at' m'
index-retired w m m' slots slots' blocks blocks' at at' index low live now only marked ahead same policy =
    let e = only.only.chip.same_length in
    let apart = spare-not m at.reserve w (slot_at m w) index.reserve.spare refl (live-bare (slot_at m w) live) in
    record {
      listed = listed-after m m' slots' blocks' e
          (listed-dead w (data_blocks m) (slot_at m) (later m m') (kind_at m) (kind_at m') slots slots' blocks blocks' low (place-others w m m' only) (place-kinds w m m' only) live (sym (later-is m m' w e) ∙ now) marked index.listed);
      ahead = ahead;
      reserve = subst (λ r. IsSpareBlock r m') (sym same) (spare-kept w at.reserve m m' only apart index.reserve);
      highest = λ by. subst (λ r. IsReserveOf r m') (sym same) (reserve-kept w at.reserve m m' only (λ bare. subst (λ a. IsBare a) now bare) apart (index.highest (sym policy ∙ by)));
      even = λ by. even-dead w states.Dead slots slots' blocks blocks' marked (index.even (sym policy ∙ by));
    }

-- a free slot became live in the lists, and then dead
pub marked-killed : (w : ℕ) (slots slots1 slots' : List SlotState) (blocks blocks1 blocks' : List BlockState) → w / 7 < length blocks → Marked w states.Live (one_free_fewer (in_block blocks (w / 7))) slots slots1 blocks blocks1 → Marked w states.Dead (one_dead_more (in_block blocks1 (w / 7))) slots1 slots' blocks1 blocks'
    → Marked w states.Dead (one_dead_more (one_free_fewer (in_block blocks (w / 7)))) slots slots' blocks blocks'
marked-killed w slots slots1 slots' blocks blocks1 blocks' low a b =
    let n = a.block_size in
    let k = a.slot_size in
    record {
      slot_size = b.slot_size ∙ a.slot_size;
      block_size = b.block_size ∙ a.block_size;
      here = b.here;
      others = λ s l ne. b.others s (omega (arith, l, k)) ne ∙ a.others s l ne;
      its_block = b.its_block ∙ ap one_dead_more a.its_block;
      other_blocks = λ c l ne. b.other_blocks c (omega (arith, l, n)) ne ∙ a.other_blocks c l ne;
    }

-- a free slot of a block that isn't wholly free was made dead
pub index-killed : (w : ℕ) (m m' : List ℕ) (slots slots1 slots' : List SlotState) (blocks blocks1 blocks' : List BlockState) (at at' : Cursors) → IsIndexOf slots blocks at m → w < slot_count m → slot_at m w ≡ Free → slot_at m' w ≡ Dead
    → OnlyPlace w m m' → at.reserve ≢ w / 7 → Marked w states.Live (one_free_fewer (in_block blocks (w / 7))) slots slots1 blocks blocks1 → Marked w states.Dead (one_dead_more (in_block blocks1 (w / 7))) slots1 slots' blocks1 blocks'
    → IsAhead blocks' at' → at'.reserve ≡ at.reserve → at'.policy ≡ at.policy → IsIndexOf slots' blocks' at' m'
index-killed w m m' slots slots1 slots' blocks blocks1 blocks' at at' index low free now only apart a b ahead same policy =
    let e = only.only.chip.same_length in
    let n = index.listed.block_size in
    record {
      listed = listed-after m m' slots' blocks' e
          (listed-killed w (data_blocks m) (slot_at m) (later m m') (kind_at m) (kind_at m') slots slots' blocks blocks' low (place-others w m m' only) (place-kinds w m m' only) free (sym (later-is m m' w e) ∙ now)
          (marked-killed w slots slots1 slots' blocks blocks1 blocks' (omega (arith, low, n)) a b) index.listed);
      ahead = ahead;
      reserve = subst (λ r. IsSpareBlock r m') (sym same) (spare-kept w at.reserve m m' only apart index.reserve);
      highest = λ by. subst (λ r. IsReserveOf r m') (sym same) (reserve-kept w at.reserve m m' only (λ bare. subst (λ x. IsBare x) now bare) apart (index.highest (sym policy ∙ by)));
      even = λ by. even-dead w states.Dead slots1 slots' blocks1 blocks' b (even-live w states.Live slots slots1 blocks blocks1 a (index.even (sym policy ∙ by)));
    }

-- a row speaks of no more blocks where one has a free slot less
counts-fewer : (wanted : Wanted) (b : BlockState) → Counts wanted (one_free_fewer b) → Counts wanted b
counts-fewer wanteds.Free b h = omega (arith, h)
counts-fewer (wanteds.Dead count) b h = h
counts-fewer wanteds.Resting b h = tt

-- where the index looks next stays where a free slot becomes live
pub ahead-live : (w : ℕ) (slots slots' : List SlotState) (blocks blocks' : List BlockState) (at : Cursors) → w / 7 < length blocks → Marked w states.Live (one_free_fewer (in_block blocks (w / 7))) slots slots' blocks blocks'
    → 0 < (in_block blocks (w / 7)).free → (in_block blocks (w / 7)).free ≤ 7 → IsAhead blocks at → IsAhead blocks' at
ahead-live w slots slots' blocks blocks' at low marked some most ahead =
    let n = marked.block_size in
    let here = marked.its_block in
    let fewer : (c : ℕ) → c < length blocks → (in_block blocks c).free ≡ 0 → (in_block blocks' c).free ≡ 0 = λ c l z. elim (cases_eq c (w / 7)) as (λ _. (in_block blocks' c).free ≡ 0) [
      | inl e ↦ let y : (in_block blocks (w / 7)).free ≡ 0 = ap (λ a. (in_block blocks a).free) (sym e) ∙ z in absurd (omega (arith, y, some))
      | inr ne ↦ ap (λ b. b.free) (marked.other_blocks c l ne) ∙ z
    ] in
    let dead : (c : ℕ) → c < length blocks → (in_block blocks' c).dead ≡ (in_block blocks c).dead = λ c l. elim (cases_eq c (w / 7)) as (λ _. (in_block blocks' c).dead ≡ (in_block blocks c).dead) [
      | inl e ↦ ap (λ a. (in_block blocks' a).dead) e ∙ (ap (λ b. b.dead) here ∙ ap (λ a. (in_block blocks a).dead) (sym e))
      | inr ne ↦ ap (λ b. b.dead) (marked.other_blocks c l ne)
    ] in
    record {
      cursor = λ c l h other. fewer c (omega (arith, l, n)) (ahead.cursor c (omega (arith, l, n)) h other);
      beyond = λ c l h other. fewer c (omega (arith, l, n)) (ahead.beyond c (omega (arith, l, n)) h other);
      spares = λ c l whole other. elim (cases_eq c (w / 7)) as (λ _. c < at.spares) [
        | inl e ↦
            let f : (in_block blocks (w / 7)).free - 1 ≡ 7 = sym (ap (λ b. b.free) here) ∙ (ap (λ a. (in_block blocks' a).free) (sym e) ∙ whole.1) in
            absurd (omega (arith, f, most))
        | inr ne ↦ ahead.spares c (omega (arith, l, n)) (subst (λ b. IsWholeBlock b) (marked.other_blocks c (omega (arith, l, n)) ne) whole) other
      ];
      within = (let p = ahead.within.0 in omega (arith, p, n), let p = ahead.within.1 in omega (arith, p, n));
      most = λ c l. let e = dead c (omega (arith, l, n)) in let p = ahead.most c (omega (arith, l, n)) in omega (arith, e, p);
      from = λ c l h q. ahead.from c (omega (arith, l, n)) h (sym (dead c (omega (arith, l, n))) ∙ q);
      high = ahead.high;
      worn = λ c l.
          let k = counted-live w (length blocks) states.Live slots slots' blocks blocks' refl marked c (omega (arith, l, n)) in
          let p = ahead.worn c (omega (arith, l, n)) in
          let a = p.0 in
          let b = p.1 in
          (omega (arith, a, k), omega (arith, b, k));
      bounds = λ wanted c l counts. elim (cases_eq c (w / 7)) as (λ _. in_bounds at.bounds (bound_row wanted) c ≤ (in_block blocks' c).erases) [
        | inl e ↦
            let is : in_block blocks' c ≡ one_free_fewer (in_block blocks c) = ap (λ a. in_block blocks' a) e ∙ (here ∙ ap (λ a. one_free_fewer (in_block blocks a)) (sym e)) in
            let p = ahead.bounds wanted c (omega (arith, l, n)) (counts-fewer wanted (in_block blocks c) (subst (λ b. Counts wanted b) is counts)) in
            let q = ap (λ b. b.erases) is in
            omega (arith, p, q)
        | inr ne ↦
            let is = marked.other_blocks c (omega (arith, l, n)) ne in
            let p = ahead.bounds wanted c (omega (arith, l, n)) (subst (λ b. Counts wanted b) is counts) in
            let q = ap (λ b. b.erases) is in
            omega (arith, p, q)
      ];
    }

-- what a store's lists are after a sector was written: the reserve stays, or is another one
pub put-indexed : (w : ℕ) (tag : Tag) (m m' : List ℕ) (slots slots' : List SlotState) (blocks blocks' : List BlockState) (at at' : Cursors) → IsIndexOf slots blocks at m → w < slot_count m
    → slot_at m w ≡ Free → HoldsTag tag (slot_at m' w) → OnlyPlace w m m' → IsOutside w m
    → Marked w states.Live (one_free_fewer (in_block blocks (w / 7))) slots slots' blocks blocks'
    → ((at' ≡ at) × (at.reserve ≢ w / 7)) ⊎ (IsAhead blocks' at' × IsHighestWhole blocks' at'.reserve) → at'.policy ≡ at.policy → IsIndexOf slots' blocks' at' m'
put-indexed w tag m m' slots slots' blocks blocks' at at' index low free now only outside marked after same = elim after as (λ _. IsIndexOf slots' blocks' at' m') [
  | inl stays ↦
      let n = index.listed.block_size in
      let numbers = numbers-in (w / 7) m slots blocks at index (omega (arith, low, n)) in
      subst (λ a. IsIndexOf slots' blocks' a m') (sym stays.0)
      (index-put w tag now.0 m m' slots slots' blocks blocks' at index low free now.1 only stays.1 marked
      (ahead-live w slots slots' blocks blocks' at (omega (arith, low, n)) marked (free-some w m slots blocks at index low free) (omega (arith, numbers)) index.ahead))
  | inr next ↦
      let e = only.only.chip.same_length in
      let n : data_blocks m' ≡ data_blocks m = ap (λ k. block_count k - 4) e in
      let listed = listed-after m m' slots' blocks' e
      (listed-live w (data_blocks m) (slot_at m) (later m m') (kind_at m) (kind_at m') slots slots' blocks blocks' low (place-others w m m' only) (place-kinds w m m' only) free (live-after w m m' tag now.0 e now.1) marked index.listed) in
      let reserve = reserve-is m' slots' blocks' at'.reserve (λ d inside. let here : d < data_blocks m = omega (arith, n, inside) in subst (λ k. IsAtRest k) (sym (place-kinds w m m' only d here)) (outside.rest d here)) listed next.1 in
      record { listed = listed; ahead = next.0; reserve = spare-block at'.reserve m' reserve; highest = λ by. reserve; even = λ by. even-live w states.Live slots slots' blocks blocks' marked (index.even (sym same ∙ by)) }
]

pub retire-indexed : (w : ℕ) (m m' : List ℕ) (slots slots' : List SlotState) (blocks blocks' : List BlockState) (at at' : Cursors) → IsIndexOf slots blocks at m → w < slot_count m
    → IsLive (slot_at m w) → slot_at m' w ≡ Dead → OnlyPlace w m m' → Marked w states.Dead (one_dead_more (in_block blocks (w / 7))) slots slots' blocks blocks'
    → (IsAhead blocks at → IsAhead blocks' at') → at'.reserve ≡ at.reserve → at'.policy ≡ at.policy → IsIndexOf slots' blocks' at' m'
retire-indexed w m m' slots slots' blocks blocks' at at' index low live now only marked ahead same policy =
    index-retired w m m' slots slots' blocks blocks' at at' index low live now only marked (ahead index.ahead) same policy

-- a store whose memory is the same, or of which nothing is known any more but its size
pub stocked-same : (slots : List SlotState) (blocks : List BlockState) (at : Cursors) (indexed : Bool) (m m' : List ℕ) → m' ≡ m → IsStocked slots blocks at indexed m → IsStocked slots blocks at indexed m'
stocked-same slots blocks at indexed m m' e h = subst (λ a. IsStocked slots blocks at indexed a) (sym e) h

pub stocked-lost : (slots slots' : List SlotState) (blocks blocks' : List BlockState) (at at' : Cursors) (indexed : Bool) (m m' : List ℕ) → length m' ≡ length m → length slots' ≡ length slots → length blocks' ≡ length blocks
    → IsStocked slots blocks at indexed m → IsStocked slots' blocks' at' false m'
stocked-lost slots slots' blocks blocks' at at' indexed m m' e f g h = record {
  sized = subst (λ k. IsChipSize k) (sym e) h.sized;
  slots_size = f ∙ (h.slots_size ∙ ap (λ k. 7 * (block_count k - 4)) (sym e));
  blocks_size = g ∙ (h.blocks_size ∙ ap (λ k. block_count k - 4) (sym e));
  index = λ q. absurd (false≢true q);
}

pub stocked-indexed : (slots slots' : List SlotState) (blocks blocks' : List BlockState) (at at' : Cursors) (indexed : Bool) (m m' : List ℕ) → length m' ≡ length m → length slots' ≡ length slots → length blocks' ≡ length blocks
    → IsStocked slots blocks at indexed m → IsIndexOf slots' blocks' at' m' → IsStocked slots' blocks' at' true m'
stocked-indexed slots slots' blocks blocks' at at' indexed m m' e f g h index = record {
  sized = subst (λ k. IsChipSize k) (sym e) h.sized;
  slots_size = f ∙ (h.slots_size ∙ ap (λ k. 7 * (block_count k - 4)) (sym e));
  blocks_size = g ∙ (h.blocks_size ∙ ap (λ k. block_count k - 4) (sym e));
  index = λ q. index;
}
