-- The slots, and the index, once a block was copied into the reserve.
use Rattle.std.proofs.Common.{◌≡◌, ◌≢◌, ℕ, ◌+◌, ◌-◌, ◌*◌, ◌<◌, ◌≤◌, true, false, List, [], length, refl, sym, ap, ◌∙◌, subst, arith, inl, inr, if◌then◌else◌}
use Rattle.std.specs.Prelude.{◌/◌, ◌%◌}
use Rattle.std.proofs.lemmas.Bool.{cases_eq, false≢true}
use Rattle.chip_model.specs.Geometry.{block_count}
use Rattle.erase_journal.specs.Places.{how_many}
use Rattle.nor_layout.specs.declared.header.Generation.{Generation}
use Rattle.nor_layout.specs.declared.header.Tag.{Tag}
use Rattle.nor_layout.specs.declared.kind.Kind.{Kind}
use Rattle.nor_layout.specs.declared.kind.Kind.TheVariants as kinds
use Rattle.sector_slots.specs.Slots.{Slot, Free, Live, NoGeneration, Dead, Outside, slot_at, slot_count, data_blocks, data_block, kind_at, raw_slot, is_group, is_void, IsSpareIn}
use Rattle.sector_slots.specs.Blocks.{AreAtRest, AreSettled, settled, IsReserveOf}
use Rattle.sector_slots.specs.Copying.{HoldsNothing, copy_slot, copied_tag, to_copy}
use Rattle.sector_slots.proofs.GroupLaws.{group-slot, apart-single}
use Rattle.sector_slots.proofs.CopyLaws.{at-rest-copies, at-rest-counts, copies-none, counted-in, shifted-there, shifted-else, quiet-live, IsWhole}
use Rattle.sector_slots.specs.Copying.{shifted}
use Rattle.sector_slots.specs.Sectors.{LiveAt, IsSoundMap}
use Rattle.sector_stock.specs.declared.index.SlotState.{SlotState}
use Rattle.sector_stock.specs.declared.index.BlockState.{BlockState}
use Rattle.sector_stock.specs.declared.index.Cursors.{Cursors}
use Rattle.sector_stock.specs.Index.{state_of, is_free_slot, is_dead, is_plain, is_live_group, tally, Tallies, in_block, in_slots, IsListed, IsIndexOf, copied_state, Shifted, BlocksMoved, IsHighestWhole, IsNextReserve, IsWholeBlock, IsAhead, IsMostDead, IsLowestDead, HasNoDead, erases_of, MayWear}
use Rattle.sector_stock.specs.declared.policy.Policy.{Policy}
use Rattle.sector_stock.specs.declared.policy.Policy.TheVariants as policies
use Rattle.sector_stock.specs.Policies.{IsInUse}
use Rattle.sector_stock.proofs.Even.{even-moved}
use Rattle.sector_stock.specs.Room.{HasRoom, HasNoneDead, HasNoneFree, IsSpareBlock}
use Rattle.sector_stock.proofs.RoomLaws.{settled-inside}
use Rattle.sector_stock.specs.Copy.{bare, IsCopiedWhole, IsCopyable, Copies}
use Rattle.sector_stock.proofs.Tags.{bare-live, same-tag, to_copy-same}
use Rattle.sector_stock.specs.Takes.{HasDead, HasMostDead, HasFewerBelow, MovesInto, MakesNoGroup, CopiesInto, dead_slots}
use Rattle.sector_stock.proofs.Tallies.{free-is, dead-is, tally-some, tally-none, tally-fails, tally-all, tally-full, tally-same, tally-both, how_many-sum, how_many-less, not-both}

-- where no copying goes on each slot counts
pub rest-slot : (m : List ℕ) (c i : ℕ) → AreAtRest (kind_at m) (data_blocks m) → c < data_blocks m → i < 7 → slot_at m (7 * c + i) ≡ raw_slot m c i
rest-slot m c i rest low small =
    let w = 7 * c + i in
    let block : w / 7 ≡ c = omega (arith, small) in
    let place : w % 7 ≡ i = omega (arith, small) in
    counted-in (kind_at m) (raw_slot m) (data_blocks m) w (ap (λ d. is_void (kind_at m d)) block ∙ at-rest-counts (kind_at m c) (rest c low))
    (copies-none (kind_at m) (data_blocks m) (w / 7) (λ d h. at-rest-copies (w / 7 + 4) (kind_at m d) (rest d h)))
    ∙ (ap (λ d. raw_slot m d (w % 7)) block ∙ ap (λ j. raw_slot m c j) place)

-- the slots of n blocks, once block s was copied into block t
pub record SlotsMoved (k : Kind) (s t n : ℕ) (f f' : ℕ → Slot) : Type 0 where
  pub target : (i : ℕ) → i < 7 → bare (f' (7 * t + i)) ≡ copy_slot (bare (to_copy k (f (7 * s + i))))
  pub source : (i : ℕ) → i < 7 → f' (7 * s + i) ≡ Free
  pub others : (w : ℕ) → w < 7 * n → w / 7 ≢ s → w / 7 ≢ t → f' w ≡ f w

pub moved-slots : (s t : ℕ) (m m' : List ℕ) → AreAtRest (kind_at m) (data_blocks m) → AreAtRest (kind_at m') (data_blocks m') → s < data_blocks m → t < data_blocks m → IsCopiedWhole s t m m' → SlotsMoved (kind_at m s) s t (data_blocks m) (slot_at m) (slot_at m')
moved-slots s t m m' rest rest' ls lt h =
    let n : data_blocks m' ≡ data_blocks m = ap (λ k. block_count k - 4) h.same_length in
    record {
      target = λ i low. ap bare (rest-slot m' t i rest' (omega (arith, n, lt)) low) ∙ (h.copied i low ∙ ap (λ a. copy_slot (bare (to_copy (kind_at m s) a))) (sym (rest-slot m s i rest ls low)));
      source = λ i low. rest-slot m' s i rest' (omega (arith, n, ls)) low ∙ h.erased.free i low;
      others = λ w low ns nt.
          let c = w / 7 in
          let i = w % 7 in
          let here : 7 * c + i ≡ w = omega arith in
          let inside : c < data_blocks m = omega (arith, low) in
          subst (λ v. slot_at m' v ≡ slot_at m v) here
          (rest-slot m' c i rest' (omega (arith, inside, n)) (omega arith) ∙ (h.same_slots c i inside ns nt ∙ sym (rest-slot m c i rest inside (omega arith))));
    }

-- what the index says of a slot doesn't depend on its content
bare-state : (x : Slot) → state_of x ≡ state_of (bare x)
bare-state Free = refl
bare-state (Live tag y) = refl
bare-state NoGeneration = refl
bare-state Dead = refl
bare-state Outside = refl

bare-free : (x : Slot) → is_free_slot x ≡ is_free_slot (bare x)
bare-free Free = refl
bare-free (Live tag y) = refl
bare-free NoGeneration = refl
bare-free Dead = refl
bare-free Outside = refl

bare-dead : (x : Slot) → is_dead x ≡ is_dead (bare x)
bare-dead Free = refl
bare-dead (Live tag y) = refl
bare-dead NoGeneration = refl
bare-dead Dead = refl
bare-dead Outside = refl

abbrev IsOpen : Slot → Type 0
IsOpen Free = Unit {0}
IsOpen (Live tag content) = ⊥
IsOpen NoGeneration = ⊥
IsOpen Dead = ⊥
IsOpen Outside = ⊥

bare-is_free : (x : Slot) → bare x ≡ Free → x ≡ Free
bare-is_free Free e = refl
bare-is_free (Live tag y) e = absurd (subst (λ a. IsOpen a) (sym e) tt)
bare-is_free NoGeneration e = absurd (subst (λ a. IsOpen a) (sym e) tt)
bare-is_free Dead e = absurd (subst (λ a. IsOpen a) (sym e) tt)
bare-is_free Outside e = absurd (subst (λ a. IsOpen a) (sym e) tt)

-- a slot and its copy
state-copy : (k : Kind) (x y : Slot) → x ≢ NoGeneration → x ≢ Outside → bare y ≡ copy_slot (bare (to_copy k x)) → copied_state (state_of x) ≡ state_of y
state-copy k Free y a b e = sym (bare-state y ∙ ap state_of e)
state-copy k (Live tag z) y a b e = sym (bare-state y ∙ ap state_of e)
state-copy k NoGeneration y a b e = absurd (a refl)
state-copy k Dead y a b e = sym (bare-state y ∙ ap state_of e)
state-copy k Outside y a b e = absurd (b refl)

free-copy : (k : Kind) (x : Slot) → x ≢ NoGeneration → x ≢ Outside → (if is_free_slot (copy_slot (bare (to_copy k x))) then 1 else 0) ≡ (if is_free_slot x then 1 else 0) + (if is_dead x then 1 else 0)
free-copy k Free a b = omega arith
free-copy k (Live tag y) a b = omega arith
free-copy k NoGeneration a b = absurd (a refl)
free-copy k Dead a b = omega arith
free-copy k Outside a b = absurd (b refl)

none-dead : (x : Slot) → is_dead (copy_slot x) ≡ false
none-dead Free = refl
none-dead (Live tag y) = refl
none-dead NoGeneration = refl
none-dead Dead = refl
none-dead Outside = refl

pub dead-copy : (x y : Slot) → bare y ≡ copy_slot (bare x) → is_dead y ≡ false
dead-copy x y e = bare-dead y ∙ (ap is_dead e ∙ none-dead (bare x))

-- the tallies of the two blocks
target-free : (k : Kind) (s t n : ℕ) (f f' : ℕ → Slot) → SlotsMoved k s t n f f' → s < n → ((w : ℕ) → w < 7 * n → f w ≢ NoGeneration) → ((w : ℕ) → w < 7 * n → f w ≢ Outside) → tally is_free_slot f' t ≡ tally is_free_slot f s + tally is_dead f s
unfolding tally
target-free k s t n f f' h low whole inside = how_many-sum (λ i. is_free_slot (f (7 * s + i))) (λ i. is_dead (f (7 * s + i))) (λ i. is_free_slot (f' (7 * t + i))) 7
    (λ i small. ap (λ b. if b then 1 else 0) (bare-free (f' (7 * t + i)) ∙ ap is_free_slot (h.target i small)) ∙ free-copy k (f (7 * s + i)) (whole (7 * s + i) (omega (arith, low, small))) (inside (7 * s + i) (omega (arith, low, small))))

pub listed-moved : (k : Kind) (s t n : ℕ) (f f' : ℕ → Slot) (kind kind' : ℕ → Kind) (slots slots' : List SlotState) (blocks blocks' : List BlockState) → s < n → t < n → SlotsMoved k s t n f f'
    → ((w : ℕ) → w < 7 * n → f w ≢ NoGeneration) → ((w : ℕ) → w < 7 * n → f w ≢ Outside) → ((d : ℕ) → d < n → d ≢ s → d ≢ t → kind' d ≡ kind d) → kind' s ≡ kinds.Plain → kind' t ≡ kinds.Settled
    → Shifted 7 s t slots slots' → BlocksMoved s t blocks blocks' → IsListed slots blocks f kind n → IsListed slots' blocks' f' kind' n
listed-moved k s t n f f' kind kind' slots slots' blocks blocks' ls lt h whole inside same plain settled-now shift moved listed =
    let ss = listed.slot_size in
    let bs = listed.block_size in
    record {
      slot_size = shift.size ∙ ss;
      block_size = moved.size ∙ bs;
      each_slot = λ w low.
          let c = w / 7 in
          let i = w % 7 in
          let small : i < 7 = omega arith in
          elim (cases_eq c t) as (λ _. in_slots slots' w ≡ state_of (f' w)) [
            | inl e ↦
                let here : 7 * t + i ≡ w = omega (arith, e) in
                let from : 7 * s + i < 7 * n = omega (arith, ls, small) in
                subst (λ v. in_slots slots' v ≡ state_of (f' v)) here
                (shift.target i small ∙ (ap copied_state (listed.each_slot (7 * s + i) from) ∙ state-copy k (f (7 * s + i)) (f' (7 * t + i)) (whole (7 * s + i) from) (inside (7 * s + i) from) (h.target i small)))
            | inr nt ↦ elim (cases_eq c s) as (λ _. in_slots slots' w ≡ state_of (f' w)) [
              | inl e ↦
                  let here : 7 * s + i ≡ w = omega (arith, e) in
                  subst (λ v. in_slots slots' v ≡ state_of (f' v)) here (shift.source i small ∙ ap state_of (sym (h.source i small)))
              | inr ns ↦ shift.others w (omega (arith, low, ss)) (λ j tiny. (λ q. nt (omega (arith, q, tiny)), λ q. ns (omega (arith, q, tiny)))) ∙ (listed.each_slot w low ∙ ap state_of (sym (h.others w low ns nt)))
            ]
          ];
      each_block = λ c low. elim (cases_eq c t) as (λ _. Tallies (in_block blocks' c) f' kind' c) [
        | inl e ↦
            let old = listed.each_block s ls in
            let fs = old.free in
            let ds = old.dead in
            let ft = target-free k s t n f f' h ls whole inside in
            subst (λ d. Tallies (in_block blocks' d) f' kind' d) (sym e) (subst (λ b. Tallies b f' kind' t) (sym moved.target) (record {
              free = omega (arith, fs, ds, ft);
              dead = sym (tally-fails is_dead f' t (λ i small. dead-copy (to_copy k (f (7 * s + i))) (f' (7 * t + i)) (h.target i small)));
              plain = sym (ap is_plain settled-now);
              group = sym (ap is_live_group settled-now);
            }))
        | inr nt ↦ elim (cases_eq c s) as (λ _. Tallies (in_block blocks' c) f' kind' c) [
          | inl e ↦ subst (λ d. Tallies (in_block blocks' d) f' kind' d) (sym e) (subst (λ b. Tallies b f' kind' s) (sym moved.source) (record {
            free = sym (tally-all is_free_slot f' s (λ i small. ap is_free_slot (h.source i small)));
            dead = sym (tally-fails is_dead f' s (λ i small. ap is_dead (h.source i small)));
            plain = sym (ap is_plain plain);
            group = sym (ap is_live_group plain);
          }))
          | inr ns ↦
              let old = listed.each_block c low in
              let each : (i : ℕ) → i < 7 → f' (7 * c + i) ≡ f (7 * c + i) = λ i small. h.others (7 * c + i) (omega (arith, low, small)) (λ q. ns (omega (arith, q, small))) (λ q. nt (omega (arith, q, small))) in
              subst (λ b. Tallies b f' kind' c) (sym (moved.others c (omega (arith, low, bs)) ns nt)) (record {
                free = old.free ∙ sym (tally-same is_free_slot f f' c each);
                dead = old.dead ∙ sym (tally-same is_dead f f' c each);
                plain = old.plain ∙ sym (ap is_plain (same c low ns nt));
                group = old.group ∙ sym (ap is_live_group (same c low ns nt));
              })
        ]
      ];
    }

-- a wholly free block of the index is one of the memory, and the other way round
plain-is : (k : Kind) → is_plain k ≡ true → k ≡ kinds.Plain
plain-is kinds.Plain e = refl
plain-is kinds.Void e = absurd (grind (arith, e))
plain-is (kinds.Committed b) e = absurd (grind (arith, e))
plain-is kinds.Settled e = absurd (grind (arith, e))
plain-is (kinds.Group tag) e = absurd (grind (arith, e))
plain-is kinds.DeadGroup e = absurd (grind (arith, e))
plain-is kinds.SpoiltGroup e = absurd (grind (arith, e))
plain-is kinds.Unknown e = absurd (grind (arith, e))

pub whole-spare : (m : List ℕ) (slots : List SlotState) (blocks : List BlockState) (c : ℕ) → AreAtRest (kind_at m) (data_blocks m) → IsListed slots blocks (slot_at m) (kind_at m) (data_blocks m) → c < data_blocks m → IsWholeBlock (in_block blocks c) → IsSpareIn m c
whole-spare m slots blocks c rest listed low whole =
    let t = listed.each_block c low in
    record {
      plain = plain-is (kind_at m c) (sym t.plain ∙ whole.0);
      free = λ i small. sym (rest-slot m c i rest low small) ∙ free-is (slot_at m (7 * c + i)) (tally-full is_free_slot (slot_at m) c i (sym t.free ∙ whole.1) small);
    }

pub spare-whole : (m : List ℕ) (slots : List SlotState) (blocks : List BlockState) (c : ℕ) → AreAtRest (kind_at m) (data_blocks m) → IsListed slots blocks (slot_at m) (kind_at m) (data_blocks m) → c < data_blocks m → IsSpareIn m c → IsWholeBlock (in_block blocks c)
spare-whole m slots blocks c rest listed low spare =
    let t = listed.each_block c low in
    (t.plain ∙ ap is_plain spare.plain, t.free ∙ tally-all is_free_slot (slot_at m) c (λ i small. ap is_free_slot (rest-slot m c i rest low small ∙ spare.free i small)))

pub reserve-is : (m : List ℕ) (slots : List SlotState) (blocks : List BlockState) (r : ℕ) → AreAtRest (kind_at m) (data_blocks m) → IsListed slots blocks (slot_at m) (kind_at m) (data_blocks m) → IsHighestWhole blocks r → IsReserveOf r m
reserve-is m slots blocks r rest listed h =
    let n = listed.block_size in
    let low = h.number in
    record {
      number = omega (arith, low, n);
      spare = whole-spare m slots blocks r rest listed (omega (arith, low, n)) h.whole;
      highest = λ c inside spare. h.highest c (omega (arith, inside, n)) (spare-whole m slots blocks c rest listed inside spare);
    }

pub next-spare : (p : Policy) (m : List ℕ) (slots : List SlotState) (blocks : List BlockState) (r : ℕ) → AreAtRest (kind_at m) (data_blocks m) → IsListed slots blocks (slot_at m) (kind_at m) (data_blocks m) → IsNextReserve p blocks r → IsSpareBlock r m
next-spare p m slots blocks r rest listed h =
    let n = listed.block_size in
    let low = h.number in
    record { number = omega (arith, low, n); spare = whole-spare m slots blocks r rest listed (omega (arith, low, n)) h.whole }

-- the index of the memory after the copy
pub index-moved : (s : ℕ) (m m' : List ℕ) (slots slots' : List SlotState) (blocks blocks' : List BlockState) (at new : Cursors) → HasRoom m → s < data_blocks m → IsCopiedWhole s at.reserve m m' → AreSettled m'
    → IsIndexOf slots blocks at m → Shifted 7 s at.reserve slots slots' → BlocksMoved s at.reserve blocks blocks' → IsAhead blocks' new → IsNextReserve at.policy blocks' new.reserve → new.policy ≡ at.policy
    → (in_block blocks s).erases < 65536 → (at.policy ≡ policies.Level → MayWear s (length blocks) (erases_of blocks)) → IsIndexOf slots' blocks' new m'
index-moved s m m' slots slots' blocks blocks' at new room low exact settled-now index shift moved ahead next same fits may =
    let t = at.reserve in
    let lt = index.reserve.number in
    let n : data_blocks m' ≡ data_blocks m = ap (λ k. block_count k - 4) exact.same_length in
    let f = moved-slots s t m m' room.blocks.rest settled-now.rest low lt exact in
    let listed = listed-moved (kind_at m s) s t (data_blocks m) (slot_at m) (slot_at m') (kind_at m) (kind_at m') slots slots' blocks blocks' low lt f (λ w h. room.whole w h) (λ w h. settled-inside m room w h) exact.same_kind exact.erased.plain
    exact.settled shift moved index.listed in
    let here : IsListed slots' blocks' (slot_at m') (kind_at m') (data_blocks m') = subst (λ k. IsListed slots' blocks' (slot_at m') (kind_at m') k) (sym n) listed in
    record { listed = here; ahead = ahead; reserve = next-spare at.policy m' slots' blocks' new.reserve settled-now.rest here next; highest = λ by. reserve-is m' slots' blocks' new.reserve settled-now.rest here (next.highest (sym same ∙ by)); even = λ by. (let p = sym same ∙ by in even-moved s t blocks blocks' fits moved (may p) (index.even p)) }

-- What the copying needs, where the index says which block has dead slots.
pub sound-of : (m : List ℕ) → HasRoom m → IsSoundMap m
sound-of m room = record {
  slots = record {
    sector = room.sector;
    neighbours = λ s t g j k x y a b other. absurd (other (room.single.one s t g j k x y a b));
    two = λ r s t g i j k x y z a b c. inl (room.single.one r s g i j x y a b);
    whole = room.whole;
  };
  blocks = settled room.blocks;
  groups = record { sectors = apart-single (kind_at m) (slot_at m) (slot_count m) room.single; layout = room.layout };
}

-- a dead slot of block s: it isn't the reserve
dead-other : (s t i : ℕ) (m : List ℕ) → AreAtRest (kind_at m) (data_blocks m) → s < data_blocks m → IsSpareIn m t → i < 7 → is_dead (slot_at m (7 * s + i)) ≡ true → s ≢ t
dead-other s t i m rest low spare small dead e =
    let free : slot_at m (7 * s + i) ≡ Free = rest-slot m s i rest low small ∙ (ap (λ c. raw_slot m c i) e ∙ spare.free i small) in
    not-both (is_dead (slot_at m (7 * s + i))) dead (ap is_dead free)

pub most-dead-in : (s : ℕ) (m : List ℕ) (slots : List SlotState) (blocks : List BlockState) (at : Cursors) → IsIndexOf slots blocks at m → IsMostDead blocks s → HasMostDead s m
most-dead-in s m slots blocks at index h =
    let n = index.listed.block_size in
    let low = h.0 in
    let here : s < data_blocks m = omega (arith, low, n) in
    let own = (index.listed.each_block s here).dead in
    let some = h.1 in
    record {
      number = here;
      some = omega (arith, some, own);
      most = λ c inside. let e = (index.listed.each_block c inside).dead in let q = h.2 c (omega (arith, inside, n)) in omega (arith, q, e, own);
    }

pub fewer-below-in : (s : ℕ) (m : List ℕ) (slots : List SlotState) (blocks : List BlockState) (at : Cursors) → IsIndexOf slots blocks at m → s < length blocks → IsLowestDead blocks s → HasFewerBelow s m
fewer-below-in s m slots blocks at index low h c below =
    let n = index.listed.block_size in
    let here : s < data_blocks m = omega (arith, low, n) in
    let own = (index.listed.each_block s here).dead in
    let e = (index.listed.each_block c (omega (arith, below, here))).dead in
    let q = h c below in
    omega (arith, q, e, own)

pub dead-in : (s : ℕ) (m : List ℕ) (slots : List SlotState) (blocks : List BlockState) (at : Cursors) → IsIndexOf slots blocks at m → IsMostDead blocks s → HasDead s m
dead-in s m slots blocks at index h = let most = most-dead-in s m slots blocks at index h in record { number = most.number; some = most.some }

pub none-dead-in : (m : List ℕ) (slots : List SlotState) (blocks : List BlockState) (at : Cursors) → IsIndexOf slots blocks at m → HasNoDead blocks → HasNoneDead m
none-dead-in m slots blocks at index h w low e =
    let n = index.listed.block_size in
    let c = w / 7 in
    let i = w % 7 in
    let here : 7 * c + i ≡ w = omega arith in
    let tally-is = (index.listed.each_block c (omega (arith, low))).dead in
    let zero-dead = h c (omega (arith, low, n)) in
    not-both (is_dead (slot_at m (7 * c + i))) (ap (λ v. is_dead (slot_at m v)) here ∙ ap is_dead e) (tally-none is_dead (slot_at m) c i (sym tally-is ∙ zero-dead) (omega arith))

pub copyable : (s t : ℕ) (m : List ℕ) → HasRoom m → IsSpareBlock t m → HasDead s m → IsCopyable s t m
copyable s t m room reserve most =
    let d = tally-some is_dead (slot_at m) s most.some in
    record {
      source = most.number;
      target = reserve.number;
      other = dead-other s t d.0 m room.blocks.rest most.number reserve.spare d.1.0 d.1.1;
      rest = room.blocks.rest;
      spare = reserve.spare;
      sound = sound-of m room;
      single = room.single;
    }

-- The live slots move with their block.
copied-live : (x : Slot) (tag : Tag) (y : List ℕ) → copy_slot (bare x) ≡ Live tag y → (z : List ℕ) × (x ≡ Live tag z)
copied-live Free tag y e = absurd (quiet-live Free tag.number tag.generation y tt e)
copied-live (Live own z) tag y e = bare-live (Live own z) tag y e
copied-live NoGeneration tag y e = absurd (quiet-live Free tag.number tag.generation y tt e)
copied-live Dead tag y e = absurd (quiet-live Free tag.number tag.generation y tt e)
copied-live Outside tag y e = absurd (quiet-live Free tag.number tag.generation y tt e)

copied-quiet : (k : Kind) (x y : Slot) → HoldsNothing x → bare y ≡ copy_slot (bare (to_copy k x)) → y ≡ Free
copied-quiet k Free y q e = bare-is_free y e
copied-quiet k (Live tag z) y q e = absurd q
copied-quiet k NoGeneration y q e = absurd q
copied-quiet k Dead y q e = bare-is_free y e
copied-quiet k Outside y q e = bare-is_free y e

copied-whole : (x : Slot) → IsWhole (copy_slot x)
copied-whole Free = tt
copied-whole (Live tag y) = tt
copied-whole NoGeneration = tt
copied-whole Dead = tt
copied-whole Outside = tt

free-live : (x : Slot) (g : ℕ) (k : Generation) (y : List ℕ) → x ≡ Free → x ≡ Live (record { number = g; generation = k }) y → ⊥
free-live x g k y e l = quiet-live x g k y (subst (λ a. HoldsNothing a) (sym e) tt) l

-- the live slots of f, which are those of f' under other numbers, with the same tags
record TagsMoved (s t n : ℕ) (f f' : ℕ → Slot) : Type 0 where
  on : (w g : ℕ) (k : Generation) (x : List ℕ) → LiveAt f n w g k x → (y : List ℕ) × LiveAt f' n (shifted s t w) g k y
  back : (w g : ℕ) (k : Generation) (x : List ℕ) → LiveAt f' n w g k x → (y : List ℕ) × LiveAt f n (shifted t s w) g k y
  round : (w g : ℕ) (k : Generation) (x : List ℕ) → LiveAt f' n w g k x → shifted s t (shifted t s w) ≡ w
  whole : (w : ℕ) → w < n → f' w ≢ NoGeneration

moves-of : (kind : Kind) (s t n : ℕ) (f f' : ℕ → Slot) → s < n → t < n → s ≢ t → ((tag : Tag) → copied_tag kind tag ≡ tag) → SlotsMoved kind s t n f f' → ((i : ℕ) → i < 7 → f (7 * t + i) ≡ Free) → ((w : ℕ) → w < 7 * n → f w ≢ NoGeneration) → TagsMoved s t (7 * n) f f'
moves-of kind s t n f f' ls lt other same h free whole =
    let plain : (i : ℕ) → i < 7 → bare (f' (7 * t + i)) ≡ copy_slot (bare (f (7 * s + i))) = λ i low. h.target i low ∙ ap (λ a. copy_slot (bare a)) (to_copy-same kind same (f (7 * s + i))) in
    record {
      on = λ w g k x l.
          let low = l.number in
          let i = w % 7 in
          let small : i < 7 = omega arith in
          elim (cases_eq (w / 7) s) [
            | inl e ↦
                let here : 7 * s + i ≡ w = omega (arith, e) in
                let was : f (7 * s + i) ≡ Live (record { number = g; generation = k }) x = ap f here ∙ l.is in
                let p = bare-live (f' (7 * t + i)) (record { number = g; generation = k }) [] (plain i small ∙ ap (λ a. copy_slot (bare a)) was) in
                (p.0, subst (λ v. LiveAt f' (7 * n) v g k p.0) (sym (shifted-there s t w e)) (record { number = omega (arith, lt, small); is = p.1 }))
            | inr ns ↦ elim (cases_eq (w / 7) t) [
              | inl e ↦
                  let here : 7 * t + i ≡ w = omega (arith, e) in
                  absurd (free-live (f w) g k x (sym (ap f here) ∙ free i small) l.is)
              | inr nt ↦ (x, subst (λ v. LiveAt f' (7 * n) v g k x) (sym (shifted-else s t w ns)) (record { number = low; is = h.others w low ns nt ∙ l.is }))
            ]
          ];
      back = λ w g k x l.
          let low = l.number in
          let i = w % 7 in
          let small : i < 7 = omega arith in
          elim (cases_eq (w / 7) t) [
            | inl e ↦
                let here : 7 * t + i ≡ w = omega (arith, e) in
                let is : copy_slot (bare (f (7 * s + i))) ≡ Live (record { number = g; generation = k }) [] = sym (plain i small) ∙ ap bare (ap f' here ∙ l.is) in
                let p = copied-live (f (7 * s + i)) (record { number = g; generation = k }) [] is in
                (p.0, subst (λ v. LiveAt f (7 * n) v g k p.0) (sym (shifted-there t s w e)) (record { number = omega (arith, ls, small); is = p.1 }))
            | inr nt ↦ elim (cases_eq (w / 7) s) [
              | inl e ↦
                  let here : 7 * s + i ≡ w = omega (arith, e) in
                  absurd (free-live (f' w) g k x (sym (ap f' here) ∙ h.source i small) l.is)
              | inr ns ↦ (x, subst (λ v. LiveAt f (7 * n) v g k x) (sym (shifted-else t s w nt)) (record { number = low; is = sym (h.others w low ns nt) ∙ l.is }))
            ]
          ];
      round = λ w g k x l.
          let i = w % 7 in
          let small : i < 7 = omega arith in
          elim (cases_eq (w / 7) t) [
            | inl e ↦
                let v = 7 * s + w % 7 in
                let block : v / 7 ≡ s = omega arith in
                let back : 7 * t + v % 7 ≡ w = omega (arith, e) in
                ap (λ a. shifted s t a) (shifted-there t s w e) ∙ (shifted-there s t v block ∙ back)
            | inr nt ↦ elim (cases_eq (w / 7) s) [
              | inl e ↦
                  let here : 7 * s + i ≡ w = omega (arith, e) in
                  absurd (free-live (f' w) g k x (sym (ap f' here) ∙ h.source i small) l.is)
              | inr ns ↦ ap (λ a. shifted s t a) (shifted-else t s w nt) ∙ shifted-else s t w ns
            ]
          ];
      whole = λ w low none.
          let i = w % 7 in
          let small : i < 7 = omega arith in
          elim (cases_eq (w / 7) t) [
            | inl e ↦
                let here : 7 * t + i ≡ w = omega (arith, e) in
                subst (λ a. IsWhole a) (sym (plain i small) ∙ ap bare (ap f' here ∙ none)) (copied-whole (bare (f (7 * s + i))))
            | inr nt ↦ elim (cases_eq (w / 7) s) [
              | inl e ↦
                  let here : 7 * s + i ≡ w = omega (arith, e) in
                  subst (λ a. IsWhole a) (sym (h.source i small) ∙ (ap f' here ∙ none)) tt
              | inr ns ↦ whole w low (sym (h.others w low ns nt) ∙ none)
            ]
          ];
    }

-- a block with a dead slot isn't live with a group
live-not_dead : (x : Slot) (tag : Tag) (y : List ℕ) → x ≡ Live tag y → is_dead x ≡ false
live-not_dead x tag y e = ap is_dead e

dead-no_group : (s : ℕ) (m : List ℕ) → AreAtRest (kind_at m) (data_blocks m) → HasDead s m → (g : Tag) → kind_at m s ≢ kinds.Group g
dead-no_group s m rest most g e =
    let d = tally-some is_dead (slot_at m) s most.some in
    let slot = rest-slot m s d.0 rest most.number d.1.0 ∙ group-slot (data_block m s) d.0 g e in
    not-both (is_dead (slot_at m (7 * s + d.0))) d.1.1 (ap is_dead slot)

-- a copying makes no block one of a group
pub whole-groups : (s t : ℕ) (m m' : List ℕ) → IsCopiedWhole s t m m' → MakesNoGroup m m'
whole-groups s t m m' c d low none = elim (cases_eq d t) as (λ _. is_group (kind_at m' d) ≡ false) [
  | inl e ↦ ap (λ a. is_group (kind_at m' a)) e ∙ ap is_group c.settled
  | inr nt ↦ elim (cases_eq d s) as (λ _. is_group (kind_at m' d) ≡ false) [
    | inl e ↦ ap (λ a. is_group (kind_at m' a)) e ∙ ap is_group c.erased.plain
    | inr ns ↦ ap is_group (c.same_kind d low ns nt) ∙ none
  ]
]

pub copies-into : (s t : ℕ) (m m' : List ℕ) → HasRoom m → HasDead s m → IsSpareBlock t m → s ≢ t → Copies s t m m' → CopiesInto s t m m'
copies-into s t m m' room most reserve other h =
    let ls = most.number in
    let lt = reserve.number in
    let rest = room.blocks.rest in
    let slots = moved-slots s t m m' rest h.blocks.rest ls lt h.slots in
    let moves = moves-of (kind_at m s) s t (data_blocks m) (slot_at m) (slot_at m') ls lt other (same-tag (kind_at m s) (dead-no_group s m rest most)) slots (λ i small. rest-slot m t i rest lt small ∙ reserve.spare.free i small) room.whole in
    record {
      source = most;
      target = reserve;
      shifts = record {
        chip = h.chip;
        on = moves.on;
        back = moves.back;
        round = moves.round;
        whole = moves.whole;
        blocks = h.blocks;
        groups = whole-groups s t m m' h.slots;
        sectors = h.sectors;
        clean = h.clean;
      };
      erased = h.slots.erased;
    }

-- the same of a block that is used, whether a slot of it is dead or not
live-group-of : (k : Kind) (g : Tag) → k ≡ kinds.Group g → is_live_group k ≡ true
live-group-of k g e = ap is_live_group e

pub used-no_group : (s : ℕ) (m : List ℕ) (slots : List SlotState) (blocks : List BlockState) (at : Cursors) → IsIndexOf slots blocks at m → s < length blocks → IsInUse (in_block blocks s) → (g : Tag) → kind_at m s ≢ kinds.Group g
used-no_group s m slots blocks at index low used g e =
    let n = index.listed.block_size in
    let t = index.listed.each_block s (omega (arith, low, n)) in
    false≢true (sym used.0 ∙ (t.group ∙ live-group-of (kind_at m s) g e))

pub copyable-used : (s : ℕ) (m : List ℕ) (slots : List SlotState) (blocks : List BlockState) (at : Cursors) → HasRoom m → IsIndexOf slots blocks at m → s < length blocks → IsInUse (in_block blocks s) → IsCopyable s at.reserve m
copyable-used s m slots blocks at room index low used =
    let n = index.listed.block_size in
    let reserve = index.reserve in
    record {
      source = omega (arith, low, n);
      target = reserve.number;
      other = λ e. used.1 (subst (λ c. IsWholeBlock (in_block blocks c)) (sym e) (spare-whole m slots blocks at.reserve room.blocks.rest index.listed reserve.number reserve.spare));
      rest = room.blocks.rest;
      spare = reserve.spare;
      sound = sound-of m room;
      single = room.single;
    }

pub moves-into : (s t : ℕ) (m m' : List ℕ) → HasRoom m → s < data_blocks m → IsSpareBlock t m → s ≢ t → ((g : Tag) → kind_at m s ≢ kinds.Group g) → Copies s t m m' → MovesInto s t m m'
moves-into s t m m' room ls reserve other no-group h =
    let lt = reserve.number in
    let rest = room.blocks.rest in
    let slots = moved-slots s t m m' rest h.blocks.rest ls lt h.slots in
    let moves = moves-of (kind_at m s) s t (data_blocks m) (slot_at m) (slot_at m') ls lt other (same-tag (kind_at m s) no-group) slots (λ i small. rest-slot m t i rest lt small ∙ reserve.spare.free i small) room.whole in
    record {
      source = ls;
      target = reserve;
      shifts = record {
        chip = h.chip;
        on = moves.on;
        back = moves.back;
        round = moves.round;
        whole = moves.whole;
        blocks = h.blocks;
        groups = whole-groups s t m m' h.slots;
        sectors = h.sectors;
        clean = h.clean;
      };
      erased = h.slots.erased;
    }

-- another wholly free block is the reserve, where it isn't chosen by number
pub index-chosen : (r : ℕ) (m : List ℕ) (slots : List SlotState) (blocks : List BlockState) (at new : Cursors) → HasRoom m → IsIndexOf slots blocks at m → r < length blocks → IsWholeBlock (in_block blocks r) → new.reserve ≡ r → IsAhead blocks new → (new.policy ≡ policies.Lowest → ⊥) → new.policy ≡ at.policy → IsIndexOf slots blocks new m
index-chosen r m slots blocks at new room index low whole e ahead by same =
    let n = index.listed.block_size in
    let here : r < data_blocks m = omega (arith, low, n) in
    record {
      listed = index.listed;
      ahead = ahead;
      reserve = subst (λ k. IsSpareBlock k m) (sym e) (record { number = here; spare = whole-spare m slots blocks r room.blocks.rest index.listed here whole });
      highest = λ p. absurd (by p);
      even = λ p. index.even (sym same ∙ p);
    }

-- a block's numbers
pub numbers-in : (c : ℕ) (m : List ℕ) (slots : List SlotState) (blocks : List BlockState) (at : Cursors) → IsIndexOf slots blocks at m → c < length blocks → (in_block blocks c).free + (in_block blocks c).dead ≤ 7
numbers-in c m slots blocks at index low =
    let n = index.listed.block_size in
    let t = index.listed.each_block c (omega (arith, low, n)) in
    let e = t.free in
    let f = t.dead in
    let both = tally-both (slot_at m) c in
    omega (arith, e, f, both)

dead-only : (x : Slot) → is_dead x ≡ true → x ≡ Dead
dead-only Free e = absurd (false≢true e)
dead-only (Live tag y) e = absurd (false≢true e)
dead-only NoGeneration e = absurd (false≢true e)
dead-only Dead e = refl
dead-only Outside e = absurd (false≢true e)

-- or the same one, where it is chosen by number
pub index-target : (m : List ℕ) (slots : List SlotState) (blocks : List BlockState) (at new : Cursors) → HasRoom m → IsIndexOf slots blocks at m → IsAhead blocks new → new.reserve < length blocks → IsWholeBlock (in_block blocks new.reserve) → (at.policy ≡ policies.Lowest → new ≡ at) → new.policy ≡ at.policy → IsIndexOf slots blocks new m
index-target m slots blocks at new room index ahead low whole by same =
    let n = index.listed.block_size in
    let here : new.reserve < data_blocks m = omega (arith, low, n) in
    record {
      listed = index.listed;
      ahead = ahead;
      reserve = record { number = here; spare = whole-spare m slots blocks new.reserve room.blocks.rest index.listed here whole };
      highest = λ p. (let q = sym same ∙ p in subst (λ a. IsReserveOf a.reserve m) (sym (by q)) (index.highest q));
      even = λ p. index.even (sym same ∙ p);
    }

-- a block has a dead slot still, whichever other one was moved
pub dead-left : (s t w : ℕ) (m m' : List ℕ) (slots slots' : List SlotState) (blocks blocks' : List BlockState) (at new : Cursors) → IsIndexOf slots blocks at m → IsIndexOf slots' blocks' new m' → w < length blocks → BlocksMoved s t blocks blocks' → IsWholeBlock (in_block blocks t) → (in_block blocks s).dead < (in_block blocks w).dead → HasNoneDead m' → ⊥
dead-left s t w m m' slots slots' blocks blocks' at new index after low moved whole more none =
    let ns : w ≢ s = λ e. (let q = ap (λ c. (in_block blocks c).dead) e in omega (arith, q, more)) in
    let nt : w ≢ t = λ e.
    (let q = ap (λ c. (in_block blocks c).dead) e in
    let p = ap (λ c. (in_block blocks c).free) e in
    let f = whole.1 in
    let seven = numbers-in w m slots blocks at index low in
    omega (arith, q, p, f, seven, more)) in
    let same = ap (λ b. b.dead) (moved.others w low ns nt) in
    let n = after.listed.block_size in
    let k = moved.size in
    let here : w < data_blocks m' = omega (arith, low, n, k) in
    let t = (after.listed.each_block w here).dead in
    let d = tally-some is_dead (slot_at m') w (omega (arith, t, same, more)) in
    let small = d.1.0 in
    none (7 * w + d.0) (omega (arith, here, small)) (dead-only (slot_at m' (7 * w + d.0)) d.1.1)

-- where a block with dead slots was looked for it stays
pub index-dead : (m : List ℕ) (slots : List SlotState) (blocks : List BlockState) (at new : Cursors) → IsAhead blocks new → new.reserve ≡ at.reserve → new.policy ≡ at.policy → IsIndexOf slots blocks at m → IsIndexOf slots blocks new m
index-dead m slots blocks at new ahead er ep h = record {
  listed = h.listed;
  ahead = ahead;
  reserve = subst (λ r. IsSpareBlock r m) (sym er) h.reserve;
  highest = λ p. subst (λ r. IsReserveOf r m) (sym er) (h.highest (sym ep ∙ p));
  even = λ p. h.even (sym ep ∙ p);
}

-- where a turn begins anew the index stays what it was
pub turned : (turn clock behind : ℕ) (m : List ℕ) (slots : List SlotState) (blocks : List BlockState) (at at' : Cursors) → at' ≡ record at { turn = turn; clock = clock; behind = behind } → IsIndexOf slots blocks at m → IsIndexOf slots blocks at' m
turned turn clock behind m slots blocks at at' e h = subst (λ a. IsIndexOf slots blocks a m) (sym e) (record {
  listed = h.listed;
  ahead = record { cursor = h.ahead.cursor; beyond = h.ahead.beyond; spares = h.ahead.spares; within = h.ahead.within; most = h.ahead.most; from = h.ahead.from; high = h.ahead.high; bounds = h.ahead.bounds; worn = h.ahead.worn };
  reserve = h.reserve;
  highest = h.highest;
  even = h.even;
})

-- and where another block is filled up
pub filled : (newest : ℕ) (m : List ℕ) (slots : List SlotState) (blocks : List BlockState) (at at' : Cursors) → at' ≡ record at { newest = newest } → IsIndexOf slots blocks at m → IsIndexOf slots blocks at' m
filled newest m slots blocks at at' e h = subst (λ a. IsIndexOf slots blocks a m) (sym e) (record {
  listed = h.listed;
  ahead = record { cursor = h.ahead.cursor; beyond = h.ahead.beyond; spares = h.ahead.spares; within = h.ahead.within; most = h.ahead.most; from = h.ahead.from; high = h.ahead.high; bounds = h.ahead.bounds; worn = h.ahead.worn };
  reserve = h.reserve;
  highest = h.highest;
  even = h.even;
})

-- after a copy of a block with a dead slot one of the copy's is free
pub free-after : (s t r : ℕ) (m m' : List ℕ) → HasRoom m → HasDead s m → IsSpareBlock t m → t ≢ r → Copies s t m m' → HasNoneFree r m' → ⊥
free-after s t r m m' room most reserve other h none =
    let ls = most.number in
    let lt = reserve.number in
    let n : data_blocks m' ≡ data_blocks m = ap (λ k. block_count k - 4) h.chip.same_length in
    let slots = moved-slots s t m m' room.blocks.rest h.blocks.rest ls lt h.slots in
    let d = tally-some is_dead (slot_at m) s most.some in
    let small = d.1.0 in
    let quiet = subst (λ a. HoldsNothing a) (sym (dead-is (slot_at m (7 * s + d.0)) d.1.1)) tt in
    none (7 * t + d.0) (omega (arith, lt, small, n)) (λ e. other (omega (arith, e, small))) (copied-quiet (kind_at m s) (slot_at m (7 * s + d.0)) (slot_at m' (7 * t + d.0)) quiet (slots.target d.0 small))

-- and fewer slots are dead
pub dead-falls : (s t : ℕ) (m m' : List ℕ) → HasRoom m → AreSettled m' → HasDead s m → IsSpareBlock t m → IsCopiedWhole s t m m' → dead_slots m' < dead_slots m
dead-falls s t m m' room settled-now most reserve exact =
    let ls = most.number in
    let n : data_blocks m' ≡ data_blocks m = ap (λ k. block_count k - 4) exact.same_length in
    let h = moved-slots s t m m' room.blocks.rest settled-now.rest ls reserve.number exact in
    let d = tally-some is_dead (slot_at m) s most.some in
    let small = d.1.0 in
    subst (λ k. how_many (λ w. is_dead (slot_at m' w)) (7 * k) < dead_slots m) (sym n)
    (how_many-less (λ w. is_dead (slot_at m w)) (λ w. is_dead (slot_at m' w)) (slot_count m) (7 * s + d.0)
    (λ w low dead.
    let i = w % 7 in
    let tiny : i < 7 = omega arith in
    elim (cases_eq (w / 7) t) as (λ _. is_dead (slot_at m w) ≡ true) [
      | inl e ↦
          let here : 7 * t + i ≡ w = omega (arith, e) in
          absurd (not-both (is_dead (slot_at m' w)) dead (ap (λ v. is_dead (slot_at m' v)) (sym here) ∙ dead-copy (to_copy (kind_at m s) (slot_at m (7 * s + i))) (slot_at m' (7 * t + i)) (h.target i tiny)))
      | inr nt ↦ elim (cases_eq (w / 7) s) as (λ _. is_dead (slot_at m w) ≡ true) [
        | inl e ↦
            let here : 7 * s + i ≡ w = omega (arith, e) in
            absurd (not-both (is_dead (slot_at m' w)) dead (ap (λ v. is_dead (slot_at m' v)) (sym here) ∙ ap is_dead (h.source i tiny)))
        | inr ns ↦ ap is_dead (sym (h.others w low ns nt)) ∙ dead
      ]
    ])
    (omega (arith, ls, small)) d.1.1 (ap is_dead (h.source d.0 small)))

-- where the index is that of the memory
pub copyable-now : (s : ℕ) (m : List ℕ) (slots : List SlotState) (blocks : List BlockState) (at : Cursors) → HasRoom m → IsIndexOf slots blocks at m → IsMostDead blocks s → IsCopyable s at.reserve m
copyable-now s m slots blocks at room index most = copyable s at.reserve m room index.reserve (dead-in s m slots blocks at index most)
