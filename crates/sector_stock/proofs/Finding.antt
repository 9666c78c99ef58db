-- The slot that the index finds is the lowest-numbered free one of the memory.
use Rattle.std.specs.Prelude.{IfSome}
use Rattle.std.proofs.Common.{◌≡◌, ◌≢◌, ℕ, ◌+◌, ◌*◌, ◌<◌, List, refl, sym, ap, ◌∙◌, arith, inl, inr, MatchOption, Option, Some, None}
use Rattle.std.specs.Prelude.{◌/◌, ◌%◌}
use Rattle.std.proofs.lemmas.Bool.{cases_lt, cases_eq}
use Rattle.sector_slots.specs.Slots.{Slot, Free, Live, NoGeneration, Dead, Outside, slot_at, slot_count, data_blocks, kind_at}
use Rattle.sector_stock.specs.declared.index.SlotState.{SlotState}
use Rattle.sector_stock.specs.declared.index.SlotState.TheVariants as states
use Rattle.sector_stock.specs.declared.index.BlockState.{BlockState}
use Rattle.sector_stock.specs.declared.index.Cursors.{Cursors}
use Rattle.sector_stock.specs.declared.policy.Policy.TheVariants as policies
use Rattle.sector_stock.specs.Index.{HasFreeBut, state_of, is_free_slot, in_block, in_slots, IsListed, IsIndexOf, IsLowestWithFree, HasNoFreeBut}
use Rattle.sector_stock.specs.IndexSteps.{HasNoFreeState, IsFirstFreeState, HasNoneFreeBefore}
use Rattle.sector_stock.specs.Room.{HasNoneFree}
use Rattle.sector_slots.specs.Blocks.{IsReserveOf}
use Rattle.sector_stock.specs.Takes.{IsLowestFree, IsGivable, HasFreeIn, FillsUp}
use Rattle.sector_stock.specs.Index.{erases_of}
use Rattle.sector_stock.specs.Policies.{IsFilledUp}
use Rattle.sector_stock.proofs.Tallies.{tally-some, tally-none, free-is, not-both}

state-free : (x : Slot) → state_of x ≡ states.Free → x ≡ Free
state-free Free e = refl
state-free (Live tag y) e = absurd (grind (arith, e))
state-free NoGeneration e = absurd (grind (arith, e))
state-free Dead e = absurd (grind (arith, e))
state-free Outside e = absurd (grind (arith, e))

pub reserve-one : (r q : ℕ) (m : List ℕ) → IsReserveOf r m → IsReserveOf q m → r ≡ q
reserve-one r q m a b = let x = b.highest r a.number a.spare in let y = a.highest q b.number b.spare in omega (arith, x, y)

-- a block with no free slot
none-in : (m : List ℕ) (slots : List SlotState) (blocks : List BlockState) (w : ℕ) → IsListed slots blocks (slot_at m) (kind_at m) (data_blocks m) → w < slot_count m → (in_block blocks (w / 7)).free ≡ 0 → slot_at m w ≢ Free
none-in m slots blocks w listed low none e =
    let c = w / 7 in
    let i = w % 7 in
    let here : 7 * c + i ≡ w = omega arith in
    let count = (listed.each_block c (omega (arith, low))).free in
    not-both (is_free_slot (slot_at m (7 * c + i))) (ap (λ v. is_free_slot (slot_at m v)) here ∙ ap is_free_slot e) (tally-none is_free_slot (slot_at m) c i (sym count ∙ none) (omega arith))

pub none-free-in : (m : List ℕ) (slots : List SlotState) (blocks : List BlockState) (at : Cursors) → IsIndexOf slots blocks at m → HasNoFreeBut blocks at.reserve → HasNoneFree at.reserve m
none-free-in m slots blocks at index h w low other =
    let n = index.listed.block_size in
    none-in m slots blocks w index.listed low (h (w / 7) (omega (arith, low, n)) other)

pub found-free : (o : Option ℕ) (b : ℕ) (m : List ℕ) (slots : List SlotState) (blocks : List BlockState) (at : Cursors) → at.policy ≡ policies.Lowest → IsIndexOf slots blocks at m → IsLowestWithFree blocks at.reserve b
    → MatchOption o (HasNoFreeState slots b) (λ w. IsFirstFreeState slots b w) → MatchOption o (HasNoneFree at.reserve m) (λ w. IsLowestFree w m)
found-free None b m slots blocks at by index low h =
    let n = index.listed.block_size in
    let inside = low.0 in
    let here : b < data_blocks m = omega (arith, inside, n) in
    let count = (index.listed.each_block b here).free in
    let some = low.2 in
    let d = tally-some is_free_slot (slot_at m) b (omega (arith, some, count)) in
    let small = d.1.0 in
    absurd (h d.0 small (index.listed.each_slot (7 * b + d.0) (omega (arith, here, small)) ∙ ap state_of (free-is (slot_at m (7 * b + d.0)) d.1.1)))
found-free (Some w) b m slots blocks at by index low h =
    let n = index.listed.block_size in
    let inside = low.0 in
    let block = h.block in
    let here : b < data_blocks m = omega (arith, inside, n) in
    let number : w < slot_count m = omega (arith, here, block) in
    record {
      number = number;
      free = state-free (slot_at m w) (sym (index.listed.each_slot w number) ∙ h.free);
      reserve = at.reserve;
      is_reserve = index.highest by;
      outside = λ e. low.1 (sym block ∙ sym e);
      lowest = λ s below other. elim (cases_lt (s / 7) b) as (λ _. slot_at m s ≢ Free) [
        | inl under ↦ none-in m slots blocks s index.listed (omega (arith, below, number)) (low.3 (s / 7) under other)
        | inr over ↦
            let same : s / 7 ≡ b = omega (arith, over, below, block) in
            let place : 7 * b + s % 7 ≡ s = omega (arith, same) in
            λ e. h.first (s % 7) (omega arith) (omega (arith, place, below)) (ap (λ v. in_slots slots v) place ∙ (index.listed.each_slot s (omega (arith, below, number)) ∙ ap state_of e))
      ];
    }

-- a free slot of a block that has one, whatever the policy
pub given-free : (o : Option ℕ) (b : ℕ) (m : List ℕ) (slots : List SlotState) (blocks : List BlockState) (at : Cursors) → IsIndexOf slots blocks at m → HasFreeBut blocks at.reserve b
    → MatchOption o (HasNoFreeState slots b) (λ w. IsFirstFreeState slots b w) → MatchOption o (HasNoneFree at.reserve m) (λ w. IsGivable w m)
given-free None b m slots blocks at index low h =
    let n = index.listed.block_size in
    let inside = low.0 in
    let here : b < data_blocks m = omega (arith, inside, n) in
    let count = (index.listed.each_block b here).free in
    let some = low.2 in
    let d = tally-some is_free_slot (slot_at m) b (omega (arith, some, count)) in
    let small = d.1.0 in
    absurd (h d.0 small (index.listed.each_slot (7 * b + d.0) (omega (arith, here, small)) ∙ ap state_of (free-is (slot_at m (7 * b + d.0)) d.1.1)))
given-free (Some w) b m slots blocks at index low h =
    let n = index.listed.block_size in
    let inside = low.0 in
    let block = h.block in
    let here : b < data_blocks m = omega (arith, inside, n) in
    let number : w < slot_count m = omega (arith, here, block) in
    record {
      number = number;
      free = state-free (slot_at m w) (sym (index.listed.each_slot w number) ∙ h.free);
      reserve = at.reserve;
      is_spare = index.reserve;
      apart = λ e. low.1 (sym block ∙ sym e);
    }

pub only-some : (o : Option ℕ) (r : ℕ) (m : List ℕ) → MatchOption o (HasNoneFree r m) (λ w. IsLowestFree w m) → IfSome o (λ w. IsLowestFree w m)
only-some None r m h = tt
only-some (Some w) r m h = h

-- a block but the reserve has a free slot, in the index and in the memory
pub free-in : (n r : ℕ) (m : List ℕ) (slots : List SlotState) (blocks : List BlockState) → IsListed slots blocks (slot_at m) (kind_at m) (data_blocks m) → HasFreeIn n r m → HasFreeBut blocks r n
free-in n r m slots blocks listed h =
    let size = listed.block_size in
    let low = h.number in
    let at = h.block in
    let inside : n < data_blocks m = omega (arith, low, at) in (
      omega (arith, inside, size),
      h.other,
      elim (cases_eq (in_block blocks n).free 0) as (λ _. 0 < (in_block blocks n).free) [
        | inr ne ↦ omega (arith, ne)
        | inl e ↦ absurd (none-in m slots blocks h.slot listed low (ap (λ c. (in_block blocks c).free) at ∙ e) h.free)
      ],
    )

pub in-free : (n r : ℕ) (m : List ℕ) (slots : List SlotState) (blocks : List BlockState) → IsListed slots blocks (slot_at m) (kind_at m) (data_blocks m) → HasFreeBut blocks r n → HasFreeIn n r m
in-free n r m slots blocks listed h =
    let size = listed.block_size in
    let low = h.0 in
    let here : n < data_blocks m = omega (arith, low, size) in
    let count = (listed.each_block n here).free in
    let some = h.2 in
    let d = tally-some is_free_slot (slot_at m) n (omega (arith, some, count)) in
    let small = d.1.0 in
    record {
      other = h.1;
      slot = 7 * n + d.0;
      number = omega (arith, here, small);
      block = omega (arith, small);
      free = free-is (slot_at m (7 * n + d.0)) d.1.1;
    }

-- a block that has a free slot has one in the states
pub none-there : (b r : ℕ) (m : List ℕ) (slots : List SlotState) (blocks : List BlockState) → IsListed slots blocks (slot_at m) (kind_at m) (data_blocks m) → HasFreeBut blocks r b → HasNoFreeState slots b → ⊥
none-there b r m slots blocks listed low h =
    let n = listed.block_size in
    let inside = low.0 in
    let here : b < data_blocks m = omega (arith, inside, n) in
    let count = (listed.each_block b here).free in
    let some = low.2 in
    let d = tally-some is_free_slot (slot_at m) b (omega (arith, some, count)) in
    let small = d.1.0 in
    h d.0 small (listed.each_slot (7 * b + d.0) (omega (arith, here, small)) ∙ ap state_of (free-is (slot_at m (7 * b + d.0)) d.1.1))

-- the slot of the block that is filled up
pub found-filled : (o : Option ℕ) (b : ℕ) (m : List ℕ) (slots : List SlotState) (blocks : List BlockState) (at : Cursors) → IsIndexOf slots blocks at m → HasFreeBut blocks at.reserve b → IsFilledUp at.newest at.reserve blocks b
    → MatchOption o (HasNoFreeState slots b) (λ w. IsFirstFreeState slots b w) → IfSome o (λ w. FillsUp at.newest at.reserve (erases_of blocks) w m)
found-filled None b m slots blocks at index low up h = tt
found-filled (Some w) b m slots blocks at index low up h =
    let n = index.listed.block_size in
    let inside = low.0 in
    let block = h.block in
    let here : b < data_blocks m = omega (arith, inside, n) in
    let number : w < slot_count m = omega (arith, here, block) in
    record {
      number = number;
      free = state-free (slot_at m w) (sym (index.listed.each_slot w number) ∙ h.free);
      outside = λ e. low.1 (sym block ∙ sym e);
      goes_on = λ more. block ∙ up.goes_on (free-in at.newest at.reserve m slots blocks index.listed more);
      begins = λ none s small other free.
          let least = up.begins (λ more. none (in-free at.newest at.reserve m slots blocks index.listed more)) in
          let has = free-in (s / 7) at.reserve m slots blocks index.listed (record { other = other; slot = s; number = small; block = refl; free = free }) in
          let q = least.least (s / 7) has.0 other has.2 in
          let e = ap (λ c. (in_block blocks c).erases) block in
          omega (arith, q, e);
    }

-- and it is the first free one of its block
pub found-first : (o : Option ℕ) (b r : ℕ) (m : List ℕ) (slots : List SlotState) (blocks : List BlockState) → IsListed slots blocks (slot_at m) (kind_at m) (data_blocks m) → HasFreeBut blocks r b
    → MatchOption o (HasNoFreeState slots b) (λ w. IsFirstFreeState slots b w) → IfSome o (λ w. HasNoneFreeBefore w m)
found-first None b r m slots blocks listed low h = tt
found-first (Some w) b r m slots blocks listed low h =
    λ s below same free.
    let n = listed.block_size in
    let inside = low.0 in
    let block = h.block in
    let here : s / 7 ≡ b = same ∙ block in
    let place : 7 * b + s % 7 ≡ s = omega (arith, here) in
    h.first (s % 7) (omega arith) (omega (arith, place, below)) (ap (λ v. in_slots slots v) place ∙ (listed.each_slot s (omega (arith, here, inside, n)) ∙ ap state_of free))
