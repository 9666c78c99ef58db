-- What is firm once a block was copied into the reserve, and which wholly free block is left beside a slot that is given.
use Rattle.std.proofs.Common.{◌≡◌, ◌⊎◌, ℕ, ◌+◌, ◌-◌, ◌*◌, ◌<◌, Bool, false, List, length, refl, sym, ap, ◌∙◌, subst, arith, inl, inr}
use Rattle.std.specs.Prelude.{◌/◌}
use Rattle.std.proofs.lemmas.Bool.{cases_eq, false≢true, true≢false}
use Rattle.chip_model.specs.Geometry.{block_count}
use Rattle.chip_model.specs.Wavering.{Bits}
use Rattle.nor_driver.specs.State.{NorState, bits_in}
use Rattle.erase_journal.specs.Steps.{SucceedsSettled}
use Rattle.sector_slots.specs.Slots.{slot_at, slot_count, data_blocks, kind_at, is_group, IsSpareIn}
use Rattle.sector_slots.specs.Blocks.{AreAtRest, IsAtRest}
use Rattle.sector_slots.specs.Copying.{shifted}
use Rattle.sector_slots.specs.Sectors.{HasSlotsAlone, IsSingle, Single}
use Rattle.sector_slots.specs.Losses.{HasSureSlots, HasSureSpareBut, IsFirmDisk}
use Rattle.sector_slots.specs.Weak.{HasSureRoom, IsSureBlock, IsWhollyFirm, spare, void, committed}
use Rattle.sector_slots.proofs.DiskLaws.{disk-after, single-newer, wholly-room}
use Rattle.sector_stock.specs.declared.index.BlockState.{BlockState}
use Rattle.sector_stock.specs.declared.index.Cursors.{Cursors}
use Rattle.sector_stock.specs.declared.index.SlotState.{SlotState}
use Rattle.sector_stock.specs.declared.policy.Policy.{Policy}
use Rattle.sector_stock.specs.declared.policy.Policy.TheVariants as policies
use Rattle.sector_stock.specs.Index.{in_block, erases_of, BlocksMoved, IsFirmIn, IsIndexOf, IsMostDead, IsWholeBlock}
use Rattle.sector_stock.specs.Losses.{IsFirmDiskIn, suspects_in}
use Rattle.sector_stock.specs.Policies.{IsInUse}
use Rattle.sector_stock.specs.Room.{HasRoom, HasNoneFree}
use Rattle.sector_stock.specs.Takes.{FillsUp, IsGivable, IsLiveGroup, IsLowestFree, Shifts, TrustsReserve}
use Rattle.sector_stock.proofs.Copying.{same-sectors-sound}
use Rattle.sector_stock.proofs.Moved.{numbers-in, rest-slot, spare-whole, whole-spare}
use Rattle.sector_stock.proofs.Tallies.{either, not-both}
use Rattle.sector_stock.proofs.Firming.{given-outside}

-- A block with a dead slot isn't wholly free, nor is one that is used; and on a firm chip none is live with a group.
pub dead-part : (s : ℕ) (m : List ℕ) (slots : List SlotState) (blocks : List BlockState) (at : Cursors) → HasRoom m → IsIndexOf slots blocks at m → IsMostDead blocks s → IsSpareIn m s → ⊥
dead-part s m slots blocks at room index most is =
    let n = index.listed.block_size in
    let low = most.0 in
    let some = most.1 in
    let whole = (spare-whole m slots blocks s room.blocks.rest index.listed (omega (arith, low, n)) is).1 in
    let both = numbers-in s m slots blocks at index low in
    omega (arith, some, whole, both)

pub used-part : (s : ℕ) (m : List ℕ) (slots : List SlotState) (blocks : List BlockState) (at : Cursors) → HasRoom m → IsIndexOf slots blocks at m → s < length blocks → IsInUse (in_block blocks s) → IsSpareIn m s → ⊥
used-part s m slots blocks at room index low used is =
    let n = index.listed.block_size in
    used.1 (spare-whole m slots blocks s room.blocks.rest index.listed (omega (arith, low, n)) is)

pub none-live : (s : ℕ) (b : Bits) (suspect : ℕ → Bool) → IsFirmDisk b suspect → s < data_blocks b.shown → IsLiveGroup s b.shown → ⊥
none-live s b suspect h low live = true≢false (ap is_group (sym live.1) ∙ h.alone s low)

-- The live slots of a block moved: no sector came to have two of them, and no block came to be of a group.
shifted-single : (s t : ℕ) (m m' : List ℕ) → Shifts s t m m' → IsSingle m → IsSingle m'
shifted-single s t m m' h single =
    let moved : Single (slot_at m') (slot_count m) = record {
      one = λ v w g j k x y a b.
          let p = h.back v g j x a in
          let q = h.back w g k y b in
          sym (h.round v g j x a) ∙ (ap (λ u. shifted s t u) (single.one (shifted t s v) (shifted t s w) g j k p.0 q.0 p.1 q.1) ∙ h.round w g k y b);
    } in
    subst (λ n. Single (slot_at m') (7 * (block_count n - 4))) (sym h.chip.same_length) moved

shifted-alone : (s t : ℕ) (m m' : List ℕ) → Shifts s t m m' → HasSlotsAlone m → HasSlotsAlone m'
shifted-alone s t m m' h alone c high =
    let n = h.chip.same_length in
    let low : c < data_blocks m = omega (arith, high, n) in
    h.groups c low (alone c low)

-- Block s was copied into block t.
pub shifted-disk : (s t : ℕ) (a b : NorState) (blocks blocks' : List BlockState) → IsFirmDiskIn (bits_in a) blocks → SucceedsSettled a b → IsSingle a.memory → s < data_blocks a.memory → Shifts s t a.memory b.memory → IsSpareIn b.memory s → IsWhollyFirm b.weak s
    → IsFirmIn (bits_in b) blocks' → IsFirmDiskIn (bits_in b) blocks'
shifted-disk s t a b blocks blocks' h done single low shifts erased wholly store =
    let n : data_blocks b.memory ≡ data_blocks a.memory = ap (λ k. block_count k - 4) shifts.chip.same_length in
    disk-after a b (suspects_in blocks) (suspects_in blocks') h done shifts.chip.same_length (same-sectors-sound a.memory b.memory (shifts.sectors h.clean) h.sound) (shifted-alone s t a.memory b.memory shifts h.alone) (shifts.clean h.clean)
    (single-newer (bits_in b) (shifted-single s t a.memory b.memory shifts single)) store (wholly-room (bits_in b) s (omega (arith, low, n)) erased wholly)

-- the slots of a block that isn't suspect
sure-slots : (b : Bits) (suspect : Bool) (c : ℕ) → suspect ≡ false → IsSureBlock b suspect c → HasSureSlots b c
sure-slots b suspect c trusted h i low = elim (h.slots i low) [ inl s ↦ s | inr d ↦ absurd (false≢true (sym trusted ∙ d.0)) ]

-- whether a block is wholly free
whole-or-not : (x : BlockState) → IsWholeBlock x ⊎ (IsWholeBlock x → ⊥)
whole-or-not x = elim (either x.plain) [
  | inl plain ↦ elim (cases_eq x.free 7) [ inl seven ↦ inl (plain, seven) | inr other ↦ inr (λ q. other q.1) ]
  | inr other ↦ inr (λ q. not-both x.plain q.0 other)
]

-- Block c isn't wholly free, and no copying goes on.
room-other : (c : ℕ) (b : Bits) → AreAtRest (kind_at b.shown) (data_blocks b.shown) → (IsSpareIn b.shown c → ⊥) → HasSureRoom b → HasSureSpareBut c b
room-other c b rest part (spare d low is sure) = record { block = d; number = low; other = λ e. part (subst (λ k. IsSpareIn b.shown k) e is); spare = is; slots = sure }
room-other c b rest part (void d low is) = absurd (subst (λ k. IsAtRest k) is (rest d low))
room-other c b rest part (committed s t low inside is sure) = absurd (subst (λ k. IsAtRest k) is (rest t inside))

reserve-sure : (w : ℕ) (m : List ℕ) (blocks : List BlockState) (at : Cursors) → TrustsReserve at.policy at blocks m → (at.policy ≡ policies.Lowest → IsLowestFree w m) → (at.policy ≡ policies.Level → FillsUp at.newest at.reserve (erases_of blocks) w m)
    → IsWholeBlock (in_block blocks (w / 7)) → (in_block blocks at.reserve).suspect ≡ false
reserve-sure w m blocks at trusts low up whole = from at.policy refl where
  from : (p : Policy) → at.policy ≡ p → (in_block blocks at.reserve).suspect ≡ false
  from policies.Lowest by = trusts.lowest by w (low by) whole
  from policies.Level by = trusts.level by w (up by) whole

-- Slot w is given, and nothing was copied: where its block is wholly free the reserve is another one, and isn't suspect.
pub spare-given : (w : ℕ) (b : Bits) (slots : List SlotState) (blocks : List BlockState) (at : Cursors) → AreAtRest (kind_at b.shown) (data_blocks b.shown) → IsIndexOf slots blocks at b.shown → w / 7 < length blocks
    → (at.policy ≡ policies.Lowest → IsLowestFree w b.shown) → (at.policy ≡ policies.Level → FillsUp at.newest at.reserve (erases_of blocks) w b.shown) → TrustsReserve at.policy at blocks b.shown → IsFirmDiskIn b blocks → HasSureSpareBut (w / 7) b
spare-given w b slots blocks at rest index inside low up trusts h =
    let n = index.listed.block_size in
    let r = at.reserve in
    elim (whole-or-not (in_block blocks (w / 7))) as (λ _. HasSureSpareBut (w / 7) b) [
      | inl whole ↦ record {
        block = r;
        number = index.reserve.number;
        other = λ e. given-outside w b.shown slots blocks at index low up (sym e);
        spare = index.reserve.spare;
        slots = sure-slots b (suspects_in blocks r) r (reserve-sure w b.shown blocks at trusts low up whole) (h.store r index.reserve.number);
      }
      | inr part ↦ room-other (w / 7) b rest (λ is. part (spare-whole b.shown slots blocks (w / 7) rest index.listed (omega (arith, inside, n)) is)) h.room
    ]

-- No slot was free but in block t, and block s was copied into it: s alone is wholly free.
spare-only : (s t d : ℕ) (m m' : List ℕ) (slots slots' : List SlotState) (blocks blocks' : List BlockState) (at new : Cursors) → AreAtRest (kind_at m) (data_blocks m) → AreAtRest (kind_at m') (data_blocks m') → IsIndexOf slots blocks at m → IsIndexOf slots' blocks' new m' → BlocksMoved s t blocks blocks'
    → HasNoneFree t m → d < data_blocks m' → IsSpareIn m' d → d ≡ s
spare-only s t d m m' slots slots' blocks blocks' at new rest rest' index after moved none low is =
    let n = index.listed.block_size in
    let k = after.listed.block_size in
    let size = moved.size in
    let inside : d < length blocks = omega (arith, low, k, size) in
    let was : d < data_blocks m = omega (arith, inside, n) in
    let whole = spare-whole m' slots' blocks' d rest' after.listed low is in
    elim (cases_eq d s) as (λ _. d ≡ s) [
      | inl e ↦ e
      | inr ns ↦ elim (cases_eq d t) as (λ _. d ≡ s) [
        | inl e ↦ absurd (false≢true (sym (ap (λ x. x.plain) moved.target) ∙ (ap (λ c. (in_block blocks' c).plain) (sym e) ∙ whole.0)))
        | inr nt ↦
            let old = whole-spare m slots blocks d rest index.listed was (subst (λ x. IsWholeBlock x) (moved.others d inside ns nt) whole) in
            absurd (none (7 * d + 0) (omega (arith, was)) (λ e. nt (omega (arith, e))) (rest-slot m d 0 rest was (omega arith) ∙ old.free 0 (omega arith)))
      ]
    ]

-- So where slot w is given then, it is of another block.
pub spare-copied : (s t w : ℕ) (m : List ℕ) (b : Bits) (slots slots' : List SlotState) (blocks blocks' : List BlockState) (at new : Cursors) → AreAtRest (kind_at m) (data_blocks m) → AreAtRest (kind_at b.shown) (data_blocks b.shown) → IsIndexOf slots blocks at m → IsIndexOf slots' blocks' new b.shown
    → BlocksMoved s t blocks blocks' → HasNoneFree t m → IsGivable w b.shown → IsFirmDiskIn b blocks' → HasSureSpareBut (w / 7) b
spare-copied s t w m b slots slots' blocks blocks' at new rest rest' index after moved none given h =
    let r = given.reserve in
    let e = spare-only s t r m b.shown slots slots' blocks blocks' at new rest rest' index after moved none given.is_spare.number given.is_spare.spare in
    record {
      block = r;
      number = given.is_spare.number;
      other = given.apart;
      spare = given.is_spare.spare;
      slots = sure-slots b (suspects_in blocks' r) r (ap (λ c. (in_block blocks' c).suspect) e ∙ ap (λ x. x.suspect) moved.source) (h.store r given.is_spare.number);
    }
