-- The blocks that a firm mount moves, since a slot of theirs is begun.
use Rattle.std.proofs.Common.{◌≡◌, ◌≢◌, ℕ, ◌+◌, ◌*◌, ◌<◌, ◌⊎◌, true, false, List, sym, ap, ◌∙◌, subst, arith, inl, inr}
use Rattle.chip_model.specs.Memory.{byte}
use Rattle.nor_driver.specs.State.{NorState}
use Rattle.nor_layout.specs.declared.header.Tag.{Tag}
use Rattle.nor_layout.specs.declared.kind.Kind.TheVariants as kinds
use Rattle.erase_journal.specs.Blocks.{SameChip}
use Rattle.erase_journal.specs.Journals.{IsHealthy}
use Rattle.erase_journal.specs.Steps.{SucceedsSettled}
use Rattle.erase_journal.proofs.Calls.{Repeated, not_begun, begun}
use Rattle.sector_slots.specs.Slots.{is_group, data_blocks, data_block, kind_at, IsSpareIn, IsClean}
use Rattle.sector_slots.specs.Blocks.{AreSettled}
use Rattle.sector_slots.specs.Sectors.{IsSoundMap, HoldsSectors}
use Rattle.sector_slots.specs.Firm.{HoldsBegun}
use Rattle.journal_slots.proofs.Killing.{free-state}
use Rattle.sector_stock.specs.Copy.{IsCopyable, MovesAfresh, KeepsSectors}
use Rattle.sector_stock.specs.Room.{IsSpareBlock}
use Rattle.sector_stock.proofs.Moved.{moves-into}
use Rattle.sector_map.specs.Firm.{IsMendedMap}
use Rattle.sector_map.specs.Mending.{MendsBlocks}
use Rattle.sector_map.specs.Scan.{FollowsBlock}
use Rattle.sector_map.specs.Table.{IsTableOf, Mends, Repairs}
use Rattle.sector_map.specs.declared.table.LiveSlots.{LiveSlots}
use Rattle.sector_map.proofs.MapCalls.{Moved, Steps, moves-steps, steps-moved, steps-table}
use Rattle.sector_map.proofs.Mending.{kept-mends, mends-none, mends-after, mends-sound, mends-of}
use Rattle.sector_map.proofs.Mounting.{table-room}
use Rattle.sector_map.proofs.Retiring.{single-tabled}

-- A block in which a slot is begun isn't wholly free, nor of a group.
begun-slots : (m : List ℕ) (s : ℕ) → HoldsBegun (data_block m s) → (g : Tag) → kind_at m s ≢ kinds.Group g
begun-slots m s h g e = let q : true ≡ false = sym (ap is_group e) ∙ h.slots in cc

begun-other : (m : List ℕ) (s t : ℕ) → HoldsBegun (data_block m s) → IsSpareIn m t → s ≢ t
begun-other m s t h spare e =
    let was : byte (data_block m t) (16 + 4 * h.place) ≡ 254 = subst (λ z. byte (data_block m z) (16 + 4 * h.place) ≡ 254) e h.begun in
    let is : byte (data_block m t) (16 + 4 * h.place) ≡ 255 = free-state t h.place m (spare.free h.place h.within) in
    omega (arith, was, is)

-- what is known before a block is moved
pub record Begun (table : List LiveSlots) (s t : ℕ) (m : List ℕ) : Type 0 where
  pub mended : IsMendedMap table m
  pub number : s < data_blocks m
  pub begun : HoldsBegun (data_block m s)
  pub spare : IsSpareBlock t m

pub begun-at : (table : List LiveSlots) (s t : ℕ) (m m1 m2 : List ℕ) → IsMendedMap table m → s < data_blocks m → HoldsBegun (data_block m s) → m1 ≡ m → IsSpareBlock t m1 → m2 ≡ m1 → Begun table s t m2
begun-at table s t m m1 m2 h low holds first spare second =
    let k : Begun table s t m = record { mended = h; number = low; begun = holds; spare = subst (λ z. IsSpareBlock t z) first spare } in
    subst (λ z. Begun table s t z) (sym (second ∙ first)) k

pub begun-copyable : (table : List LiveSlots) (s t : ℕ) (m : List ℕ) → Begun table s t m → IsCopyable s t m
begun-copyable table s t m k = record {
  source = k.number;
  target = k.spare.number;
  other = begun-other m s t k.begun k.spare.spare;
  rest = k.mended.blocks.rest;
  spare = k.spare.spare;
  sound = k.mended.sound;
  single = single-tabled table m k.mended.tabled;
}

afresh-steps : (table : List LiveSlots) (s t : ℕ) (m b : List ℕ) → Begun table s t m → MovesAfresh s t m b → Steps (record { source = s; target = t }) m b
afresh-steps table s t m b k h =
    moves-steps (record { source = s; target = t }) m b
    (moves-into s t m b (table-room table m k.mended.tabled k.mended.blocks k.mended.sound.groups.layout) k.number k.spare (begun-other m s t k.begun k.spare.spare) (begun-slots m s k.begun) h.copies)

pub afresh-moved : (table : List LiveSlots) (s t : ℕ) (m b : List ℕ) → Begun table s t m → (IsCopyable s t m → MovesAfresh s t m b) → Moved m b
afresh-moved table s t m b k h =
    steps-moved (record { source = s; target = t }) m b (afresh-steps table s t m b k (h (begun-copyable table s t m k))) k.mended.sound (single-tabled table m k.mended.tabled)

pub afresh-number : (m b : List ℕ) (t : ℕ) → Moved m b → IsSpareBlock t m → t < data_blocks b
afresh-number m b t h spare =
    let n = h.chip.same_length in
    let low = spare.number in
    omega (arith, n, low)

-- and after it, once the table follows
pub afresh-repairs : (table new : List LiveSlots) (s t : ℕ) (m0 m b d : List ℕ) → m ≡ m0 → Begun table s t m → (IsCopyable s t m → MovesAfresh s t m b) → d ≡ b → FollowsBlock t table new b → Repairs m0 new d
afresh-repairs table new s t m0 m b d first k moves same f =
    let h = moves (begun-copyable table s t m k) in
    let r : Repairs m new b = record {
      mends = kept-mends m b h.keeps;
      tabled = steps-table (record { source = s; target = t }) m b table new (afresh-steps table s t m b k h) k.mended.sound (single-tabled table m k.mended.tabled) k.mended.tabled f;
      blocks = (afresh-moved table s t m b k moves).blocks;
    } in
    subst (λ z. Repairs z new d) first (subst (λ z. Repairs m new z) (sym same) r)

pub afresh-mends : (table : List LiveSlots) (s t : ℕ) (m0 m b d : List ℕ) → m ≡ m0 → Begun table s t m → (IsCopyable s t m → MovesAfresh s t m b) → d ≡ b → Mends m0 d
afresh-mends table s t m0 m b d first k moves same =
    let h = moves (begun-copyable table s t m k) in
    subst (λ z. Mends z d) first (subst (λ z. Mends m z) (sym same) (kept-mends m b h.keeps))

pub afresh-cut : (table : List LiveSlots) (s t : ℕ) (m0 m b : List ℕ) → m ≡ m0 → Begun table s t m → IsHealthy m0 → (IsHealthy m → IsCopyable s t m → KeepsSectors m b) → Mends m0 b
afresh-cut table s t m0 m b first k healthy keeps =
    subst (λ z. Mends z b) first (kept-mends m b (keeps (subst (λ z. IsHealthy z) (sym first) healthy) (begun-copyable table s t m k)))

pub still-repairs : (table : List LiveSlots) (m d : List ℕ) → IsMendedMap table m → d ≡ m → Repairs m table d
still-repairs table m d h same = subst (λ z. Repairs m table z) (sym same) (record { mends = mends-none m; tabled = h.tabled; blocks = h.blocks })

-- The older of two slots was retired in blocks that were mended.
pub retired-repairs : (between table : List LiveSlots) (a b d : List ℕ) → MendsBlocks a between b → SameChip b d → ((sectors : ℕ → List ℕ) → HoldsSectors sectors b → HoldsSectors sectors d) → (IsClean b → IsClean d) → IsTableOf table d → AreSettled d → Repairs a table d
retired-repairs between table a b d h chip sectors clean tabled blocks = record { mends = mends-after a b d h.mends (mends-of b d chip sectors clean); tabled = tabled; blocks = blocks }

-- One more block.
pub repairs-mended : (table : List LiveSlots) (a b : List ℕ) → IsSoundMap a → Repairs a table b → IsMendedMap table b
repairs-mended table a b sound r = record { tabled = r.tabled; blocks = r.blocks; sound = mends-sound a b r.mends sound }

pub repairs-after : (table new : List LiveSlots) (a b c : List ℕ) → Repairs a table b → Repairs b new c → Repairs a new c
repairs-after table new a b c p q = record { mends = mends-after a b c p.mends q.mends; tabled = q.tabled; blocks = q.blocks }

pub repeated-perhaps : (n : ℕ) (a b : NorState) → Repeated n a b → (b ≡ a) ⊎ SucceedsSettled a b
repeated-perhaps n a b (not_begun z e) = inl e
repeated-perhaps n a b (begun s) = inr s
