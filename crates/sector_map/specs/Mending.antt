-- How a mount mends the blocks of a memory: it ends a copying, retires the older of two blocks of a
-- group, and makes a block wholly free. Source: own.
use Rattle.std.specs.Prelude.{◌≡◌, ◌≢◌, ◌⊎◌, ℕ, ◌*◌, ◌/◌, ◌<◌, Bool, true, false, List, length}
use Rattle.std.specs.Prelude.{slice_index_or}
use Rattle.nor_layout.specs.declared.header.Tag.{Tag}
use Rattle.nor_layout.specs.declared.kind.Kind.{Kind}
use Rattle.nor_layout.specs.declared.kind.Kind.TheVariants as kinds
use Rattle.sector_slots.specs.Slots.{is_group, slot_at, slot_count, data_blocks, kind_at}
use Rattle.sector_slots.specs.Slots.{IsSpareIn}
use Rattle.sector_slots.specs.Sectors.{IsSingle}
use Rattle.sector_slots.specs.Copying.{SameLive}
use Rattle.sector_slots.specs.Blocks.{AreAtRest, AreSettled, HasGroupRoom}
use Rattle.sector_stock.specs.Copy.{KeepsSectors, EndsCopy}
use Rattle.sector_map.specs.Table.{IsTabled, Mends}
use Rattle.sector_map.specs.declared.table.Held.{Held}
use Rattle.sector_map.specs.declared.found.Found.{Found}
use Rattle.sector_map.specs.declared.found.Found.TheVariants.{AtRest, Void, Committed}
use Rattle.sector_map.specs.declared.table.LiveSlots.{LiveSlots}
use Rattle.sector_map.specs.declared.table.LiveSlots.TheVariants.{Absent, Two}

-- Two slots hold sector g, by the table; the older one lies in a block of a group.
pub record IsGroupPair (table : List LiveSlots) (m : List ℕ) (g : ℕ) : Type 0 where
  pub number : g < length table
  pub newer : Held
  pub older : Held
  pub entry : slice_index_or table g Absent ≡ Two newer older
  pub group : is_group (kind_at m (older.slot / 7)) ≡ true

-- whether some sector is so
abbrev pub PairsSeen : Bool → List LiveSlots → List ℕ → Type 0
PairsSeen true table m = (g : ℕ) × IsGroupPair table m g
PairsSeen false table m = (g : ℕ) → IsGroupPair table m g → ⊥

-- the older of two slots lies in a block of slots, of each sector of which there are two
abbrev pub PairsAreSlots : List LiveSlots → List ℕ → Type 0
PairsAreSlots table m = PairsSeen false table m

-- Two slots hold sector g, by the table; one of them lies in a block of a group, the other doesn't.
pub record IsMixedPair (table : List LiveSlots) (m : List ℕ) (g : ℕ) : Type 0 where
  pub number : g < length table
  pub newer : Held
  pub older : Held
  pub entry : slice_index_or table g Absent ≡ Two newer older
  pub differ : is_group (kind_at m (newer.slot / 7)) ≢ is_group (kind_at m (older.slot / 7))

-- a block is dead with its group
abbrev pub HasDeadGroup : List ℕ → Type 0
HasDeadGroup m = (c : ℕ) × ((c < data_blocks m) × (kind_at m c ≡ kinds.DeadGroup))

-- A block of this kind, block c, is the older of two that are live with one group, by the table.
pub record IsOlderGroup (table : List LiveSlots) (c : ℕ) (kind : Kind) : Type 0 where
  pub tag : Tag
  pub newer : Held
  pub older : Held
  pub live : kind ≡ kinds.Group tag
  pub entry : slice_index_or table (7 * tag.number) Absent ≡ Two newer older
  pub block : older.slot / 7 ≡ c

-- Each void block was erased, and is wholly free; all other blocks are of the kind that they were,
-- and each slot that counts is as it was, or represents nothing before and after.
pub record EndsVoids (m m' : List ℕ) : Type 0 where
  pub keeps : KeepsSectors m m'
  pub single : IsSingle m → IsSingle m'
  pub erased : (d : ℕ) → d < data_blocks m → kind_at m d ≡ kinds.Void → IsSpareIn m' d
  pub others : (d : ℕ) → d < data_blocks m → kind_at m d ≢ kinds.Void
      → kind_at m' d ≡ kind_at m d
  pub live : SameLive (slot_at m) (slot_at m') (slot_count m)

-- the copyings that were found were ended
abbrev pub EndsFound : Found → List ℕ → List ℕ → Type 0
EndsFound AtRest m m' = m' ≡ m
EndsFound (Void t) m m' = EndsCopy m m'
EndsFound (Committed s t) m m' = EndsCopy m m'

-- The older of two blocks of a group was retired: of no group there are two live ones, by the new
-- table.
pub record RetiresOlder (m : List ℕ) (table : List LiveSlots) (m' : List ℕ) : Type 0 where
  pub mends : Mends m m'
  pub rest : AreAtRest (kind_at m') (data_blocks m')
  pub tabled : IsTabled table (slot_at m') (slot_count m')
  pub pairs : PairsAreSlots table m'
  pub settled : AreSettled m → AreSettled m'
  pub room : HasGroupRoom (kind_at m) (data_blocks m) → HasDeadGroup m'

-- the same before the table is read anew
pub record RetiresEach (table : List LiveSlots) (m m' : List ℕ) : Type 0 where
  pub mends : Mends m m'
  pub each : (d : ℕ) → d < data_blocks m → (kind_at m' d ≡ kind_at m d)
      ⊎ (kind_at m' d ≡ kinds.DeadGroup)
  pub older : (d : ℕ) → d < data_blocks m → IsOlderGroup table d (kind_at m d)
      → kind_at m' d ≡ kinds.DeadGroup
  pub settled : AreSettled m → AreSettled m'

-- A block is wholly free; slots that hold a sector are as they were, and no block has come to be of
-- a group.
pub record MakesRoom (m m' : List ℕ) : Type 0 where
  pub mends : Mends m m'
  pub blocks : AreSettled m'
  pub live : SameLive (slot_at m) (slot_at m') (slot_count m)
  pub slots : (d : ℕ) → d < data_blocks m → is_group (kind_at m d) ≡ false
      → is_group (kind_at m' d) ≡ false

-- All of this was done.
pub record MendsBlocks (m : List ℕ) (table : List LiveSlots) (m' : List ℕ) : Type 0 where
  pub mends : Mends m m'
  pub blocks : AreSettled m'
  pub tabled : IsTabled table (slot_at m') (slot_count m')
  pub pairs : PairsAreSlots table m'
