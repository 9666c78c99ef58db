-- How far a copying has come. Words of private functions: no claim rests on them. Source: own.
use Rattle.std.specs.Prelude.{◌≡◌, ◌≢◌, ℕ, ◌+◌, ◌<◌, ◌≤◌, List}
use Rattle.erase_journal.specs.Blocks.{SameChip, OnlyBlock}
use Rattle.sector_slots.specs.Slots.{Free, data_blocks, kind_at, raw_slot, IsClean}
use Rattle.sector_slots.specs.Blocks.{AreSettled, IsTarget}
use Rattle.sector_slots.specs.Copying.{copy_slot, source_slot}
use Rattle.sector_slots.specs.Sectors.{IsSingle, IsSoundMap, HasSlotsAlone}
use Rattle.sector_slots.specs.Steps.{IsBegun, IsErasedSlot}
use Rattle.sector_stock.specs.Copy.{bare, SameSectors, KeepsSectors, IsFinished, IsFresh}

-- The slots of the first j places of block s were copied into block t, which is void: their tags.
pub record IsCopiedTo (j s t : ℕ) (m : List ℕ) : Type 0 where
  pub number : s < data_blocks m
  pub other : s ≢ t
  pub target : IsTarget t (data_blocks m) (kind_at m)
  pub begun : IsBegun t s m
  pub tags : (i : ℕ) → i < j → bare (raw_slot m t i) ≡ copy_slot (bare (source_slot m s i))
  pub free : (i : ℕ) → i < 7 → j ≤ i → raw_slot m t i ≡ Free
  pub sound : IsSoundMap m
  pub single : IsSingle m

-- And their contents, as it is where nothing was programmed in block t since it was erased.
pub record IsExactTo (j s t : ℕ) (m : List ℕ) : Type 0 where
  pub copied : (i : ℕ) → i < j → raw_slot m t i ≡ copy_slot (source_slot m s i)
  pub fresh : (i : ℕ) → i < 7 → j ≤ i → IsErasedSlot t i m
  pub unwritten : (i : ℕ) → i < 7 → raw_slot m t i ≡ Free → IsErasedSlot t i m

-- so far in the loop
pub record CopyProgress (j s t : ℕ) (m0 m : List ℕ) : Type 0 where
  pub only : OnlyBlock (t + 4) m0 m
  pub copied : IsCopiedTo j s t m
  pub sectors : SameSectors m0 m
  pub exact : IsFresh t m0 → IsExactTo j s t m
  pub clean : IsClean m0 → IsClean m

-- What the last three calls of a copying leave, whose source and target these blocks are.
pub record Finishes (s t : ℕ) (m m' : List ℕ) : Type 0 where
  pub chip : SameChip m m'
  pub blocks : AreSettled m'
  pub finished : IsFinished s t m m'
  pub exact : IsExactTo 7 s t m → KeepsSectors m m'

-- and where they are cut
pub record FinishLeaves (s t : ℕ) (m m' : List ℕ) : Type 0 where
  pub chip : SameChip m m'
  pub sound : IsSoundMap m'
  pub alone : HasSlotsAlone m → HasSlotsAlone m'
  pub exact : IsExactTo 7 s t m → KeepsSectors m m'
