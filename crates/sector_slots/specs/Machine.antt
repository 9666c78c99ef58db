-- A memory as a machine (docs/SECTORS.md): the steps of a copying on its data blocks, and that each
-- keeps the map of sectors. Source: own, layout 2.
use Rattle.std.specs.Prelude.{◌≢◌, ◌⊎◌, ℕ, ◌<◌, List}
use Rattle.erase_journal.specs.Blocks.{SameChip}
use Rattle.sector_slots.specs.Slots.{data_blocks, kind_at, raw_slot}
use Rattle.sector_slots.specs.Sectors.{IsSingle, IsSoundMap, HoldsSectors}
use Rattle.sector_slots.specs.Blocks.{IsAtRest, AreSettled}
use Rattle.sector_slots.specs.Copying.{BeginsCopy, CopiesIn, Commits, ErasesSource, Settles}
use Rattle.sector_slots.specs.Copying.{ErasesVoid, RetiresGroup, ErasesGroup}

-- One step of a copying of data block s into data block t, or of a mount that ends one; or of a
-- mount of a mixed chip that makes room (block s is the older of two of a group, t the newer one;
-- block t is a dead one).
pub data SlotStep (s t : ℕ) (m m' : List ℕ) : Type 0 where
  begins : SameChip m m' → BeginsCopy t (data_blocks m) (kind_at m) (kind_at m') (raw_slot m)
      (raw_slot m') → SlotStep s t m m'
  copies : SameChip m m' → CopiesIn t (data_blocks m) (kind_at m) (kind_at m') (raw_slot m)
      (raw_slot m') → SlotStep s t m m'
  commits : SameChip m m' → Commits s t (data_blocks m) (kind_at m) (kind_at m') (raw_slot m)
      (raw_slot m') → IsSingle m → SlotStep s t m m'
  erases_source : SameChip m m' → ErasesSource s t (data_blocks m) (kind_at m) (kind_at m')
      (raw_slot m) (raw_slot m') → SlotStep s t m m'
  settles : SameChip m m' → Settles s t (data_blocks m) (kind_at m) (kind_at m') (raw_slot m)
      (raw_slot m') → SlotStep s t m m'
  erases_void : SameChip m m' → ErasesVoid t (data_blocks m) (kind_at m) (kind_at m') (raw_slot m)
      (raw_slot m') → SlotStep s t m m'
  retires_group : SameChip m m' → RetiresGroup s t (data_blocks m) (kind_at m) (kind_at m')
      (raw_slot m) (raw_slot m') → SlotStep s t m m'
  erases_group : SameChip m m' → ErasesGroup t (data_blocks m) (kind_at m) (kind_at m') (raw_slot m)
      (raw_slot m') → SlotStep s t m m'

-- The map of sectors is what it was in every memory that a step leaves, and blocks stay sound.
abbrev pub StepsKeepSectors : Type 0
StepsKeepSectors = (s t : ℕ) (m m' : List ℕ) (sectors : ℕ → List ℕ) → SlotStep s t m m'
    → HoldsSectors sectors m → HoldsSectors sectors m'

-- And no sector comes to have two live slots.
abbrev pub StepsKeepSingles : Type 0
StepsKeepSingles = (s t : ℕ) (m m' : List ℕ) → SlotStep s t m m' → IsSoundMap m → IsSingle m
    → IsSingle m'

-- The last step of a copying leaves no copying behind; nor does a void block's erase, where nothing
-- else was void or committed.
abbrev pub LastStepsSettle : Type 0
LastStepsSettle = (s t : ℕ) (m m' : List ℕ) → SameChip m m'
    → Settles s t (data_blocks m) (kind_at m) (kind_at m') (raw_slot m) (raw_slot m')
    ⊎ (ErasesVoid t (data_blocks m) (kind_at m) (kind_at m') (raw_slot m) (raw_slot m')
    × ((d : ℕ) → d < data_blocks m → d ≢ t → IsAtRest (kind_at m d)))
    → AreSettled m'
