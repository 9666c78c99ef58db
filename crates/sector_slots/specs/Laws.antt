-- What follows from the definitions of slots and of what calls leave. Source: own, layout 2.
use Rattle.std.specs.Prelude.{◌≡◌, ◌≢◌, ◌↔◌, ℕ, ◌/◌, true, false, ◌<◌, List, length}
use Rattle.chip_model.specs.Geometry.{IsChipSize}
use Rattle.erase_journal.specs.Blocks.{IsErasedBehind}
use Rattle.erase_journal.specs.Journals.{IsSettled}
use Rattle.sector_slots.specs.Slots.{Slot, Free, Outside, raw_slot, slot_at, stored_at, IsClean}
use Rattle.sector_slots.specs.Sectors.{zeros, LiveAt, IsAbsent, SectorIs, GroupsFit, sector_at}
use Rattle.sector_slots.specs.Sectors.{IsSoundMap, IsAtRestMap}
use Rattle.nor_layout.specs.declared.header.Generation.{Generation}
use Rattle.nor_layout.specs.declared.header.Tag.{Tag}
use Rattle.nor_layout.specs.declared.kind.Kind.{Kind}
use Rattle.nor_layout.specs.declared.kind.Kind.TheVariants as kinds
use Rattle.nor_layout.specs.Headers.{next_generation}
use Rattle.sector_slots.specs.Slots.{Live, Dead, is_group, group_tag, content_bytes}
use Rattle.sector_slots.specs.Slots.{slot_count, kind_at, data_block, data_blocks}
use Rattle.nor_layout.specs.Superblock.{layout_in}
use Rattle.sector_slots.specs.Sectors.{HoldsSectors}
use Rattle.sector_slots.specs.Blocks.{IsReserveOf}
use Rattle.sector_slots.specs.Copying.{copy_slot, CopiesTag}
use Rattle.sector_slots.specs.Steps.{IsErasedSlot, CopyLeaves}

-- A slot that counts is what its bytes say.
abbrev pub CountedSlotsAreStored : Type 0
CountedSlotsAreStored = (m : List ℕ) (w : ℕ) (x : Slot) → slot_at m w ≡ x → x ≢ Outside
    → stored_at m w ≡ x

-- A copy into a place where nothing was programmed is exactly the copy of the slot.
abbrev pub CopiesAreExact : Type 0
CopiesAreExact = (old : Slot) (t i : ℕ) (m m' : List ℕ) → CopyLeaves old t i m m'
    → IsErasedSlot t i m → raw_slot m' t i ≡ copy_slot old

-- A copy into a place that is free has the slot's tag, whatever the place's bytes were.
abbrev pub CopiesKeepTags : Type 0
CopiesKeepTags = (old : Slot) (t i : ℕ) (m m' : List ℕ) → CopyLeaves old t i m m'
    → raw_slot m t i ≡ Free → CopiesTag old (raw_slot m' t i)

-- A memory has at most one reserve.
abbrev pub ReservesAreOne : Type 0
ReservesAreOne = (m : List ℕ) (r s : ℕ) → IsReserveOf r m → IsReserveOf s m → r ≡ s

-- A chip that is erased behind its superblock is settled and clean, nothing of it is corrupt, and
-- each of its sectors is zeros.
abbrev pub ErasedChipsHoldZeros : Type 0
ErasedChipsHoldZeros = (m : List ℕ) → IsChipSize (length m) → IsErasedBehind m
    → IsSettled m × IsClean m × IsSoundMap m × IsAtRestMap m × ((g : ℕ) → sector_at m g ≡ zeros)

-- The seven places of a block that is live with a group are its sectors, and those of a dead one
-- are dead.
abbrev pub GroupsAreSeen : Type 0
GroupsAreSeen = (m : List ℕ) (c i : ℕ) → ((group : Tag) → kind_at m c ≡ kinds.Group group
    → raw_slot m c i ≡ Live (group_tag group i) (content_bytes (data_block m c) i))
    × (kind_at m c ≡ kinds.DeadGroup → raw_slot m c i ≡ Dead)

-- What sector g holds, said in the words of the two layouts: the newer live slot of its own; else
-- its place in the newer block that is live with its group; else zeros.
pub data SaidSector (kind : ℕ → Kind) (f : ℕ → Slot) (n g : ℕ) (x : List ℕ) : Type 0 where
  in_slot : (s : ℕ) (k : Generation) → LiveAt f n s g k x → is_group (kind (s / 7)) ≡ false
      → ((t : ℕ) (j : Generation) (y : List ℕ) → LiveAt f n t g j y
      → is_group (kind (t / 7)) ≡ false → t ≢ s → k ≡ next_generation j)
      → SaidSector kind f n g x
  in_group : ((t : ℕ) (j : Generation) (y : List ℕ) → LiveAt f n t g j y
      → is_group (kind (t / 7)) ≡ true) → (s : ℕ) (k : Generation) → LiveAt f n s g k x
      → ((t : ℕ) (j : Generation) (y : List ℕ) → LiveAt f n t g j y → t ≢ s
      → k ≡ next_generation j) → SaidSector kind f n g x
  nowhere : IsAbsent f n g → x ≡ zeros → SaidSector kind f n g x

-- Where no sector is live in both, that is what it holds.
abbrev pub SectorsAreSaid : Type 0
SectorsAreSaid = (m : List ℕ) (g : ℕ) (x : List ℕ) → GroupsFit m
    → SectorIs (slot_at m) (slot_count m) g x
    ↔ SaidSector (kind_at m) (slot_at m) (slot_count m) g x

-- Two memories of one length, with the same layout byte and the same data blocks: so a program of
-- byte 15 of the superblock leaves them, whole or cut.
pub record IsMarked (m m' : List ℕ) : Type 0 where
  pub same_length : length m' ≡ length m
  pub layout : layout_in m' ≡ layout_in m
  pub each : (d : ℕ) → d < data_blocks m → data_block m' d ≡ data_block m d

-- They hold the same sectors, and the one is clean where the other is.
abbrev pub MarksKeepSectors : Type 0
MarksKeepSectors = (m m' : List ℕ) → IsMarked m m'
    → ((sectors : ℕ → List ℕ) → HoldsSectors sectors m → HoldsSectors sectors m')
    × (IsClean m → IsClean m')
