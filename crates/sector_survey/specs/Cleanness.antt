-- Whether what reads as free on a chip is erased, by the layout that it says. Source: own, layouts
-- 1 and 2.
use Rattle.std.specs.Prelude.{◌≡◌, ◌≢◌, ℕ, ◌+◌, ◌*◌, ◌<◌, Bool, true, false, List, length, Ok}
use Rattle.std.specs.Prelude.{Option, Some, None}
use Rattle.chip_model.specs.Memory.{byte}
use Rattle.nor_layout.specs.declared.header.Header.TheVariants as headers
use Rattle.nor_layout.specs.declared.layout.Layout.{Layout}
use Rattle.nor_layout.specs.declared.layout.Layout.TheVariants.{Groups, Sectors, Mixed}
use Rattle.nor_layout.specs.Layouts.{layout_of}
use Rattle.erase_journal.specs.Blocks.{blank}
use Rattle.sector_slots.specs.Slots.{IsClean, data_block, data_blocks, kind_at}
use Rattle.sector_slots.specs.Blocks.{AreAtRest}
use Rattle.sector_slots.specs.Groups.{IsCleanOfGroups, block_header}
use Rattle.sector_map.specs.Maps.{geometry_of}
use Rattle.sector_survey.specs.declared.clean.Cleanness.{Cleanness}

-- the superblock says layout 1
abbrev pub IsOfGroups : List ℕ → Type 0
IsOfGroups m = layout_of m (geometry_of (length m)) ≡ Ok Groups

-- and then each block that reads as free is erased
abbrev pub HasCleanGroups : List ℕ → Type 0
HasCleanGroups m = IsOfGroups m → IsCleanOfGroups m

-- byte k of data block c isn't erased, though the block reads as free
pub record IsDirtyFree (m : List ℕ) (c k : ℕ) : Type 0 where
  pub number : c < data_blocks m
  pub inside : k < 4096
  pub free : block_header m c ≡ headers.Free
  pub written : byte (data_block m c) k ≢ 255

-- of data block c: where it reads as free it is erased, or here is the first byte that isn't
abbrev pub FreeBlockTells : Option ℕ → List ℕ → ℕ → Type 0
FreeBlockTells None m c = block_header m c ≡ headers.Free → data_block m c ≡ blank
FreeBlockTells (Some k) m c =
    IsDirtyFree m c k × ((j : ℕ) → j < k → byte (data_block m c) j ≡ 255)

-- the first byte of the chip, at this place, that isn't erased though its block reads as free
pub record IsFirstDirty (m : List ℕ) (at : ℕ) : Type 0 where
  pub block : ℕ
  pub byte : ℕ
  pub place : at ≡ 4096 * (block + 4) + byte
  pub dirty : FreeBlockTells (Some byte) m block
  pub before : (c : ℕ) → c < block → FreeBlockTells None m c

-- of layout 1: each block that reads as free is erased, or here is the first that isn't
abbrev pub FreeBlocksTell : Option ℕ → List ℕ → Type 0
FreeBlocksTell None m = IsCleanOfGroups m
FreeBlocksTell (Some at) m = IsFirstDirty m at

abbrev pub GroupsTell : Layout → Option ℕ → List ℕ → Type 0
GroupsTell Groups found m = FreeBlocksTell found m
GroupsTell Sectors found m = found ≡ None
GroupsTell Mixed found m = found ≡ None

-- of slots: whether each free one that counts is erased, and each wholly free block; it isn't known
-- exactly while a copying goes on
abbrev pub SlotsTell : Option Bool → List ℕ → Type 0
SlotsTell None m = AreAtRest (kind_at m) (data_blocks m) → ⊥
SlotsTell (Some true) m = IsClean m
SlotsTell (Some false) m = IsClean m → ⊥

pub record IsCleannessOf (layout : Layout) (says : Cleanness) (m : List ℕ) : Type 0 where
  pub slots : SlotsTell says.slots m
  pub groups : GroupsTell layout says.dirty_group m

-- A memory of layout 1 once each block that reads as free is erased; its other blocks are the same.
pub record HasFreeErased (m m' : List ℕ) : Type 0 where
  pub size : length m' ≡ length m
  pub superblock : (k : ℕ) → k < 4096 → byte m' k ≡ byte m k
  pub free : (c : ℕ) → c < data_blocks m → block_header m c ≡ headers.Free → data_block m' c ≡ blank
  pub others : (c : ℕ) → c < data_blocks m → block_header m c ≢ headers.Free
      → data_block m' c ≡ data_block m c

-- what reads as free is erased, by the layout that the superblock says
abbrev pub IsCleanImage : List ℕ → Type 0
IsCleanImage m = IsClean m × HasCleanGroups m

-- whether it is so; not known while a copying goes on
abbrev pub clean_by : Option Bool → Option ℕ → Option Bool
clean_by slots (Some at) = Some false
clean_by slots None = slots

abbrev pub is_clean : Cleanness → Option Bool
is_clean says = clean_by says.slots says.dirty_group

abbrev pub Judges : Option Bool → List ℕ → Type 0
Judges (Some true) m = IsCleanImage m
Judges (Some false) m = IsCleanImage m → ⊥
Judges None m = (AreAtRest (kind_at m) (data_blocks m) → ⊥) × HasCleanGroups m
