-- A chip of layout 1 in its own words: each data block is free, dead, or live with a group, by its
-- first four bytes. Source: own, layout 1.
use Rattle.std.specs.Prelude.{◌≡◌, ◌≢◌, ◌⊎◌, ℕ, ◌<◌, List, length}
use Rattle.chip_model.specs.Geometry.{IsChipSize, group_count}
use Rattle.nor_layout.specs.declared.header.Header.{Header}
use Rattle.nor_layout.specs.declared.header.Header.TheVariants as headers
use Rattle.nor_layout.specs.declared.header.Tag.{Tag}
use Rattle.nor_layout.specs.Headers.{header_of, next_generation}
use Rattle.nor_layout.specs.Superblock.{layout_in}
use Rattle.erase_journal.specs.Blocks.{blank}
use Rattle.sector_slots.specs.Slots.{data_blocks, data_block, IsClean}
use Rattle.sector_slots.specs.Sectors.{IsSoundMap}

abbrev pub block_header : List ℕ → ℕ → Header
block_header m c = header_of (data_block m c)

pub record IsLiveWith (m : List ℕ) (c : ℕ) (tag : Tag) : Type 0 where
  pub number : c < data_blocks m
  pub is : block_header m c ≡ headers.Live tag

-- None of the corrupt cases of blocks with groups: each live one's group is one of the chip; two of
-- a group are neighbours in generation; there are no three; none is without a generation.
pub record AreSoundGroups (m : List ℕ) : Type 0 where
  pub group : (c : ℕ) (tag : Tag) → IsLiveWith m c tag → tag.number < group_count (length m)
  pub neighbours : (c d : ℕ) (a b : Tag) → IsLiveWith m c a → IsLiveWith m d b → c ≢ d
      → a.number ≡ b.number
      → (a.generation ≡ next_generation b.generation)
      ⊎ (b.generation ≡ next_generation a.generation)
  pub two : (c d e : ℕ) (a b f : Tag) → IsLiveWith m c a → IsLiveWith m d b → IsLiveWith m e f
      → a.number ≡ b.number → b.number ≡ f.number → (c ≡ d) ⊎ ((d ≡ e) ⊎ (c ≡ e))
  pub whole : (c : ℕ) → c < data_blocks m → block_header m c ≢ headers.NoGeneration

-- a block is free or dead, or two are live with one group
pub data HasRoomForGroups (m : List ℕ) : Type 0 where
  free_block : (c : ℕ) → c < data_blocks m → block_header m c ≡ headers.Free → HasRoomForGroups m
  dead_block : (c : ℕ) → c < data_blocks m → block_header m c ≡ headers.Dead → HasRoomForGroups m
  twice : (c d : ℕ) (a b : Tag) → IsLiveWith m c a → IsLiveWith m d b → c ≢ d
      → a.number ≡ b.number → HasRoomForGroups m

-- each block that reads as free is FFh throughout
abbrev pub IsCleanOfGroups : List ℕ → Type 0
IsCleanOfGroups m = (c : ℕ) → c < data_blocks m → block_header m c ≡ headers.Free
    → data_block m c ≡ blank

-- Such a chip is sound and clean as a mixed one.
abbrev pub GroupChipsAreSound : Type 0
GroupChipsAreSound = (m : List ℕ) → IsChipSize (length m) → layout_in m ≢ 2 → AreSoundGroups m
    → HasRoomForGroups m → IsCleanOfGroups m → IsSoundMap m × IsClean m
