-- The superblock of a chip that is mounted: byte 15 says of a chip of layout 1 that it is mixed.
-- Source: own.
use Rattle.std.specs.Prelude.{◌≡◌, ◌≢◌, ◌⊎◌, ℕ, ◌<◌, ◌==◌, ◌&&◌, Bool, not, List, length}
use Rattle.sector_slots.specs.Laws.{IsMarked}
use Rattle.chip_model.specs.Memory.{byte}
use Rattle.nor_layout.specs.Journals.{block_len}
use Rattle.nor_layout.specs.Superblock.{layout_in, mixed_in}

-- what byte 15 of a mixed chip holds
abbrev pub mixed_mark : ℕ
mixed_mark = 254

-- The chip is of layout 1, and isn't mixed yet.
pub record IsUnmarked (m : List ℕ) : Type 0 where
  pub layout : layout_in m ≡ 1
  pub mixed : mixed_in m ≡ 255

-- the same by computation; and whether a block may be of a group
abbrev pub is_unmarked : List ℕ → Bool
is_unmarked m = (layout_in m == 1) && (mixed_in m == 255)

abbrev pub may_have_groups : List ℕ → Bool
may_have_groups m = not (layout_in m == 2)

-- Two memories of one length with the same superblock, but that the one may be of layout 1 and the
-- other mixed.
pub record SameDisk (m m' : List ℕ) : Type 0 where
  pub same_length : length m' ≡ length m
  pub superblock : (k : ℕ) → k < block_len → k ≢ 15 → byte m' k ≡ byte m k
  pub mark : (mixed_in m' ≡ mixed_in m) ⊎ (IsUnmarked m × (mixed_in m' ≡ mixed_mark))

-- A chip of layout 1 is mixed now, and any other memory is as it was; no data block has changed.
pub record Marks (m m' : List ℕ) : Type 0 where
  pub disk : SameDisk m m'
  pub marked : IsUnmarked m → mixed_in m' ≡ mixed_mark
  pub blocks : IsMarked m m'
