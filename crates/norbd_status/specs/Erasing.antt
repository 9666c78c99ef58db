-- Which blocks an erase reaches, and which of them were erased most and least often. Source: own,
-- over the erases of `chip_model`; a block has 4,096 bytes.
use Rattle.std.specs.Prelude.{◌≡◌, ℕ, ◌*◌, ◌/◌, ◌%◌, ◌≤◌, ◌<◌, List, length, slice_index}
use Rattle.chip_model.specs.Frames.{Command, Erase}
use Rattle.norbd_status.specs.declared.wear.Worn.{Worn}

-- of a chip of so many blocks, the first block that a command erases where the chip takes it: that
-- of the unit in which its address lies; and how many it erases. Of another command none
abbrev pub first_erased : ℕ → Command → ℕ
first_erased blocks (Erase at size) = at % (4096 * blocks) / size * (size / 4096)
first_erased blocks _ = 0

abbrev pub count_erased : Command → ℕ
count_erased (Erase at size) = size / 4096
count_erased _ = 0

-- of blocks that were erased so often, from this one on, the block is one, and was erased so often
pub record IsWorn (counts : List ℕ) (from : ℕ) (worn : Worn) : Type 0 where
  pub behind : from ≤ worn.block
  pub there : worn.block < length counts
  pub erases : slice_index counts worn.block ≡ worn.erases

-- none of them was erased more often, or less often
abbrev pub HasMostErases : List ℕ → ℕ → Worn → Type 0
HasMostErases counts from worn = IsWorn counts from worn
    × ((block : ℕ) → from ≤ block → block < length counts
    → slice_index counts block ≤ worn.erases)

abbrev pub HasFewestErases : List ℕ → ℕ → Worn → Type 0
HasFewestErases counts from worn = IsWorn counts from worn
    × ((block : ℕ) → from ≤ block → block < length counts
    → worn.erases ≤ slice_index counts block)
