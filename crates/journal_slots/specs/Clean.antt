-- What reads as free in the bytes of a block is erased. Source: own, layout 2.
use Rattle.std.specs.Prelude.{◌≡◌, ℕ, ◌<◌, List}
use Rattle.nor_layout.specs.declared.kind.Kind.TheVariants as kinds
use Rattle.nor_layout.specs.Kinds.{kind_of}
use Rattle.erase_journal.specs.Blocks.{blank}
use Rattle.sector_slots.specs.Slots.{Free, slot_in, content_bytes, blank_sector}
use Rattle.sector_slots.specs.Slots.{data_blocks, data_block}

-- in a block of these bytes the data of each free slot is erased, and a wholly free block is
pub record IsCleanBlock (b : List ℕ) : Type 0 where
  pub slots : (i : ℕ) → i < 7 → slot_in b i ≡ Free → content_bytes b i ≡ blank_sector
  pub spare : kind_of b ≡ kinds.Plain → ((i : ℕ) → i < 7 → slot_in b i ≡ Free) → b ≡ blank

-- each data block of a memory is such a one, whether its slots count or not
abbrev pub AreCleanBlocks : List ℕ → Type 0
AreCleanBlocks m = (c : ℕ) → c < data_blocks m → IsCleanBlock (data_block m c)
