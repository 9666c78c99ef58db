-- What the slots of a damaged chip tell of a sector: which bytes may be those that were written to
-- it last, and which are given. A write of a sector goes to a free slot with the generation that
-- follows the slot's before, round four; it is committed once its 512 bytes are there, and then the
-- slot before is retired. So of two whole slots the one of the next generation is the newer.
-- Source: own, layouts 1 and 2 (docs/LAYOUT.md).
use Rattle.std.specs.Prelude.{◌≡◌, ◌⊎◌, ℕ, ◌<◌, List, length}
use Rattle.chip_model.specs.Geometry.{sector_count}
use Rattle.block_device.specs.Contents.{sector}
use Rattle.nor_layout.specs.declared.header.Generation.{Generation}
use Rattle.nor_layout.specs.declared.layout.Layout.{Layout}
use Rattle.nor_layout.specs.Headers.{next_generation}
use Rattle.sector_slots.specs.Sectors.{zeros}
use Rattle.sector_slots.specs.Slots.{slot_count}
use Rattle.sector_rescue.specs.Rescue.{layout_told, payload, said_at}
use Rattle.sector_rescue.specs.declared.slot.Said.TheVariants.{Holds}

-- slot s holds sector g, of this generation: it is committed and not retired, and its block counts
pub record HoldsSector (layout : Layout) (m : List ℕ) (s g : ℕ) (k : Generation) : Type 0 where
  pub number : s < slot_count m
  pub says : said_at layout m s ≡ Holds (record { number = g; generation = k })

-- no slot holds it
abbrev pub NoneHolds : Layout → List ℕ → ℕ → Generation → Type 0
NoneHolds layout m g k = (s : ℕ) → HoldsSector layout m s g k → ⊥

-- The last write of sector g may have been that of these bytes: a slot holds them, and none has the
-- generation after its own; or slots of all four are there, and nothing tells which is the last.
pub record MayBeGiven (layout : Layout) (m : List ℕ) (g : ℕ) (bytes : List ℕ) : Type 0 where
  pub slot : ℕ
  pub generation : Generation
  pub holds : HoldsSector layout m slot g generation
  pub bytes_are : bytes ≡ payload m slot
  pub last : NoneHolds layout m g (next_generation generation)
      ⊎ ((k : Generation) → (s : ℕ) × HoldsSector layout m s g k)

-- What is given of it: such bytes, or zeros where no slot holds it, as of a sector that was never
-- written.
abbrev pub IsGiven : Layout → List ℕ → ℕ → List ℕ → Type 0
IsGiven layout m g bytes = MayBeGiven layout m g bytes
    ⊎ (((k : Generation) → NoneHolds layout m g k) × (bytes ≡ zeros))

-- what is given of all sectors of a chip, by the layout that it tells
abbrev pub AreGiven : List ℕ → List ℕ → Type 0
AreGiven m bytes = (g : ℕ) → g < sector_count (length m)
    → IsGiven (layout_told m) m g (sector bytes g)
