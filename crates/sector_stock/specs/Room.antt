-- Why there always is a slot to give. Source: own, layout 2.
use Rattle.std.specs.Prelude.{◌≢◌, ℕ, ◌+◌, ◌-◌, ◌/◌, ◌<◌, ◌≤◌, List, length}
use Rattle.chip_model.specs.Geometry.{IsChipSize, sector_count}
use Rattle.nor_layout.specs.declared.header.Generation.{Generation}
use Rattle.sector_slots.specs.Slots.{Free, NoGeneration, Dead, slot_at, slot_count, kind_at}
use Rattle.sector_slots.specs.Slots.{data_blocks, IsSpareIn}
use Rattle.sector_slots.specs.Sectors.{LiveAt, HasOnlySlots, IsSingle, IsSoundMap}
use Rattle.sector_slots.specs.Sectors.{IsAtRestMap}
use Rattle.sector_slots.specs.Blocks.{AreAtRest, AreSettled}

-- Each live slot that counts holds a sector of this chip, no two the same one, and no slot is
-- without a generation; no copying goes on, and a block is wholly free.
pub record HasRoom (m : List ℕ) : Type 0 where
  pub sector : (s g : ℕ) (k : Generation) (x : List ℕ) → LiveAt (slot_at m) (slot_count m) s g k x
      → g < sector_count (length m)
  pub single : IsSingle m
  pub whole : (s : ℕ) → s < slot_count m → slot_at m s ≢ NoGeneration
  pub blocks : AreSettled m
  pub layout : HasOnlySlots m

-- block r is wholly free: it can be the reserve
pub record IsSpareBlock (r : ℕ) (m : List ℕ) : Type 0 where
  pub number : r < data_blocks m
  pub spare : IsSpareIn m r

-- no copying goes on, and another block than that of slot w is wholly free
pub record IsOutside (w : ℕ) (m : List ℕ) : Type 0 where
  pub rest : AreAtRest (kind_at m) (data_blocks m)
  pub reserve : ℕ
  pub is_spare : IsSpareBlock reserve m
  pub apart : reserve ≢ w / 7

-- no slot outside block r is free
abbrev pub HasNoneFree : ℕ → List ℕ → Type 0
HasNoneFree r m = (s : ℕ) → s < slot_count m → s / 7 ≢ r → slot_at m s ≢ Free

abbrev pub HasNoneDead : List ℕ → Type 0
HasNoneDead m = (s : ℕ) → s < slot_count m → slot_at m s ≢ Dead

-- no slot outside the reserve is free; so it is the only wholly free block
pub record IsFull (m : List ℕ) : Type 0 where
  pub reserve : ℕ
  pub is_spare : IsSpareBlock reserve m
  pub none : HasNoneFree reserve m

-- outside a block there are at least 7 slots more than sectors
abbrev pub SlotsOutnumberSectors : Type 0
SlotsOutnumberSectors = (m : List ℕ) → IsChipSize (length m)
    → sector_count (length m) + 7 ≤ slot_count m - 7

-- so where none of them is free, one is dead
abbrev pub NeverFull : Type 0
NeverFull = (r : ℕ) (m : List ℕ) → IsChipSize (length m) → HasRoom m → IsSpareBlock r m
    → HasNoneFree r m → HasNoneDead m → ⊥

abbrev pub SoundMapsHaveRoom : Type 0
SoundMapsHaveRoom = (m : List ℕ) → IsSoundMap m → IsAtRestMap m → HasRoom m
