-- What a firm mount leaves of a block whose head it programs again. Source: own.
use Rattle.std.specs.Prelude.{◌≡◌, ◌≢◌, ◌⊎◌, ℕ, ◌+◌, ◌*◌, ◌<◌, false, List}
use Rattle.chip_model.specs.Memory.{byte}
use Rattle.chip_model.specs.Wavering.{Bits}
use Rattle.nor_layout.specs.Kinds.{kind_of}
use Rattle.erase_journal.specs.Blocks.{OnlyBlock}
use Rattle.sector_slots.specs.Slots.{data_block, kind_at, raw_slot, content_bytes, IsSpareIn}
use Rattle.sector_slots.specs.Slots.{is_group, Dead}
use Rattle.sector_slots.specs.Weak.{IsDeadForGood}

-- a slot of a block of slots is begun: its state byte is FEh
pub record HoldsBegun (b : List ℕ) : Type 0 where
  pub slots : is_group (kind_of b) ≡ false
  pub place : ℕ
  pub within : place < 7
  pub begun : byte b (16 + 4 * place) ≡ 254

-- all blocks but c are as they were, and of that the kind and all slots; where it is wholly free,
-- its bytes too
pub record KeepsHead (c : ℕ) (m m' : List ℕ) : Type 0 where
  pub only : OnlyBlock (c + 4) m m'
  pub kind : kind_at m' c ≡ kind_at m c
  pub slots : (i : ℕ) → i < 7 → raw_slot m' c i ≡ raw_slot m c i
  pub contents : (i : ℕ) → i < 7 → content_bytes (data_block m' c) i
      ≡ content_bytes (data_block m c) i
  pub spare : IsSpareIn m c → data_block m' c ≡ data_block m c

-- each slot of block c that was dead is dead for good, or it was begun, and is
abbrev pub AreDeadForGood : ℕ → List ℕ → Bits → Type 0
AreDeadForGood c m b = is_group (kind_at m c) ≡ false → (i : ℕ) → i < 7 → raw_slot m c i ≡ Dead
    → IsDeadForGood b c i ⊎ ((byte (data_block m c) (16 + 4 * i) ≡ 254)
    × (byte (data_block b.shown c) (16 + 4 * i) ≡ 254))

-- the states of all slots of block c but the one at place p are the same bytes; and of all
abbrev pub SameStatesBut : ℕ → ℕ → List ℕ → List ℕ → Type 0
SameStatesBut p c m m' = (i : ℕ) → i < 7 → i ≢ p
    → byte (data_block m' c) (16 + 4 * i) ≡ byte (data_block m c) (16 + 4 * i)

abbrev pub SameStates : ℕ → List ℕ → List ℕ → Type 0
SameStates c m m' = (i : ℕ) → i < 7
    → byte (data_block m' c) (16 + 4 * i) ≡ byte (data_block m c) (16 + 4 * i)
