-- What the steps of a firm mount find, and what they leave. Words of private functions: no claim
-- rests on them. Source: own.
use Rattle.std.specs.Prelude.{◌≡◌, ◌⊎◌, ℕ, ◌+◌, ◌*◌, ◌<◌, Bool, true, false, List, length}
use Rattle.chip_model.specs.Memory.{byte}
use Rattle.chip_model.specs.Wavering.{Bits}
use Rattle.erase_journal.specs.Weak.{AreFirm, AreZerosFirm}
use Rattle.nor_driver.specs.State.{NorState, bits_in}
use Rattle.erase_journal.specs.Blocks.{SameChip}
use Rattle.sector_slots.specs.Slots.{data_blocks, data_block, kind_at, raw_slot, content_bytes}
use Rattle.sector_slots.specs.Slots.{Dead, IsSpareIn, is_group}
use Rattle.sector_slots.specs.Blocks.{AreSettled}
use Rattle.sector_slots.specs.Sectors.{IsSoundMap}
use Rattle.sector_slots.specs.Firm.{HoldsBegun}
use Rattle.sector_slots.specs.Weak.{AreEdgesFirm, IsDoubtfulMark, IsDoubtfulSlot, IsHalfBlock}
use Rattle.sector_slots.specs.Weak.{HasSureRoom, HaveByteBits, HasSureSpare, IsSureBlock}
use Rattle.sector_slots.specs.Weak.{IsSureSlot, block_place, mark_place}
use Rattle.sector_map.specs.Table.{IsTableOf}
use Rattle.sector_map.specs.declared.table.LiveSlots.{LiveSlots}

-- In two memories of one length each data block reads alike: its kind, its slots and their bytes;
-- of one that is wholly free every byte is the same.
pub record ReadsAlike (m m' : List ℕ) : Type 0 where
  pub same_length : length m' ≡ length m
  pub kinds : (c : ℕ) → c < data_blocks m → kind_at m' c ≡ kind_at m c
  pub slots : (c i : ℕ) → c < data_blocks m → i < 7 → raw_slot m' c i ≡ raw_slot m c i
  pub contents : (c i : ℕ) → c < data_blocks m → i < 7
      → content_bytes (data_block m' c) i ≡ content_bytes (data_block m c) i
  pub spare : (c : ℕ) → c < data_blocks m → IsSpareIn m c → data_block m' c ≡ data_block m c

-- and they have the same superblock
pub record StaysAlike (m m' : List ℕ) : Type 0 where
  pub chip : SameChip m m'
  pub blocks : ReadsAlike m m'

-- no slot of a block is begun
abbrev pub HasNoneBegun : List ℕ → Type 0
HasNoneBegun m = (c : ℕ) → c < data_blocks m → HoldsBegun (data_block m c) → ⊥

-- The blocks are mended, the older of two slots is retired, and the table is that of the memory.
pub record IsMendedMap (table : List LiveSlots) (m : List ℕ) : Type 0 where
  pub tabled : IsTableOf table m
  pub blocks : AreSettled m
  pub sound : IsSoundMap m

-- a slot is begun: its state is FEh
abbrev pub IsBegunSlot : List ℕ → ℕ → ℕ → Type 0
IsBegunSlot m c i = byte (data_block m c) (16 + 4 * i) ≡ 254

-- Once the head of data block c was programmed again: each bit of it that reads 0 is firm, and each
-- dead slot is sure; or it is begun, and the flag says that one is.
pub record IsHeadFirm (b : Bits) (begun : Bool) (c : ℕ) : Type 0 where
  pub zeros : AreZerosFirm b (block_place c) 44
  pub dead : is_group (kind_at b.shown c) ≡ false → (i : ℕ) → i < 7 → raw_slot b.shown c i ≡ Dead
      → IsSureSlot b c i ⊎ ((begun ≡ true) × IsBegunSlot b.shown c i)

abbrev pub AreHeadsFirm : Bits → Bool → Type 0
AreHeadsFirm b begun = (c : ℕ) → c < data_blocks b.shown → IsHeadFirm b begun c

-- and what one interrupted change left beside
pub record IsReadBlock (b : Bits) (begun : Bool) (c : ℕ) : Type 0 where
  pub half : IsHalfBlock b c
  pub head : IsHeadFirm b begun c

pub record AreReadBlocks (b : Bits) (begun : Bool) : Type 0 where
  pub each : (c : ℕ) → c < data_blocks b.shown → IsReadBlock b begun c
  pub room : HasSureRoom b

-- Once copyings are ended and the older of two slots is retired: a block of slots, in which all is
-- sure or doubtful but slots that are begun.
pub record IsHeldBlock (b : Bits) (begun : Bool) (c : ℕ) : Type 0 where
  pub of_slots : is_group (kind_at b.shown c) ≡ false
  pub edges : AreEdgesFirm b.weak c
  pub mark : AreFirm b.weak (mark_place c) 4 ⊎ IsDoubtfulMark b c
  pub slots : (i : ℕ) → i < 7 → (IsSureSlot b c i ⊎ IsDoubtfulSlot b c i)
      ⊎ ((begun ≡ true) × IsBegunSlot b.shown c i)

pub record AreHeldBlocks (b : Bits) (begun : Bool) : Type 0 where
  pub bytes : HaveByteBits b
  pub each : (c : ℕ) → c < data_blocks b.shown → IsHeldBlock b begun c
  pub room : HasSureSpare b

-- What the move of one block leaves: that block is sure, and each other one what it was.
pub record MovesFirmly (block : ℕ) (old new : Bits) : Type 0 where
  pub held : (begun : Bool) (c : ℕ) → c < data_blocks old.shown → IsHeldBlock old begun c
      → IsHeldBlock new begun c
  pub sure : (c : ℕ) → c < data_blocks old.shown → IsSureBlock old true c → IsSureBlock new true c
  pub moved : (begun : Bool) → IsHeldBlock old begun block → IsSureBlock new true block
  pub room : HasSureSpare old → HasSureSpare new
  pub bytes : HaveByteBits old → HaveByteBits new

-- A step of a mount leaves blocks that were read such, and one after which none has two slots of a
-- sector makes them held.
abbrev pub KeepsRead : NorState → NorState → Type 0
KeepsRead old new = (begun : Bool) → AreReadBlocks (bits_in old) begun
    → AreReadBlocks (bits_in new) begun

abbrev pub MakesHeld : NorState → NorState → Type 0
MakesHeld old new = (begun : Bool) → AreReadBlocks (bits_in old) begun
    → AreHeldBlocks (bits_in new) begun
