-- What a loss of power in a call of the stock leaves of a chip that a firm mount left. Source: own,
-- layout 2.
use Rattle.std.specs.Prelude.{◌≡◌, ◌⊎◌, ℕ, ◌/◌, ◌%◌, ◌<◌, Bool, true, false, List, length}
use Rattle.chip_model.specs.Geometry.{sector_count}
use Rattle.chip_model.specs.Wavering.{Bits}
use Rattle.nor_layout.specs.declared.header.Tag.{Tag}
use Rattle.erase_journal.specs.Weak.{AreFirm}
use Rattle.sector_slots.specs.Slots.{Live, data_blocks, kind_at, slot_at, slot_count}
use Rattle.sector_slots.specs.Sectors.{IsSingle, NextGeneration, zeros}
use Rattle.sector_slots.specs.Blocks.{AreAtRest}
use Rattle.sector_slots.specs.Half.{HasFirmNewer}
use Rattle.sector_slots.specs.Losses.{StepInterrupted, HasSureSpareBut, IsFirmDisk}
use Rattle.sector_slots.specs.Losses.{IsLowestFreePlace}
use Rattle.sector_slots.specs.Weak.{descriptor_place, sector_place}
use Rattle.sector_stock.specs.Copy.{KeepsSectors}
use Rattle.sector_stock.specs.declared.index.BlockState.{BlockState}
use Rattle.sector_stock.specs.Index.{in_block}

-- whether a block is suspect by this list
abbrev pub suspects_in : List BlockState → ℕ → Bool
suspects_in blocks c = (in_block blocks c).suspect

-- each block of a list is suspect
abbrev pub AreSuspect : List BlockState → Type 0
AreSuspect blocks = (c : ℕ) → c < length blocks → suspects_in blocks c ≡ true

-- what is suspect by one list is by the other
abbrev pub KeepsSuspects : List BlockState → List BlockState → Type 0
KeepsSuspects blocks blocks' = (c : ℕ) → suspects_in blocks' c ≡ suspects_in blocks c

-- The chip is as a firm mount left it, but where a block is suspect by this list.
abbrev pub IsFirmDiskIn : Bits → List BlockState → Type 0
IsFirmDiskIn b blocks = IsFirmDisk b (suspects_in blocks)

-- Before the change that the loss interrupted, which keeps the sectors, the chip was firm, and its
-- sectors were those of memory m.
pub record LosesNothing (m : List ℕ) (b : Bits) : Type 0 where
  pub before : Bits
  pub suspect : ℕ → Bool
  pub disk : IsFirmDisk before suspect
  pub keeps : KeepsSectors m before.shown
  pub change : StepInterrupted before suspect b

-- A sector of this tag may go to slot w: it is the lowest free one of a block that isn't suspect,
-- no copying goes on, another block is wholly free, and the generation is the next one.
pub record TakesSector (w : ℕ) (tag : Tag) (blocks : List BlockState) (b : Bits) : Type 0 where
  pub free : IsLowestFreePlace (w / 7) (w % 7) b.shown
  pub rest : AreAtRest (kind_at b.shown) (data_blocks b.shown)
  pub trusted : suspects_in blocks (w / 7) ≡ false
  pub room : HasSureSpareBut (w / 7) b
  pub sector : tag.number < sector_count (length b.shown)
  pub next : NextGeneration (slot_at b.shown) (slot_count b.shown) tag.number tag.generation
  pub single : IsSingle b.shown

-- Slot w may be retired: it is live, no copying goes on, and a newer slot of its sector is firm, or
-- it is the only one of its sector and holds zeros.
pub record GivesUpSector (w : ℕ) (b : Bits) : Type 0 where
  pub tag : Tag
  pub content : List ℕ
  pub live : slot_at b.shown w ≡ Live tag content
  pub rest : AreAtRest (kind_at b.shown) (data_blocks b.shown)
  pub spent : HasFirmNewer b tag ⊎ ((content ≡ zeros) × IsSingle b.shown)

-- descriptor and sector of slot w are firm
pub record IsFirmPlace (w : ℕ) (b : Bits) : Type 0 where
  pub descriptor : AreFirm b.weak (descriptor_place (w / 7) (w % 7)) 4
  pub sector : AreFirm b.weak (sector_place (w / 7) (w % 7)) 512
