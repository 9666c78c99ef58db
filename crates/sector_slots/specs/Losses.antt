-- What a loss of power leaves of a chip of slots that a firm mount left: the state before the
-- change that it interrupted, and that change. Source: own, layout 2.
use Rattle.std.specs.Prelude.{◌≡◌, ◌≢◌, ◌⊎◌, ℕ, ◌+◌, ◌/◌, ◌%◌, ◌<◌, Bool, false, List}
use Rattle.std.specs.Prelude.{length}
use Rattle.chip_model.specs.Memory.{byte}
use Rattle.chip_model.specs.Geometry.{sector_count}
use Rattle.chip_model.specs.Wavering.{Bits, Drawn}
use Rattle.nor_layout.specs.declared.header.Generation.{Generation}
use Rattle.nor_layout.specs.declared.header.Tag.{Tag}
use Rattle.nor_layout.specs.declared.kind.Kind.TheVariants as kinds
use Rattle.nor_layout.specs.Headers.{next_generation}
use Rattle.erase_journal.specs.Journals.{IsSettled}
use Rattle.erase_journal.specs.Torn.{BlockInterrupted, OpensNone, OpensOnly, SameBeside, SameData}
use Rattle.erase_journal.specs.Weak.{AreFirm, AreFirmJournals}
use Rattle.sector_slots.specs.Slots.{Free, Live, NoGeneration, IsClean, IsSpareIn, data_blocks}
use Rattle.sector_slots.specs.Slots.{kind_at, raw_slot, slot_at, slot_count}
use Rattle.sector_slots.specs.Sectors.{HasSlotsAlone, HoldsSectors, IsSingle, IsSoundMap, LiveAt}
use Rattle.sector_slots.specs.Sectors.{NextGeneration, with_sector, zeros}
use Rattle.sector_slots.specs.Blocks.{AreAtRest, IsTarget}
use Rattle.sector_slots.specs.Copying.{copy_slot, source_slot}
use Rattle.sector_slots.specs.Steps.{IsBegun, IsErasable, IsErasedSlot}
use Rattle.sector_slots.specs.Half.{HasFirmNewer}
use Rattle.sector_slots.specs.Torn.{BeginInterrupted, PutInterrupted, SameButPlace}
use Rattle.sector_slots.specs.Torn.{StateInterrupted}
use Rattle.sector_slots.specs.Weak.{HasByteBits, HasSureRoom, IsFirmStore, IsHalfChip, IsSureSlot}
use Rattle.sector_slots.specs.Weak.{descriptor_place, mark_place}

-- Of two live slots of a sector each is firm, or is the older one.
abbrev pub AreNewerFirm : Bits → Type 0
AreNewerFirm b = (s t g : ℕ) (j k : Generation) (x y : List ℕ)
    → LiveAt (slot_at b.shown) (slot_count b.shown) s g j x
    → LiveAt (slot_at b.shown) (slot_count b.shown) t g k y → s ≢ t
    → AreFirm b.weak (descriptor_place (s / 7) (s % 7)) 4 ⊎ (k ≡ next_generation j)

-- So it is from a firm mount to the next loss of power, between any two changes, also while a block
-- is copied: no erase goes on; slots and blocks are sound, and none is of a group; what reads as
-- free is erased; marks and slots are sure but where a block is suspect; and each later power-on
-- finds room.
pub record IsFirmDisk (b : Bits) (suspect : ℕ → Bool) : Type 0 where
  pub bytes : (c : ℕ) → c < data_blocks b.shown → HasByteBits b c
  pub settled : IsSettled b.shown
  pub sound : IsSoundMap b.shown
  pub alone : HasSlotsAlone b.shown
  pub clean : IsClean b.shown
  pub newer : AreNewerFirm b
  pub journals : AreFirmJournals b
  pub store : IsFirmStore b suspect
  pub room : HasSureRoom b

-- each slot of a block is sure
abbrev pub HasSureSlots : Bits → ℕ → Type 0
HasSureSlots b c = (i : ℕ) → i < 7 → IsSureSlot b c i

-- another block than c is wholly free, and its slots are sure
pub record HasSureSpareBut (c : ℕ) (b : Bits) : Type 0 where
  pub block : ℕ
  pub number : block < data_blocks b.shown
  pub other : block ≢ c
  pub spare : IsSpareIn b.shown block
  pub slots : HasSureSlots b block

-- place p is the lowest free one of data block c
pub record IsLowestFreePlace (c p : ℕ) (m : List ℕ) : Type 0 where
  pub number : c < data_blocks m
  pub within : p < 7
  pub free : raw_slot m c p ≡ Free
  pub lowest : (j : ℕ) → j < p → raw_slot m c j ≢ Free

-- where a block is the committed copy of another, no slot of that one is without a generation
abbrev pub HasWholeSources : List ℕ → Type 0
HasWholeSources m = (s t i : ℕ) → s < data_blocks m → t < data_blocks m
    → kind_at m t ≡ kinds.Committed (s + 4) → i < 7 → raw_slot m s i ≢ NoGeneration

-- A change that keeps the sectors, and that a loss of power interrupted: none of a data block, and
-- no entry is open then; a live slot was retired of whose sector a newer slot is firm, or that is
-- the only one of its sector and holds zeros; the lowest free slot of a block that isn't wholly
-- free was killed; or it was a step of a copying of block s into block t, or the erase of a block
-- none of whose slots counts as live, and then no entry is open for another one.
pub data StepInterrupted (a : Bits) (suspect : ℕ → Bool) (b : Bits) : Type 0 where
  none : HasWholeSources a.shown → length b.shown ≡ length a.shown → SameData a b → OpensNone b
      → StepInterrupted a suspect b
  retired : (c p : ℕ) (tag : Tag) (x : List ℕ) → c < data_blocks a.shown → p < 7
      → AreAtRest (kind_at a.shown) (data_blocks a.shown) → raw_slot a.shown c p ≡ Live tag x
      → HasFirmNewer a tag ⊎ ((x ≡ zeros) × IsSingle a.shown)
      → StateInterrupted (descriptor_place c p) 248 a b → StepInterrupted a suspect b
  killed : (c p : ℕ) → AreAtRest (kind_at a.shown) (data_blocks a.shown)
      → IsLowestFreePlace c p a.shown → (IsSpareIn a.shown c → ⊥)
      → StateInterrupted (descriptor_place c p) 251 a b → StepInterrupted a suspect b
  begun : (t : ℕ) → t < data_blocks a.shown → AreAtRest (kind_at a.shown) (data_blocks a.shown)
      → IsSpareIn a.shown t → suspect t ≡ false → BeginInterrupted t a b
      → StepInterrupted a suspect b
  copied : (t p : ℕ) → p < 7 → IsTarget t (data_blocks a.shown) (kind_at a.shown)
      → kind_at a.shown t ≡ kinds.Void → length b.shown ≡ length a.shown → SameButPlace t p a b
      → StepInterrupted a suspect b
  committed : (s t : ℕ) → s < data_blocks a.shown → s ≢ t
      → IsTarget t (data_blocks a.shown) (kind_at a.shown) → IsBegun t s a.shown
      → ((i : ℕ) → i < 7 → raw_slot a.shown t i ≡ copy_slot (source_slot a.shown s i))
      → ((i : ℕ) → i < 7 → raw_slot a.shown t i ≡ Free → IsErasedSlot t i a.shown)
      → (IsSpareIn a.shown s → HasSureSlots a s) → IsSingle a.shown
      → StateInterrupted (mark_place t) 252 a b → StepInterrupted a suspect b
  settled : (s t : ℕ) → s < data_blocks a.shown
      → IsTarget t (data_blocks a.shown) (kind_at a.shown)
      → kind_at a.shown t ≡ kinds.Committed (s + 4) → IsSpareIn a.shown s → HasSureSlots a s
      → StateInterrupted (mark_place t) 248 a b → StepInterrupted a suspect b
  erased : (c : ℕ) → c < data_blocks a.shown → IsErasable c a.shown → HasWholeSources a.shown
      → length b.shown ≡ length a.shown → SameBeside (c + 4) a b → BlockInterrupted (c + 4) a b
      → OpensOnly (c + 4) b → StepInterrupted a suspect b

-- A write of a sector was interrupted, into the lowest free slot of a block that isn't suspect,
-- with the next generation; another block is wholly free, and no sector has two live slots.
pub record WriteInterrupted (a : Bits) (suspect : ℕ → Bool) (tag : Tag) (content : List ℕ)
    (b : Bits) : Type 0 where
  pub block : ℕ
  pub place : ℕ
  pub free : IsLowestFreePlace block place a.shown
  pub rest : AreAtRest (kind_at a.shown) (data_blocks a.shown)
  pub trusted : suspect block ≡ false
  pub room : HasSureSpareBut block a
  pub sector : tag.number < sector_count (length a.shown)
  pub next : NextGeneration (slot_at a.shown) (slot_count a.shown) tag.number tag.generation
  pub single : IsSingle a.shown
  pub size : length content ≡ 512
  pub bytes : (k : ℕ) → byte content k < 256
  pub put : PutInterrupted block place tag content a b

-- However the weak bits read at the next power-on, the data blocks are as the next firm mount needs
-- them: ones of which one change was interrupted.
abbrev pub IsHalfChipAtEachDraw : Bits → Type 0
IsHalfChipAtEachDraw b = (v : List ℕ) → Drawn b.weak b.shown v
    → IsHalfChip (record { shown = v; weak = b.weak })

-- So it is after each interrupted change.
pub record LossesLeaveHalfChips : Type 0 where
  pub change : (a : Bits) (suspect : ℕ → Bool) (b : Bits) → IsFirmDisk a suspect
      → StepInterrupted a suspect b → IsHalfChipAtEachDraw b
  pub write : (a : Bits) (suspect : ℕ → Bool) (tag : Tag) (content : List ℕ) (b : Bits)
      → IsFirmDisk a suspect → WriteInterrupted a suspect tag content b → IsHalfChipAtEachDraw b

-- An interrupted change keeps the sectors also at the next power-on, however the weak bits read
-- then. After an interrupted write all sectors are as before, or the one that was written holds the
-- new content.
pub record LossesKeepSectors : Type 0 where
  pub change : (a : Bits) (suspect : ℕ → Bool) (b : Bits) (sectors : ℕ → List ℕ)
      → IsFirmDisk a suspect → StepInterrupted a suspect b → HoldsSectors sectors a.shown
      → (v : List ℕ) → Drawn b.weak b.shown v → HoldsSectors sectors v
  pub write : (a : Bits) (suspect : ℕ → Bool) (tag : Tag) (content : List ℕ) (b : Bits)
      (sectors : ℕ → List ℕ) → IsFirmDisk a suspect
      → WriteInterrupted a suspect tag content b → HoldsSectors sectors a.shown
      → (v : List ℕ) → Drawn b.weak b.shown v
      → HoldsSectors sectors v ⊎ HoldsSectors (with_sector sectors tag.number content) v
