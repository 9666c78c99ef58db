-- What a loss of power in a call leaves of the data blocks of a store that a firm mount left.
-- Source: own, layout 2.
use Rattle.std.specs.Prelude.{◌≡◌, ◌≢◌, ◌⊎◌, ℕ, ◌+◌, ◌<◌, Bool, false, List, length}
use Rattle.chip_model.specs.Memory.{byte}
use Rattle.chip_model.specs.Wavering.{Bits, Drawn}
use Rattle.nor_layout.specs.declared.header.Tag.{Tag}
use Rattle.nor_layout.specs.declared.kind.Kind.{Kind}
use Rattle.nor_layout.specs.declared.kind.Kind.TheVariants as kinds
use Rattle.nor_layout.specs.Headers.{next_generation}
use Rattle.erase_journal.specs.Blocks.{is_opened}
use Rattle.erase_journal.specs.Journals.{IsSettled}
use Rattle.erase_journal.specs.Torn.{BlockInterrupted, SameBlock}
use Rattle.erase_journal.specs.Weak.{AreFirm, AreFirmJournals}
use Rattle.sector_slots.specs.Slots.{Free, Live, NoGeneration, data_blocks, kind_at, raw_slot}
use Rattle.sector_slots.specs.Slots.{IsSpareIn}
use Rattle.sector_slots.specs.Sectors.{HasSlotsAlone, IsSoundMap, zeros}
use Rattle.sector_slots.specs.Blocks.{AreAtRest}
use Rattle.sector_slots.specs.Torn.{BeginInterrupted, PutInterrupted, SameButPlace}
use Rattle.sector_slots.specs.Torn.{StateInterrupted}
use Rattle.sector_slots.specs.Weak.{HasByteBits, IsFirmStore, IsHalfBlock, IsSureBlock}
use Rattle.sector_slots.specs.Weak.{descriptor_place, mark_place, sector_place}

-- a block of slots, not of a group, whose mark is a known one
abbrev pub HasMark : Kind → Type 0
HasMark kinds.Plain = Unit {0}
HasMark kinds.Void = Unit {0}
HasMark (kinds.Committed source) = Unit {0}
HasMark kinds.Settled = Unit {0}
HasMark (kinds.Group tag) = ⊥
HasMark kinds.DeadGroup = ⊥
HasMark kinds.SpoiltGroup = ⊥
HasMark kinds.Unknown = ⊥

-- What is known of a block before a call: no erase goes on, it is of slots, where it isn't void
-- none of them is without a generation, and of each byte eight bits are weak at most.
pub record IsKnownBlock (a : Bits) (c : ℕ) : Type 0 where
  pub settled : IsSettled a.shown
  pub marked : HasMark (kind_at a.shown c)
  pub whole : kind_at a.shown c ≢ kinds.Void → (i : ℕ) → i < 7
      → raw_slot a.shown c i ≢ NoGeneration
  pub bytes : HasByteBits a c

-- a newer slot holds the sector, and its bytes are firm
pub record HasFirmNewer (a : Bits) (tag : Tag) : Type 0 where
  pub block : ℕ
  pub place : ℕ
  pub content : List ℕ
  pub number : block < data_blocks a.shown
  pub within : place < 7
  pub live : raw_slot a.shown block place
      ≡ Live (record { number = tag.number; generation = next_generation tag.generation }) content
  pub descriptor : AreFirm a.weak (descriptor_place block place) 4
  pub sector : AreFirm a.weak (sector_place block place) 512

-- However the weak bits read at the next power-on, data block c is one of which one change was
-- interrupted, where no erase of it goes on.
abbrev pub IsHalfAtEachDraw : ℕ → Bits → Type 0
IsHalfAtEachDraw c b = (v : List ℕ) → Drawn b.weak b.shown v → is_opened v (c + 4) ≡ false
    → IsHalfBlock (record { shown = v; weak = b.weak }) c

-- So it is where the power goes in a call: of a block that was sure, by what the call's clause says
-- of the bits.
pub record LossesLeaveHalfBlocks : Type 0 where
  -- so much is known of each block of a sound chip of slots between two calls; during a copying it
  -- has to be shown of each block otherwise
  pub known : (a : Bits) (c : ℕ) → IsSettled a.shown → IsSoundMap a.shown
      → AreAtRest (kind_at a.shown) (data_blocks a.shown) → HasSlotsAlone a.shown
      → c < data_blocks a.shown → HasByteBits a c → IsKnownBlock a c
  -- a block in which nothing was changed
  pub others : (a new : Bits) (suspect : Bool) (c : ℕ) → IsKnownBlock a c → IsSureBlock a suspect c
      → length new.shown ≡ length a.shown → SameBlock (c + 4) a new → IsHalfAtEachDraw c new
  -- the lowest free slot is written, of a block that isn't suspect
  pub put : (a new : Bits) (c p : ℕ) (tag : Tag) (content : List ℕ) → length content ≡ 512 → p < 7
      → IsKnownBlock a c → IsSureBlock a false c → raw_slot a.shown c p ≡ Free
      → ((j : ℕ) → j < p → raw_slot a.shown c j ≢ Free) → length new.shown ≡ length a.shown
      → HasByteBits new c → PutInterrupted c p tag content a new → IsHalfAtEachDraw c new
  -- a live slot is retired that holds zeros, or whose sector a newer slot holds firmly
  pub retire : (a new : Bits) (suspect : ℕ → Bool) (c p : ℕ) (tag : Tag) (x : List ℕ)
      → c < data_blocks a.shown → p < 7 → IsKnownBlock a c
      → AreAtRest (kind_at a.shown) (data_blocks a.shown) → HasSlotsAlone a.shown
      → AreFirmJournals a → IsFirmStore a suspect → raw_slot a.shown c p ≡ Live tag x
      → HasFirmNewer a tag ⊎ (x ≡ zeros) → StateInterrupted (descriptor_place c p) 248 a new
      → IsHalfAtEachDraw c new
  -- the lowest free slot is killed, of a block that isn't wholly free
  pub kill : (a new : Bits) (suspect : Bool) (c p : ℕ) → p < 7 → IsKnownBlock a c
      → IsSureBlock a suspect c → (IsSpareIn a.shown c → ⊥) → raw_slot a.shown c p ≡ Free
      → ((j : ℕ) → j < p → raw_slot a.shown c j ≢ Free)
      → StateInterrupted (descriptor_place c p) 251 a new → IsHalfAtEachDraw c new
  -- a copying is begun into a wholly free block that isn't suspect
  pub begin : (a new : Bits) (c : ℕ) → IsKnownBlock a c → IsSureBlock a false c
      → IsSpareIn a.shown c → BeginInterrupted c a new → IsHalfAtEachDraw c new
  -- a slot is copied into a void block
  pub copy : (a new : Bits) (suspect : Bool) (c p : ℕ) → p < 7 → IsSettled a.shown
      → IsSureBlock a suspect c → kind_at a.shown c ≡ kinds.Void
      → length new.shown ≡ length a.shown → SameButPlace c p a new → IsHalfAtEachDraw c new
  -- a copy is committed
  pub commit : (a new : Bits) (suspect : Bool) (c : ℕ) → IsKnownBlock a c → IsSureBlock a suspect c
      → kind_at a.shown c ≡ kinds.Void → byte a.shown (mark_place c) ≡ 254
      → ((i : ℕ) → i < 7 → raw_slot a.shown c i ≢ NoGeneration)
      → StateInterrupted (mark_place c) 252 a new → IsHalfAtEachDraw c new
  -- and settled
  pub settle : (a new : Bits) (suspect : Bool) (c source : ℕ) → IsKnownBlock a c
      → IsSureBlock a suspect c → kind_at a.shown c ≡ kinds.Committed source
      → StateInterrupted (mark_place c) 248 a new → IsHalfAtEachDraw c new
  -- a block is erased
  pub erase : (a new : Bits) (suspect : Bool) (c : ℕ) → c < data_blocks a.shown → IsKnownBlock a c
      → IsSureBlock a suspect c → length new.shown ≡ length a.shown
      → BlockInterrupted (c + 4) a new → IsHalfAtEachDraw c new
