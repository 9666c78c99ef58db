-- Where weak bits may lie in the data blocks of a chip of slots (layout 2): once a firm mount is
-- done, and when it begins. Block and place are given by their numbers: slot 7c + i is the one at
-- place i of data block c. Source: own.
use Rattle.std.specs.Prelude.{◌≡◌, ◌≢◌, ◌⊎◌, ℕ, ◌+◌, ◌*◌, ◌<◌, ◌≤◌, Bool, true, false, List}
use Rattle.std.specs.Int.{bit_at}
use Rattle.chip_model.specs.Memory.{byte}
use Rattle.chip_model.specs.Wavering.{Bits}
use Rattle.nor_layout.specs.declared.header.Tag.{Tag}
use Rattle.nor_layout.specs.declared.kind.Kind.{Kind}
use Rattle.nor_layout.specs.declared.kind.Kind.TheVariants as kinds
use Rattle.nor_layout.specs.Headers.{next_generation}
use Rattle.nor_layout.specs.Journals.{block_len}
use Rattle.erase_journal.specs.Blocks.{is_opened}
use Rattle.erase_journal.specs.Weak.{AreFirm}
use Rattle.sector_slots.specs.Slots.{Slot, Free, Live, NoGeneration, Dead, Outside}
use Rattle.sector_slots.specs.Slots.{data_blocks, kind_at, raw_slot, slot_at}
use Rattle.sector_slots.specs.Slots.{slot_count, IsSpareIn}
use Rattle.sector_slots.specs.Sectors.{LiveAt, zeros}

-- where data block c begins; its mark, and the descriptor and the sector of place i
abbrev pub block_place : ℕ → ℕ
block_place c = block_len * (c + 4)

abbrev pub mark_place : ℕ → ℕ
mark_place c = block_place c + 4

abbrev pub descriptor_place : ℕ → ℕ → ℕ
descriptor_place c i = block_place c + (16 + 4 * i)

abbrev pub sector_place : ℕ → ℕ → ℕ
sector_place c i = block_place c + 512 * (i + 1)

-- of each byte of data block c eight bits are weak at most
abbrev pub HasByteBits : Bits → ℕ → Type 0
HasByteBits b c = (k j : ℕ) → k < block_len → 8 ≤ j → bit_at (byte b.weak (block_place c + k)) j ≡ 0

-- so it is of each
abbrev pub HaveByteBits : Bits → Type 0
HaveByteBits b = (c : ℕ) → c < data_blocks b.shown → HasByteBits b c

-- no bit of data block c is weak
abbrev pub IsWhollyFirm : List ℕ → ℕ → Type 0
IsWhollyFirm w c = AreFirm w (block_place c) block_len

-- The bytes of data block c that are neither mark nor descriptor nor sector are firm.
pub record AreEdgesFirm (w : List ℕ) (c : ℕ) : Type 0 where
  pub start : AreFirm w (block_place c) 4
  pub after_mark : AreFirm w (block_place c + 8) 8
  pub after_descriptors : AreFirm w (block_place c + 44) 468

-- The slot is dead for good: a bit of its state that a free one and a live one have reads 0, and is
-- firm. So it is neither at any later power-on, whatever its other bits read as.
pub record IsDeadForGood (b : Bits) (c i : ℕ) : Type 0 where
  pub bit : ℕ
  pub from : 2 ≤ bit
  pub below : bit < 8
  pub reads : bit_at (byte b.shown (descriptor_place c i)) bit ≡ 0
  pub firm : bit_at (byte b.weak (descriptor_place c i)) bit ≡ 0

-- The slot is live with zeros, and its retirement was cut: the third bit of its state alone is
-- weak. It reads as live or as dead, and its sector is zeros either way.
pub record IsFadingSlot (b : Bits) (c i : ℕ) : Type 0 where
  pub tag : Tag
  pub live : raw_slot b.shown c i ≡ Live tag zeros
  pub state : (k : ℕ) → k ≢ 2 → bit_at (byte b.weak (descriptor_place c i)) k ≡ 0
  pub rest : AreFirm b.weak (descriptor_place c i + 1) 3
  pub sector : AreFirm b.weak (sector_place c i) 512

-- What is read of a slot is the same at each later power-on, but that a slot of zeros may fade.
pub data IsSureSlot (b : Bits) (c i : ℕ) : Type 0 where
  firm : AreFirm b.weak (descriptor_place c i) 4 → AreFirm b.weak (sector_place c i) 512
      → IsSureSlot b c i
  dead : IsDeadForGood b c i → IsSureSlot b c i
  fading : IsFadingSlot b c i → IsSureSlot b c i

-- The lowest free slot of its block, whose descriptor may have been torn: the second bit of its
-- state is firm, so that it never reads as live, and so is its sector.
pub record IsDoubtfulSlot (b : Bits) (c i : ℕ) : Type 0 where
  pub free : raw_slot b.shown c i ≡ Free
  pub lowest : (j : ℕ) → j < i → raw_slot b.shown c j ≢ Free
  pub state : bit_at (byte b.weak (descriptor_place c i)) 1 ≡ 0
  pub sector : AreFirm b.weak (sector_place c i) 512

-- The block is wholly free, its slots are sure, and its mark may have been torn as a copying into
-- it began: of its first byte the lowest bit alone is perhaps weak, so that it reads as free or as
-- void.
pub record IsDoubtfulMark (b : Bits) (c : ℕ) : Type 0 where
  pub spare : IsSpareIn b.shown c
  pub slots : (i : ℕ) → i < 7 → IsSureSlot b c i
  pub state : (k : ℕ) → k ≢ 0 → bit_at (byte b.weak (mark_place c)) k ≡ 0

-- After a firm mount, and while no call goes on: mark and slots of a block are sure; but in one
-- that is suspect the mark of a wholly free one, and the lowest free slot.
pub record IsSureBlock (b : Bits) (suspect : Bool) (c : ℕ) : Type 0 where
  pub edges : AreEdgesFirm b.weak c
  pub mark : AreFirm b.weak (mark_place c) 4 ⊎ ((suspect ≡ true) × IsDoubtfulMark b c)
  pub slots : (i : ℕ) → i < 7 → IsSureSlot b c i ⊎ ((suspect ≡ true) × IsDoubtfulSlot b c i)

-- So it is of all blocks, of which these are suspect.
abbrev pub IsFirmStore : Bits → (ℕ → Bool) → Type 0
IsFirmStore b suspect = (c : ℕ) → c < data_blocks b.shown → IsSureBlock b (suspect c) c

-- a block is wholly free, and its slots are sure
pub record HasSureSpare (b : Bits) : Type 0 where
  pub block : ℕ
  pub number : block < data_blocks b.shown
  pub spare : IsSpareIn b.shown block
  pub slots : (i : ℕ) → i < 7 → IsSureSlot b block i

-- What a firm mount leaves: all blocks are suspect, one is wholly free and sure, and of each byte
-- eight bits are weak at most.
pub record IsDoubtedStore (b : Bits) : Type 0 where
  pub bytes : HaveByteBits b
  pub each : IsFirmStore b (λ c. true)
  pub room : HasSureSpare b

-- What follows is when a firm mount begins: what one interrupted change leaves of such a store, as
-- it reads now. A bit that reads 0 may be weak where the mount programs it again.

-- each bit that reads 1 of so many bytes is firm
abbrev pub AreOnesFirm : Bits → ℕ → ℕ → Type 0
AreOnesFirm b at n = (i k : ℕ) → at ≤ i → i < at + n → bit_at (byte b.shown i) k ≡ 1
    → bit_at (byte b.weak i) k ≡ 0

-- of a state: but perhaps the third bit
abbrev pub AreOnesFirmButThird : Bits → ℕ → Type 0
AreOnesFirmButThird b at = (k : ℕ) → k ≢ 2 → bit_at (byte b.shown at) k ≡ 1
    → bit_at (byte b.weak at) k ≡ 0

-- A mark: of a plain block firm, or doubtful; of a committed one the settlement may have been cut;
-- of a settled one each bit that reads 1 is firm. Of a void one nothing is said: it is erased.
abbrev pub HalfMark : Kind → Bits → ℕ → Type 0
HalfMark kinds.Plain b c = AreFirm b.weak (mark_place c) 4 ⊎ IsDoubtfulMark b c
HalfMark kinds.Void b c = Unit {0}
HalfMark (kinds.Committed source) b c = AreOnesFirmButThird b (mark_place c)
    × AreOnesFirm b (mark_place c + 1) 3
HalfMark kinds.Settled b c = AreOnesFirm b (mark_place c) 4
HalfMark (kinds.Group tag) b c = ⊥
HalfMark kinds.DeadGroup b c = ⊥
HalfMark kinds.SpoiltGroup b c = ⊥
HalfMark kinds.Unknown b c = ⊥

-- another slot is live with the sector of this tag, and is the newer one
pub record HasNewer (m : List ℕ) (tag : Tag) : Type 0 where
  pub slot : ℕ
  pub content : List ℕ
  pub live : LiveAt (slot_at m) (slot_count m) slot tag.number (next_generation tag.generation)
      content

-- A live slot: its sector is firm, and each bit of its descriptor that reads 1; but the third one
-- of the state, where a newer slot holds the sector, or the sector is zeros.
pub record IsHalfLive (b : Bits) (c i : ℕ) (tag : Tag) (content : List ℕ) : Type 0 where
  pub sector : AreFirm b.weak (sector_place c i) 512
  pub rest : AreOnesFirm b (descriptor_place c i + 1) 3
  pub state : AreOnesFirm b (descriptor_place c i) 1 ⊎ (AreOnesFirmButThird b (descriptor_place c i)
      × (HasNewer b.shown tag ⊎ (content ≡ zeros)))

-- A free slot is firm, or doubtful. Of a dead one nothing is said: it is made dead for good, or if
-- it is begun its block is moved.
abbrev pub HalfSlot : Slot → Bits → ℕ → ℕ → Type 0
HalfSlot Free b c i = IsSureSlot b c i ⊎ IsDoubtfulSlot b c i
HalfSlot (Live tag content) b c i = IsHalfLive b c i tag content
HalfSlot NoGeneration b c i = ⊥
HalfSlot Dead b c i = Unit {0}
HalfSlot Outside b c i = ⊥

-- Of a block that is void nothing more is said. Of each byte eight bits are weak at most.
pub record IsHalfBlock (b : Bits) (c : ℕ) : Type 0 where
  pub bytes : kind_at b.shown c ≢ kinds.Void → HasByteBits b c
  pub mark : HalfMark (kind_at b.shown c) b c
  pub edges : kind_at b.shown c ≢ kinds.Void → AreEdgesFirm b.weak c
  pub slots : kind_at b.shown c ≢ kinds.Void → (i : ℕ) → i < 7
      → HalfSlot (raw_slot b.shown c i) b c i

-- A mount will find room, also at a later power-on: a block is wholly free, and its slots are sure;
-- or a block is void; or one is a committed copy, and its source, where that is wholly free, has
-- slots that are sure.
pub data HasSureRoom (b : Bits) : Type 0 where
  spare : (c : ℕ) → c < data_blocks b.shown → IsSpareIn b.shown c
      → ((i : ℕ) → i < 7 → IsSureSlot b c i) → HasSureRoom b
  void : (c : ℕ) → c < data_blocks b.shown → kind_at b.shown c ≡ kinds.Void → HasSureRoom b
  committed : (s t : ℕ) → s < data_blocks b.shown → t < data_blocks b.shown
      → kind_at b.shown t ≡ kinds.Committed (s + 4)
      → (IsSpareIn b.shown s → (i : ℕ) → i < 7 → IsSureSlot b s i) → HasSureRoom b

-- All of it where no erase goes on.
pub record IsHalfStore (b : Bits) : Type 0 where
  pub each : (c : ℕ) → c < data_blocks b.shown → IsHalfBlock b c
  pub room : HasSureRoom b

-- The same where an erase may go on: of a block that has an open entry nothing is said, but that it
-- is room.
pub data HasChipRoom (b : Bits) : Type 0 where
  found : HasSureRoom b → HasChipRoom b
  opened : (c : ℕ) → c < data_blocks b.shown → is_opened b.shown (c + 4) ≡ true → HasChipRoom b

pub record IsHalfChip (b : Bits) : Type 0 where
  pub each : (c : ℕ) → c < data_blocks b.shown → is_opened b.shown (c + 4) ≡ false → IsHalfBlock b c
  pub room : HasChipRoom b
