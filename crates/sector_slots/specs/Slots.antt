-- The slots that a memory represents: seven in each data block, each free, dead, or live with a
-- sector of 512 bytes; and which of them count. Data blocks are counted from 0 here (block 4 of the
-- chip is data block 0), slots too: slot 7c + i is the slot at place i of data block c. Source:
-- own, layout 2.
use Rattle.std.specs.Prelude.{◌≡◌, ◌≢◌, ℕ, ◌+◌, ◌-◌, ◌*◌, ◌/◌, ◌%◌, ◌<◌, ◌==◌, ◌&&◌, Bool, true}
use Rattle.std.specs.Prelude.{false, not, if◌then◌else◌, List, length, drop, slice_index_or}
use Rattle.chip_model.specs.Parts.{part}
use Rattle.chip_model.specs.Geometry.{block_count}
use Rattle.nor_layout.specs.declared.header.Header.{Header}
use Rattle.nor_layout.specs.declared.header.Header.TheVariants as headers
use Rattle.nor_layout.specs.declared.header.Tag.{Tag}
use Rattle.nor_layout.specs.declared.kind.Kind.{Kind}
use Rattle.nor_layout.specs.declared.kind.Kind.TheVariants as kinds
use Rattle.nor_layout.specs.Headers.{header_of}
use Rattle.nor_layout.specs.Kinds.{kind_of}
pub use Rattle.nor_layout.specs.Kinds.{is_group}
use Rattle.erase_journal.specs.Places.{how_many}
use Rattle.erase_journal.specs.Blocks.{block, blank, SameChip}

-- A slot is free; or live with a tag, which is a sector and its generation, and the sector's 512
-- bytes; or committed without a generation, which no write leaves; or dead; or outside, in a block
-- whose slots don't count.
pub data Slot : Type 0 where
  Free : Slot
  Live : (tag : Tag) (content : List ℕ) → Slot
  NoGeneration : Slot
  Dead : Slot
  Outside : Slot

-- what a descriptor says, and the bytes that go with it
abbrev pub slot_with : Header → List ℕ → Slot
slot_with headers.Free content = Free
slot_with (headers.Live tag) content = Live tag content
slot_with headers.NoGeneration content = NoGeneration
slot_with headers.Dead content = Dead

-- the bytes of the slot at place i of a block: its sector is the part i + 1 of the eight of 512
-- bytes, its descriptor the four bytes from 16 + 4i on
abbrev pub content_bytes : List ℕ → ℕ → List ℕ
content_bytes b i = part 512 b (i + 1)

-- what these four bytes say
abbrev pub written_in : List ℕ → ℕ → Header
written_in b i = header_of (drop (16 + 4 * i) b)

-- The place i of a block with a group is seen as a slot too: sector 7g + i, with the group's
-- generation.
abbrev pub group_tag : Tag → ℕ → Tag
group_tag group i = record { number = 7 * group.number + i; generation = group.generation }

-- what is said of place i in a block of this kind, whose descriptor says this
abbrev pub header_in : Kind → Header → ℕ → Header
header_in kinds.Plain written i = written
header_in kinds.Void written i = written
header_in (kinds.Committed source) written i = written
header_in kinds.Settled written i = written
header_in (kinds.Group group) written i = headers.Live (group_tag group i)
header_in kinds.DeadGroup written i = headers.Dead
header_in kinds.SpoiltGroup written i = headers.NoGeneration
header_in kinds.Unknown written i = written

unfoldable pub descriptor_in : List ℕ → ℕ → Header
descriptor_in b i = header_in (kind_of b) (written_in b i) i

-- what a list of descriptors says of place i
abbrev pub read_header : List Header → ℕ → Header
read_header list i = slice_index_or list i headers.Free

-- what the bytes of a block say of that slot, whether it counts or not
unfoldable pub slot_in : List ℕ → ℕ → Slot
slot_in b i = slot_with (descriptor_in b i) (content_bytes b i)

-- Which blocks count. A void one doesn't, nor does one of which there is a committed copy.
abbrev pub is_void : Kind → Bool
is_void kinds.Plain = false
is_void kinds.Void = true
is_void (kinds.Committed source) = false
is_void kinds.Settled = false
is_void (kinds.Group tag) = false
is_void kinds.DeadGroup = false
is_void kinds.SpoiltGroup = false
is_void kinds.Unknown = false

-- whether a block of this kind is the committed copy of block b of the chip
abbrev pub is_copy_of : ℕ → Kind → Bool
is_copy_of b kinds.Plain = false
is_copy_of b kinds.Void = false
is_copy_of b (kinds.Committed source) = source == b
is_copy_of b kinds.Settled = false
is_copy_of b (kinds.Group tag) = false
is_copy_of b kinds.DeadGroup = false
is_copy_of b kinds.SpoiltGroup = false
is_copy_of b kinds.Unknown = false

-- of n data blocks of these kinds, how many are copies of data block c
unfoldable pub copies : (ℕ → Kind) → ℕ → ℕ → ℕ
copies kind n c = how_many (λ d. is_copy_of (c + 4) (kind d)) n

abbrev pub is_counted : (ℕ → Kind) → ℕ → ℕ → Bool
is_counted kind n c = not (is_void (kind c)) && (copies kind n c == 0)

-- The slots of n data blocks of these kinds, of which `slots c i` is the one at place i of data
-- block c: those that count.
unfoldable pub counted : (ℕ → Kind) → (ℕ → ℕ → Slot) → ℕ → ℕ → Slot
counted kind slots n s = if is_counted kind n (s / 7) then slots (s / 7) (s % 7) else Outside

-- A memory's: its data blocks, their kinds, their slots, and the slots that count.
abbrev pub data_blocks : List ℕ → ℕ
data_blocks m = block_count (length m) - 4

abbrev pub data_block : List ℕ → ℕ → List ℕ
data_block m c = block m (c + 4)

abbrev pub kind_at : List ℕ → ℕ → Kind
kind_at m c = kind_of (data_block m c)

abbrev pub raw_slot : List ℕ → ℕ → ℕ → Slot
raw_slot m c i = slot_in (data_block m c) i

-- what the bytes say of slot s, whether it counts or not
abbrev pub stored_at : List ℕ → ℕ → Slot
stored_at m s = raw_slot m (s / 7) (s % 7)

abbrev pub descriptor_at : List ℕ → ℕ → Header
descriptor_at m s = descriptor_in (data_block m (s / 7)) (s % 7)

abbrev pub slot_count : List ℕ → ℕ
slot_count m = 7 * data_blocks m

abbrev pub slot_at : List ℕ → ℕ → Slot
slot_at m s = counted (kind_at m) (raw_slot m) (data_blocks m) s

abbrev pub IsLive : Slot → Type 0
IsLive slot = (tag : Tag) × (content : List ℕ) × (slot ≡ Live tag content)

-- data block c is wholly free: plain, and each of its slots is free
pub record IsSpare (kind : ℕ → Kind) (slots : ℕ → ℕ → Slot) (c : ℕ) : Type 0 where
  pub plain : kind c ≡ kinds.Plain
  pub free : (i : ℕ) → i < 7 → slots c i ≡ Free

abbrev pub IsSpareIn : List ℕ → ℕ → Type 0
IsSpareIn m c = IsSpare (kind_at m) (raw_slot m) c

-- a sector of an erased block
abbrev pub blank_sector : List ℕ
blank_sector = part 512 blank 1

-- What reads as free is erased: the data of each free slot that counts, and each wholly free block.
pub record IsClean (m : List ℕ) : Type 0 where
  pub slots : (s : ℕ) → s < slot_count m → slot_at m s ≡ Free
      → content_bytes (data_block m (s / 7)) (s % 7) ≡ blank_sector
  pub spare : (c : ℕ) → c < data_blocks m → IsSpareIn m c → data_block m c ≡ blank

-- the same superblock, the same length and the same slots
pub record SameSlots (m m' : List ℕ) : Type 0 where
  pub chip : SameChip m m'
  pub each : (s : ℕ) → s < slot_count m → slot_at m' s ≡ slot_at m s
  pub clean : IsClean m → IsClean m'

-- and the same slots but for slot w
pub record OnlySlot (w : ℕ) (m m' : List ℕ) : Type 0 where
  pub chip : SameChip m m'
  pub others : (s : ℕ) → s < slot_count m → s ≢ w → slot_at m' s ≡ slot_at m s
