-- What the calls of a store of slots leave, by their answer. Data blocks and slots are counted from
-- 0. Source: own, layout 2.
use Rattle.std.specs.Prelude.{◌≡◌, ◌≢◌, ◌⊎◌, ℕ, ◌+◌, ◌*◌, ◌/◌, ◌<◌, false, List, [], ◌∷◌}
use Rattle.chip_model.specs.Memory.{byte, and_at}
use Rattle.nor_layout.specs.declared.header.Tag.{Tag}
use Rattle.nor_layout.specs.declared.kind.Kind.TheVariants as kinds
use Rattle.nor_layout.specs.Kinds.{kind_of}
use Rattle.erase_journal.specs.Blocks.{OnlyBlock}
use Rattle.sector_slots.specs.Slots.{Slot, Free, Live, Dead, IsLive, is_group, slot_at}
use Rattle.sector_slots.specs.Slots.{slot_count, data_block, kind_at, raw_slot, content_bytes}
use Rattle.sector_slots.specs.Slots.{blank_sector, IsClean}

-- a sector can be written into slot s: it is free, and what reads as free is erased
abbrev pub IsWritable : ℕ → List ℕ → Type 0
IsWritable s m = (slot_at m s ≡ Free) × IsClean m

-- slot s can be retired alone: it counts as live, and its block isn't of a group
abbrev pub IsRetirable : ℕ → List ℕ → Type 0
IsRetirable s m = IsLive (slot_at m s) × (is_group (kind_at m (s / 7)) ≡ false)

-- What a write into a free slot leaves there where it is cut: the slot is free, dead, or holds the
-- sector whole.
pub data PutLeaves (tag : Tag) (content : List ℕ) (slot : Slot) : Type 0 where
  still_free : slot ≡ Free → PutLeaves tag content slot
  half_written : slot ≡ Dead → PutLeaves tag content slot
  written : slot ≡ Live tag content → PutLeaves tag content slot

-- A slot is live with this tag, whatever its content; and what a cut write of this tag leaves, also
-- where the bytes of the free slot weren't erased.
abbrev pub HoldsTag : Tag → Slot → Type 0
HoldsTag tag slot = (content : List ℕ) × (slot ≡ Live tag content)

abbrev pub MayHoldTag : Tag → Slot → Type 0
MayHoldTag tag slot = (slot ≡ Free) ⊎ ((slot ≡ Dead) ⊎ HoldsTag tag slot)

-- all blocks but that of slot w are as they were, and of that the kind and all slots but w
pub record OnlyPlace (w : ℕ) (m m' : List ℕ) : Type 0 where
  pub only : OnlyBlock (w / 7 + 4) m m'
  pub kind : kind_at m' (w / 7) ≡ kind_at m (w / 7)
  pub slots : (i : ℕ) → i < 7 → 7 * (w / 7) + i ≢ w → raw_slot m' (w / 7) i ≡ raw_slot m (w / 7) i

-- all blocks but c are as they were, and of that all slots and their bytes
pub record OnlyMark (c : ℕ) (m m' : List ℕ) : Type 0 where
  pub only : OnlyBlock (c + 4) m m'
  pub slots : (i : ℕ) → i < 7 → raw_slot m' c i ≡ raw_slot m c i
  pub contents : (i : ℕ) → i < 7 → content_bytes (data_block m' c) i
      ≡ content_bytes (data_block m c) i

-- a copy of data block s was begun in data block t, and not cut: its state is FEh, it is void, and
-- once its state is programmed FCh the committed copy of s. (A void block whose state is still FFh
-- could be cut at FDh, which is no state.)
pub record IsBegun (t s : ℕ) (m : List ℕ) : Type 0 where
  pub state : byte (data_block m t) 4 ≡ 254
  pub void : kind_at m t ≡ kinds.Void
  pub once : kind_of (and_at (data_block m t) 4 (252 ∷ [])) ≡ kinds.Committed (s + 4)

-- nothing was programmed at place i of data block t since it was erased
pub record IsErasedSlot (t i : ℕ) (m : List ℕ) : Type 0 where
  pub free : raw_slot m t i ≡ Free
  pub blank : content_bytes (data_block m t) i ≡ blank_sector

-- What a copy of a slot leaves at place i of data block t, which was free: where the slot is live
-- the same tag, and where nothing was programmed at the place before, the same sector too; where it
-- isn't live, nothing changes.
pub data CopyLeaves (old : Slot) (t i : ℕ) (m m' : List ℕ) : Type 0 where
  live_copied : (tag : Tag) (x : List ℕ) → old ≡ Live tag x → HoldsTag tag (raw_slot m' t i)
      → (IsErasedSlot t i m → raw_slot m' t i ≡ Live tag x) → CopyLeaves old t i m m'
  passed_over : ((tag : Tag) (x : List ℕ) → old ≢ Live tag x) → data_block m' t ≡ data_block m t
      → CopyLeaves old t i m m'

-- a block may be erased: it isn't committed, and none of its slots counts as live
pub record IsErasable (c : ℕ) (m : List ℕ) : Type 0 where
  pub copy : (b : ℕ) → kind_at m c ≢ kinds.Committed b
  pub dead : (s : ℕ) (tag : Tag) (x : List ℕ) → s < slot_count m → s / 7 ≡ c
      → slot_at m s ≢ Live tag x
