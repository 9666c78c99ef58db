-- A chip of slots (layout 2) whose weak bits lie only where nothing reads them, or where firm bits
-- beside them decide what is read. It is given by a memory m, as it reads now, and its weak bits w:
-- as many bytes, whose 1 bits are the weak ones. Source: own.
use Rattle.std.specs.Prelude.{◌≡◌, ◌≢◌, ℕ, ◌+◌, ◌*◌, ◌/◌, ◌%◌, ◌<◌, ◌≤◌, List, length, true}
use Rattle.std.specs.Int.{bit_at}
use Rattle.chip_model.specs.Memory.{byte}
use Rattle.nor_layout.specs.declared.journal.JournalId.{JournalId}
use Rattle.nor_layout.specs.Journals.{journal_at, region_len, block_len}
use Rattle.nor_layout.specs.Entries.{entry_count, entry_at}
use Rattle.erase_journal.specs.Journals.{entries_for}
use Rattle.erase_journal.specs.Blocks.{is_believed0}
use Rattle.erase_journal.specs.Weak.{AreFirm, IsFirmVote}
use Rattle.sector_slots.specs.Slots.{data_blocks, slot_count}

-- and each of them is v
pub record AreFirmly (m w : List ℕ) (at n v : ℕ) : Type 0 where
  pub firm : AreFirm w at n
  pub reads : (k : ℕ) → k < n → byte m (at + k) ≡ v

-- A firm bit of the byte at a place isn't v's: the byte never reads as v.
pub record NeverReads (m w : List ℕ) (at v : ℕ) : Type 0 where
  pub bit : ℕ
  pub firm : bit_at (byte w at) bit ≡ 0
  pub differs : bit_at (byte m at) bit ≢ bit_at v bit

-- One of four bytes never reads FFh: they never read as free.
pub record NeverFree (m w : List ℕ) (at : ℕ) : Type 0 where
  pub place : ℕ
  pub within : place < 4
  pub used : NeverReads m w (at + place) 255

-- Entry i of J0 is firm; or it never reads as free or as open, since its last byte never reads FFh,
-- or its first one neither FFh nor FCh.
pub data IsFirmEntry (m w : List ℕ) (i : ℕ) : Type 0 where
  firm : AreFirm w (entry_at i) 4 → IsFirmEntry m w i
  ended : NeverReads m w (entry_at i + 3) 255 → IsFirmEntry m w i
  begun : NeverReads m w (entry_at i) 255 → NeverReads m w (entry_at i) 252 → IsFirmEntry m w i

-- where data block c begins, the descriptor of slot s, and its 512 bytes
abbrev pub data_place : ℕ → ℕ
data_place c = block_len * (c + 4)

abbrev pub head_place : ℕ → ℕ
head_place s = data_place (s / 7) + 16 + 4 * (s % 7)

abbrev pub content_place : ℕ → ℕ
content_place s = data_place (s / 7) + 512 + 512 * (s % 7)

-- A slot that never reads as live: it always reads as dead; or it may read as free and as dead, and
-- its 512 bytes are erased.
pub data IsNeverLive (m w : List ℕ) (s : ℕ) : Type 0 where
  dead : NeverReads m w (head_place s) 252 → NeverFree m w (head_place s)
      → IsNeverLive m w s
  unused : NeverReads m w (head_place s) 252 → AreFirmly m w (content_place s) 512 255
      → IsNeverLive m w s

-- A live slot of zeros whose retirement was cut: bit 2 of its state is weak, all else is firm. It
-- reads as live or as dead, and its sector is zeros either way.
pub record IsFading (m w : List ℕ) (s : ℕ) : Type 0 where
  pub live : byte m (head_place s) ≡ 252
  pub weak : byte w (head_place s) ≡ 4
  pub firm : AreFirm w (head_place s + 1) 3
  pub zeros : AreFirmly m w (content_place s) 512 0

-- the sector that the descriptor of a slot names
abbrev pub sector_in : List ℕ → ℕ → ℕ
sector_in m s = byte m (head_place s + 2) + 256 * byte m (head_place s + 3)

-- Slot t reads as live with the sector of slot s.
pub record IsTwin (m : List ℕ) (s t : ℕ) : Type 0 where
  pub live : byte m (head_place t) ≡ 252
  pub sector : sector_in m t ≡ sector_in m s

-- A live slot none of whose bits is weak; or one that never reads as live; or a live one of zeros
-- that may read as dead.
pub data IsFirmSlot (m w : List ℕ) (s : ℕ) : Type 0 where
  live : byte m (head_place s) ≡ 252 → AreFirm w (head_place s) 4
      → AreFirm w (content_place s) 512 → IsFirmSlot m w s
  never_live : IsNeverLive m w s → IsFirmSlot m w s
  fading : IsFading m w s → IsFirmSlot m w s

-- The state of a mark reads FFh or FEh, whatever its weak bits: the block is plain, or void.
pub record IsBegunAtMost (m w : List ℕ) (c : ℕ) : Type 0 where
  pub weak : byte w (data_place c + 4) ≤ 1
  pub least : 254 ≤ byte m (data_place c + 4)
  pub most : byte m (data_place c + 4) ≤ 255

-- A data block of slots, whose bytes beside mark, descriptors and sectors are erased.
pub record IsOfSlots (m w : List ℕ) (c : ℕ) : Type 0 where
  pub start : AreFirmly m w (data_place c) 4 255
  pub after_mark : AreFirmly m w (data_place c + 8) 8 255
  pub after_descriptors : AreFirmly m w (data_place c + 44) 468 255

-- A data block whose mark is firm, and whose slots are; or one whose mark was perhaps begun, and
-- none of whose slots ever reads as live; or one whose mark is firm and begun, whose slots don't
-- count; or one that is being erased: the journal believes it erased.
pub data IsFirmBlock (m w : List ℕ) (c : ℕ) : Type 0 where
  marked : IsOfSlots m w c → AreFirm w (data_place c + 4) 4
      → ((i : ℕ) → i < 7 → IsFirmSlot m w (7 * c + i)) → IsFirmBlock m w c
  perhaps_begun : IsOfSlots m w c → IsBegunAtMost m w c
      → ((i : ℕ) → i < 7 → IsNeverLive m w (7 * c + i)) → IsFirmBlock m w c
  void : AreFirmly m w (data_place c) 4 255 → AreFirm w (data_place c + 4) 4
      → byte m (data_place c + 4) ≡ 254 → IsFirmBlock m w c
  erasing : is_believed0 m ≡ true → 1 ≤ entries_for m (c + 4) → IsFirmBlock m w c

-- A data block that never keeps a mount from finding room: a wholly free one, whose mark was
-- perhaps begun; or one into which another was being copied.
pub data IsRoom (m w : List ℕ) (c : ℕ) : Type 0 where
  free : AreFirmly m w (data_place c) 4 255 → IsBegunAtMost m w c
      → AreFirmly m w (data_place c + 16) 28 255 → IsRoom m w c
  void : AreFirmly m w (data_place c) 4 255 → AreFirm w (data_place c + 4) 4
      → byte m (data_place c + 4) ≡ 254 → IsRoom m w c
  committed : AreFirmly m w (data_place c) 4 255 → AreFirm w (data_place c + 4) 4
      → byte m (data_place c + 4) ≡ 252 → IsRoom m w c
  erasing : is_believed0 m ≡ true → 1 ≤ entries_for m (c + 4) → IsRoom m w c

-- the votes of the journal that begins at a place
abbrev pub AreVotesFirm : List ℕ → List ℕ → ℕ → Type 0
AreVotesFirm m w at = (k : ℕ) → k < 2 * region_len → IsFirmVote m w (at + k)

-- Such a chip. Of an erase of a journal that goes on nothing is said: no chip of which one was cut
-- is firm.
pub record IsFirmChip (m w : List ℕ) : Type 0 where
  pub same_length : length w ≡ length m
  pub superblock : AreFirm w 0 16
  pub votes : (j : JournalId) → AreVotesFirm m w (journal_at j)
  pub entries : (i : ℕ) → i < entry_count → IsFirmEntry m w i
  pub blocks : (c : ℕ) → c < data_blocks m → IsFirmBlock m w c
  pub room : (c : ℕ) × ((c < data_blocks m) × IsRoom m w c)
  pub alone : (s t : ℕ) → s < slot_count m → t < slot_count m → IsFading m w s → IsTwin m s t
      → s ≡ t
