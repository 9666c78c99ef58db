-- What a loss of power in a call of a store of slots leaves of the bits: block and place are given
-- by their numbers. Source: own, layout 2.
use Rattle.std.specs.Prelude.{◌≡◌, ◌⊎◌, ℕ, ◌+◌, ◌*◌, ◌<◌, ◌≤◌, List, [], ◌∷◌, length}
use Rattle.std.specs.Prelude.{bit_and, drop, take}
use Rattle.chip_model.specs.Memory.{byte}
use Rattle.chip_model.specs.Wavering.{Bits}
use Rattle.nor_driver.specs.State.{program_bits}
use Rattle.nor_layout.specs.declared.header.Header.TheVariants as headers
use Rattle.nor_layout.specs.declared.header.Tag.{Tag}
use Rattle.nor_layout.specs.Headers.{header_of}
use Rattle.erase_journal.specs.Torn.{ProgramInterrupted, SameAt}
use Rattle.sector_slots.specs.Slots.{data_block, written_in}
use Rattle.sector_slots.specs.Weak.{block_place, mark_place, descriptor_place, sector_place}

-- the program of a state was interrupted, the first byte of a descriptor or a mark
abbrev pub StateInterrupted : ℕ → ℕ → Bits → Bits → Type 0
StateInterrupted at state a b = ProgramInterrupted at (state ∷ []) a b

-- four bytes, of which the first is FEh: those of a descriptor or a mark that is begun
pub record IsBegunHead (bytes : List ℕ) : Type 0 where
  pub size : length bytes ≡ 4
  pub state : byte bytes 0 ≡ 254

-- those of a descriptor: once its state reads FCh it is live with this tag
pub record IsBegunDescriptor (tag : Tag) (bytes : List ℕ) : Type 0 where
  pub begun : IsBegunHead bytes
  pub each : (k : ℕ) → byte bytes k < 256
  pub live : header_of (252 ∷ byte bytes 1 ∷ byte bytes 2 ∷ byte bytes 3 ∷ []) ≡ headers.Live tag

-- the first program of a copying into block c was interrupted, of its mark
pub record BeginInterrupted (c : ℕ) (a b : Bits) : Type 0 where
  pub mark : List ℕ
  pub begun : IsBegunHead mark
  pub program : ProgramInterrupted (mark_place c) mark a b

-- each byte but those of the descriptor and the sector of a place is as it was
abbrev pub SameButPlace : ℕ → ℕ → Bits → Bits → Type 0
SameButPlace c i a b = (k : ℕ) → (k < descriptor_place c i) ⊎ (descriptor_place c i + 4 ≤ k)
    → (k < sector_place c i) ⊎ (sector_place c i + 512 ≤ k) → SameAt a b k

-- the programs of a write into a place, one after the other: that of its descriptor
abbrev pub with_descriptor : ℕ → ℕ → List ℕ → Bits → Bits
with_descriptor c i header a = program_bits a (descriptor_place c i) header

-- of the first page of its sector, the first 256 bytes
abbrev pub with_first_page : ℕ → ℕ → List ℕ → Bits → Bits
with_first_page c i content a = program_bits a (sector_place c i) (take 256 content)

-- and of both pages
abbrev pub with_pages : ℕ → ℕ → List ℕ → Bits → Bits
with_pages c i content a =
    program_bits (with_first_page c i content a) (sector_place c i + 256) (drop 256 content)

-- A write into a place was interrupted: in the program of its descriptor, which is begun; in that
-- of its first page, of its second page, or of the state FCh; the programs before it are done.
pub data PutInterrupted (c i : ℕ) (tag : Tag) (content : List ℕ) (a b : Bits) : Type 0 where
  in_header : (header : List ℕ) → IsBegunDescriptor tag header
      → ProgramInterrupted (descriptor_place c i) header a b
      → PutInterrupted c i tag content a b
  in_first_page : (header : List ℕ) → IsBegunDescriptor tag header
      → ProgramInterrupted (sector_place c i) (take 256 content) (with_descriptor c i header a) b
      → PutInterrupted c i tag content a b
  in_second_page : (header : List ℕ) → IsBegunDescriptor tag header
      → ProgramInterrupted (sector_place c i + 256) (drop 256 content)
      (with_first_page c i content (with_descriptor c i header a)) b
      → PutInterrupted c i tag content a b
  in_commit : (header : List ℕ) → IsBegunDescriptor tag header
      → StateInterrupted (descriptor_place c i) 252
      (with_pages c i content (with_descriptor c i header a)) b
      → PutInterrupted c i tag content a b

-- The program of a head, the first 44 bytes of a block, wasn't begun, or was interrupted: each byte
-- is programmed as it reads, or the state of a dead descriptor with its third bit cleared.
pub data HeadInterrupted (c : ℕ) (a b : Bits) : Type 0 where
  not_begun : b ≡ a → HeadInterrupted c a b
  in_it : (head : List ℕ) → length head ≡ 44
      → ((k : ℕ) → k < 44 → (byte head k ≡ byte a.shown (block_place c + k))
      ⊎ ((i : ℕ) × (i < 7) × (k ≡ 16 + 4 * i) × (written_in (data_block a.shown c) i ≡ headers.Dead)
      × (byte head k ≡ bit_and (byte a.shown (block_place c + k)) 251)))
      → ProgramInterrupted (block_place c) head a b → HeadInterrupted c a b
