-- What a program leaves of the bytes of a block, and what the programs of one slot do. Words of
-- private functions: no claim rests on them. Source: own, layout 2.
use Rattle.std.specs.Prelude.{◌≡◌, ◌⊎◌, ℕ, ◌+◌, ◌*◌, ◌<◌, ◌≤◌, List, length, drop, take}
use Rattle.std.specs.Prelude.{bit_and}
use Rattle.chip_model.specs.Memory.{byte}
use Rattle.chip_model.specs.Wavering.{Bits}
use Rattle.nor_layout.specs.declared.header.Tag.{Tag}
use Rattle.nor_layout.specs.declared.header.Header.TheVariants as headers
use Rattle.nor_layout.specs.Headers.{header_of}
use Rattle.erase_journal.specs.Torn.{ProgramInterrupted}
use Rattle.sector_slots.specs.Slots.{Live, Dead, slot_in, content_bytes, blank_sector}
use Rattle.sector_slots.specs.Steps.{HoldsTag}
use Rattle.sector_slots.specs.Torn.{with_first_page}
use Rattle.sector_slots.specs.Weak.{sector_place}

-- n bytes from `from` on may differ, all others are the same
pub record OnlyBytes (from n : ℕ) (b t : List ℕ) : Type 0 where
  pub same_length : length t ≡ length b
  pub each : (k : ℕ) → k < 4096 → (k < from) ⊎ (from + n ≤ k) → byte t k ≡ byte b k

-- What is programmed over byte k of a head that is made firm: that byte; but over the state of a
-- descriptor that is dead its bits without the third.
pub data IsFirmByte (head firm : List ℕ) (k : ℕ) : Type 0 where
  as_read : byte firm k ≡ byte head k → IsFirmByte head firm k
  killed : (i : ℕ) → i < 7 → k ≡ 16 + 4 * i → header_of (drop (16 + 4 * i) head) ≡ headers.Dead
      → byte firm k ≡ bit_and (byte head k) 251 → IsFirmByte head firm k

-- byte k of a block is neither of the descriptor nor of the sector of place i
abbrev pub IsElsewhere : ℕ → ℕ → Type 0
IsElsewhere i k = ((k < 16 + 4 * i) ⊎ (20 + 4 * i ≤ k))
    × ((k < 512 * (i + 1)) ⊎ (512 * (i + 1) + 512 ≤ k))

-- the bytes of place i may differ, all others are the same
pub record InPlace (i : ℕ) (b t : List ℕ) : Type 0 where
  pub same_length : length t ≡ length b
  pub each : (k : ℕ) → k < 4096 → IsElsewhere i k → byte t k ≡ byte b k

-- What a write of a sector into place i, which is free, leaves where it is cut: the block as it
-- was, or the slot dead, or live with the tag, and where the place was erased with the sector.
pub data WriteLeaves (i : ℕ) (tag : Tag) (x b t : List ℕ) : Type 0 where
  untouched : t ≡ b → WriteLeaves i tag x b t
  spoiled : slot_in t i ≡ Dead → WriteLeaves i tag x b t
  filled : HoldsTag tag (slot_in t i)
      → (content_bytes b i ≡ blank_sector → slot_in t i ≡ Live tag x) → WriteLeaves i tag x b t

-- a write of the two pages of a sector was interrupted: in the first one, or in the second one
pub data PagesInterrupted (c i : ℕ) (content : List ℕ) (a b : Bits) : Type 0 where
  in_first : ProgramInterrupted (sector_place c i) (take 256 content) a b
      → PagesInterrupted c i content a b
  in_second : ProgramInterrupted (sector_place c i + 256) (drop 256 content)
      (with_first_page c i content a) b → PagesInterrupted c i content a b
