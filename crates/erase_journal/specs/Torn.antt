-- What a loss of power leaves of the bits of data blocks: in a program, in an erase. Source: own.
use Rattle.std.specs.Prelude.{◌≡◌, ◌⊎◌, ℕ, ◌+◌, ◌*◌, ◌<◌, ◌≤◌, true, false, List}
use Rattle.chip_model.specs.Memory.{byte}
use Rattle.chip_model.specs.Wavering.{Bits, Drawn}
use Rattle.nor_driver.specs.State.{Leaves, TornProgramBits, program_bits}
use Rattle.nor_layout.specs.Journals.{block_len}
use Rattle.erase_journal.specs.Blocks.{is_opened}
use Rattle.erase_journal.specs.Weak.{AreFirm}

-- the byte at a place reads the same in both, and the same of its bits are weak
abbrev pub SameAt : Bits → Bits → ℕ → Type 0
SameAt a b i = (byte b.shown i ≡ byte a.shown i) × (byte b.weak i ≡ byte a.weak i)

-- so it is of each byte of the data blocks
abbrev pub SameData : Bits → Bits → Type 0
SameData a b = (i : ℕ) → 4 * block_len ≤ i → SameAt a b i

-- of each byte of block c
abbrev pub SameBlock : ℕ → Bits → Bits → Type 0
SameBlock c a b = (k : ℕ) → k < block_len → SameAt a b (block_len * c + k)

-- of each byte of the data blocks that isn't in block c
abbrev pub SameBeside : ℕ → Bits → Bits → Type 0
SameBeside c a b = (i : ℕ) → 4 * block_len ≤ i
    → (i < block_len * c) ⊎ (block_len * c + block_len ≤ i) → SameAt a b i

-- a program from a place on that a loss of power interrupted: it wasn't begun, or each bit that it
-- was to change is weak, or it is done
abbrev pub ProgramInterrupted : ℕ → List ℕ → Bits → Bits → Type 0
ProgramInterrupted at bytes a b = Leaves a (TornProgramBits a at bytes) (program_bits a at bytes) b

-- however the weak bits read at the next power-on, no entry is open
abbrev pub OpensNone : Bits → Type 0
OpensNone b = (v : List ℕ) → Drawn b.weak b.shown v → (e : ℕ) → is_opened v e ≡ false

-- none is but for block c
abbrev pub OpensOnly : ℕ → Bits → Type 0
OpensOnly c b = (v : List ℕ) → Drawn b.weak b.shown v → (e : ℕ) → is_opened v e ≡ true → e ≡ c

-- An erase of block c that was interrupted: its bits are as they were; or an entry is open for it,
-- whatever is read at the next power-on, so that it reads as erased; or it is erased, and none of
-- its bits is weak.
pub data BlockInterrupted (c : ℕ) (a b : Bits) : Type 0 where
  as_it_was : SameBlock c a b → BlockInterrupted c a b
  opened : ((v : List ℕ) → Drawn b.weak b.shown v → is_opened v c ≡ true) → BlockInterrupted c a b
  is_erased : ((k : ℕ) → k < block_len → byte b.shown (block_len * c + k) ≡ 255)
      → AreFirm b.weak (block_len * c) block_len → BlockInterrupted c a b
