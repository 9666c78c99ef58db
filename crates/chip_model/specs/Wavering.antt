-- Bits that waver: a program or an erase that a loss of power interrupted leaves cells whose charge
-- lies near the level at which a read decides. Such a bit is weak: it reads as 0 or as 1, the same
-- until the power goes, and perhaps otherwise from the next power-on. Source: own; the datasheet of
-- the W25Q128JV leaves open what an interrupted operation leaves, and those who drive raw flash
-- call such bits unstable.
use Rattle.std.specs.Prelude.{◌≡◌, ℕ, ◌<◌, ◌⊎◌, false, List, length}
use Rattle.std.specs.Int.{bit_at}
use Rattle.chip_model.specs.Memory.{byte, is_within}
use Rattle.chip_model.specs.Chip.{Chip, Operation, Programming, Erasing, memory_after, firmed}
use Rattle.chip_model.specs.Cut.{TornMemory, weakened}

-- the bits of a memory: what each reads as, and 1 for each weak one; where there is no byte of
-- these, no bit is weak
pub record Bits : Type 0 where
  pub shown : List ℕ
  pub weak : List ℕ

-- those of a chip
abbrev pub bits_of : Chip → Bits
bits_of c = record { shown = c.memory; weak = c.weak }

-- the bits once the operation has completed
abbrev pub completed_bits : Operation → Bits → Bits
completed_bits op b = record { shown = memory_after op b.shown; weak = firmed op b.weak }

-- a draw: what the memory reads as after a power-on is as before, but for the weak bits
pub record Drawn (weak old new : List ℕ) : Type 0 where
  pub same_length : length new ≡ length old
  pub firm : (i k : ℕ) → bit_at (byte weak i) k ≡ 0
      → bit_at (byte new i) k ≡ bit_at (byte old i) k

-- as many bytes of both
pub record IsBits (b : Bits) : Type 0 where
  pub same_length : length b.weak ≡ length b.shown
  pub shown : (i : ℕ) → byte b.shown i < 256
  pub weak : (i : ℕ) → byte b.weak i < 256

-- no bit is weak
abbrev pub IsSteady : Bits → Type 0
IsSteady b = (i k : ℕ) → bit_at (byte b.weak i) k ≡ 0

-- bit k of the byte at place i reads the same in both, and is weak in both or in neither
abbrev pub Alike : Bits → Bits → ℕ → ℕ → Type 0
Alike b c i k = (bit_at (byte c.shown i) k ≡ bit_at (byte b.shown i) k)
    × (bit_at (byte c.weak i) k ≡ bit_at (byte b.weak i) k)

-- what a loss may leave of a program: each bit as it was, as once the program has completed, or,
-- where these differ, weak
pub record TornProgram (old done new : Bits) : Type 0 where
  pub bits : IsBits new
  pub same_length : length new.shown ≡ length old.shown
  pub each : (i k : ℕ) → Alike old new i k ⊎ Alike done new i k
      ⊎ ((bit_at (byte new.weak i) k ≡ 1) × (Alike old done i k → ⊥))

-- what it may leave of an erase: anything in the unit, all else as it was
pub record TornUnit (at size : ℕ) (old new : Bits) : Type 0 where
  pub bits : IsBits new
  pub same_length : length new.shown ≡ length old.shown
  pub outside : (i k : ℕ) → is_within at size i ≡ false → Alike old new i k

-- what a loss may leave of an operation
abbrev pub TornBits : Operation → Bits → Bits → Type 0
TornBits (Programming at bytes) old new =
    TornProgram old (completed_bits (Programming at bytes) old) new
TornBits (Erasing at size) old new = TornUnit at size old new
TornBits _ old new = new ≡ old

-- the worst of it
abbrev pub worst : Operation → Bits → Bits
worst op b = record { shown = b.shown; weak = weakened op b.shown b.weak }

-- the second has each weak bit of the first, and perhaps more: what is firm in it is as in the
-- first
pub record AtMost (b c : Bits) : Type 0 where
  pub same_length : length b.shown ≡ length c.shown
  pub firm : (i k : ℕ) → bit_at (byte c.weak i) k ≡ 0 → Alike c b i k

-- A chip with no weak bit is the chip of Cut: an operation that completes and a power-on leave it
-- one, and what it may read as after a loss and a power-on are the torn memories.
pub record SteadyIsTheModel : Type 0 where
  pub completes : (op : Operation) (b : Bits) → IsSteady b → IsSteady (completed_bits op b)
  pub powers_on : (b : Bits) (v : List ℕ) → IsSteady b → Drawn b.weak b.shown v → v ≡ b.shown
  pub torn : (op : Operation) (b new : Bits) (v : List ℕ) → IsBits b → IsSteady b
      → TornBits op b new → Drawn new.weak new.shown v → TornMemory op b.shown v
  pub all_torn : (op : Operation) (b : Bits) (v : List ℕ) → IsBits b
      → TornMemory op b.shown v → Drawn (worst op b).weak b.shown v

-- One outcome of a loss stands for all: the worst one is an outcome, and whatever a chip with fewer
-- weak bits leaves or reads as, one with more leaves or reads as, too, or worse.
pub record WorstStandsForAll : Type 0 where
  pub is_torn : (op : Operation) (b : Bits) → IsBits b → TornBits op b (worst op b)
  pub start : (b : Bits) → AtMost b b
  pub completes : (op : Operation) (b c : Bits) → AtMost b c
      → AtMost (completed_bits op b) (completed_bits op c)
  pub loses : (op : Operation) (b c new : Bits) → IsBits c → AtMost b c → TornBits op b new
      → AtMost new (worst op c)
  pub powers_on : (b c : Bits) (v : List ℕ) → AtMost b c → Drawn b.weak b.shown v
      → Drawn c.weak c.shown v
      × AtMost (record { shown = v; weak = b.weak }) (record { shown = v; weak = c.weak })
