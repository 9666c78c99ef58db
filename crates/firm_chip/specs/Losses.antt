-- An operation and a loss of power on a chip whose bits waver, as one on a chip whose bits are
-- steady. Source: own.
use Rattle.std.specs.Prelude.{◌≡◌, List, ℕ}
use Rattle.chip_model.specs.Chip.{Operation, memory_after}
use Rattle.chip_model.specs.Cut.{TornMemory}
use Rattle.chip_model.specs.Wavering.{Bits, IsBits, TornBits, Drawn, completed_bits}
use Rattle.erase_journal.specs.Journals.{IsHealthy}
use Rattle.sector_slots.specs.Sectors.{IsSoundMap}
use Rattle.firm_chip.specs.FirmChips.{IsFirmChip}
use Rattle.firm_chip.specs.Draws.{IsSameDisk}

-- What a chip reads as after a loss and a power-on is a draw, by the bits that were weak before the
-- loss, of a memory that the loss leaves of a chip whose bits are steady and that reads as this one
-- did.
abbrev pub LossesAreTornThenDrawn : Type 0
LossesAreTornThenDrawn = (op : Operation) (b new : Bits) (v : List ℕ) → IsBits b → TornBits op b new
    → Drawn new.weak new.shown v
    → (t : List ℕ) × ((TornMemory op b.shown t) × (Drawn b.weak t v))

-- It is also what the loss leaves of a chip whose bits are steady and that reads as a draw of the
-- chip before.
abbrev pub LossesAreDrawnThenTorn : Type 0
LossesAreDrawnThenTorn = (op : Operation) (b new : Bits) (v : List ℕ) → IsBits b → TornBits op b new
    → Drawn new.weak new.shown v
    → (d : List ℕ) × ((Drawn b.weak b.shown d) × (TornMemory op d v))

-- What it may read as once an operation has completed is what the operation makes of such a draw.
abbrev pub CompletedAreDrawnThenDone : Type 0
CompletedAreDrawnThenDone = (op : Operation) (b : Bits) (v : List ℕ) → IsBits b
    → Drawn (completed_bits op b).weak (completed_bits op b).shown v
    → (d : List ℕ) × ((Drawn b.weak b.shown d) × (v ≡ memory_after op d))

-- the memory is a firm chip's by these weak bits, its journals are healthy, and its slots and
-- blocks sound
pub record IsFirmAndSound (m w : List ℕ) : Type 0 where
  pub firm : IsFirmChip m w
  pub journals : IsHealthy m
  pub slots : IsSoundMap m

-- So, where each of those memories is a firm disk by the old weak bits, the chip reads as the same
-- disk as one of them.
abbrev pub LossesLeaveSteadyDisks : Type 0
LossesLeaveSteadyDisks = (op : Operation) (b new : Bits) (v : List ℕ) → IsBits b → TornBits op b new
    → Drawn new.weak new.shown v
    → ((t : List ℕ) → TornMemory op b.shown t → IsFirmAndSound t b.weak)
    → (t : List ℕ) × ((TornMemory op b.shown t) × (IsSameDisk t v))
