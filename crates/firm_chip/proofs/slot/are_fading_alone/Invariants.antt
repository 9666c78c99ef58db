use Rattle.std.proofs.Common.{◌≡◌, ℕ, ◌<◌}
use Rattle.sector_slots.specs.Slots.{slot_count}
use Rattle.firm_chip.specs.FirmChips.{IsFading, IsTwin}
use Rattle.firm_chip.proofs.slot.are_fading_alone.Given as goal

abbrev pub invariant-loop-slot : goal.invariant-loop-slot
invariant-loop-slot l = record {
  alone : (s t : ℕ) → s < l.slot → t < slot_count l.fn.memory → IsFading l.fn.memory l.fn.weak s
      → IsTwin l.fn.memory s t → s ≡ t;
}
