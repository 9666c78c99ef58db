use Rattle.std.proofs.Common.{ℕ, ◌<◌, ◌+◌, ◌*◌}
use Rattle.firm_chip.specs.FirmChips.{IsFirmSlot}
use Rattle.firm_chip.proofs.block.are_slots_firm.Given as goal

abbrev pub invariant-loop-place : goal.invariant-loop-place
invariant-loop-place l = record {
  firm : (i : ℕ) → i < l.place → IsFirmSlot l.fn.memory l.fn.weak (7 * l.fn.block + i);
}
