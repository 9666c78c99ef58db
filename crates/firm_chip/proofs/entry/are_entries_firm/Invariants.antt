use Rattle.std.proofs.Common.{ℕ, ◌<◌}
use Rattle.firm_chip.specs.FirmChips.{IsFirmEntry}
use Rattle.firm_chip.proofs.entry.are_entries_firm.Given as goal

abbrev pub invariant-loop-entry : goal.invariant-loop-entry
invariant-loop-entry l = record {
  firm : (i : ℕ) → i < l.entry → IsFirmEntry l.fn.memory l.fn.weak i;
}
