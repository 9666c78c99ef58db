use Rattle.std.proofs.Common.{◌≡◌, ℕ, ◌<◌}
use Rattle.firm_chip.specs.FirmChips.{IsTwin}
use Rattle.firm_chip.proofs.slot.is_alone.Given as goal

abbrev pub invariant-loop-other : goal.invariant-loop-other
invariant-loop-other l = record {
  alone : (t : ℕ) → t < l.other → IsTwin l.fn.memory l.fn.slot t → l.fn.slot ≡ t;
}
