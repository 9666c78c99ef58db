use Rattle.std.proofs.Common.{◌≡◌, ℕ, ◌<◌}
use Rattle.chip_model.specs.Memory.{byte}
use Rattle.journal_slots.proofs.clean.is_erased.Given as goal

abbrev pub invariant-loop-at : goal.invariant-loop-at
invariant-loop-at l = record {
  erased : (k : ℕ) → k < l.at → byte l.fn.bytes k ≡ 255;
}
