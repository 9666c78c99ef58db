use Rattle.std.proofs.Common.{◌≡◌, ℕ, ◌<◌}
use Rattle.chip_model.specs.Memory.{byte}
use Rattle.journal_slots.proofs.firm.is_blank.Given as goal

abbrev pub invariant-loop-at : goal.invariant-loop-at
invariant-loop-at l = record {
  blank : (k : ℕ) → k < l.at → byte l.fn.head k ≡ 255;
}
