use Rattle.std.proofs.Common.{◌≡◌, ℕ, ◌<◌}
use Rattle.chip_model.specs.Memory.{byte}
use Rattle.erase_journal.proofs.scan.is_blank.Given as goal

abbrev pub invariant-loop-at : goal.invariant-loop-at
invariant-loop-at l = record {
  blank : (k : ℕ) → k < l.at → byte l.fn.bytes k ≡ 255;
}
