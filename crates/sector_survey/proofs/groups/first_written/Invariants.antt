use Rattle.std.proofs.Common.{◌≡◌, ◌<◌, ℕ}
use Rattle.chip_model.specs.Memory.{byte}
use Rattle.sector_survey.proofs.groups.first_written.Given as goal

abbrev pub invariant-loop-at : goal.invariant-loop-at
invariant-loop-at l = record {
  before : (j : ℕ) → j < l.at → byte l.fn.bytes j ≡ 255;
}
