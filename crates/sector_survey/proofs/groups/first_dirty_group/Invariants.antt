use Rattle.std.proofs.Common.{◌≡◌, ◌<◌, ℕ}
use Rattle.std.specs.Prelude.{None}
use Rattle.erase_journal.proofs.Calls.{Repeated}
use Rattle.sector_survey.specs.Cleanness.{FreeBlockTells}
use Rattle.sector_survey.proofs.groups.first_dirty_group.Given as goal

abbrev pub invariant-loop-block : goal.invariant-loop-block
invariant-loop-block g l = record {
  same : l.journal.memory ≡ l.fn.journal.memory;
  since : Repeated l.block l.fn.journal l.journal;
  before : (c : ℕ) → c < l.block → FreeBlockTells None l.fn.journal.memory c;
}
