use Rattle.std.proofs.Common.{◌≡◌, ◌≤◌}
use Rattle.sector_survey.specs.Summaries.{free_heads}
use Rattle.sector_survey.proofs.summary.count_free.Given as goal

abbrev pub invariant-loop-place : goal.invariant-loop-place
invariant-loop-place l = (l.free ≡ free_heads l.heads l.place) × (l.free ≤ l.place)
