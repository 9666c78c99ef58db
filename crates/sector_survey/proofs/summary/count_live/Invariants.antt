use Rattle.std.proofs.Common.{◌≡◌, ◌≤◌}
use Rattle.sector_survey.specs.Summaries.{live_heads}
use Rattle.sector_survey.proofs.summary.count_live.Given as goal

abbrev pub invariant-loop-place : goal.invariant-loop-place
invariant-loop-place l = (l.live ≡ live_heads l.heads l.place) × (l.live ≤ l.place)
