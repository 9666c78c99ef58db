use Rattle.std.proofs.Common.{ℕ, ◌<◌}
use Rattle.disk_log.specs.Logs.{IsTornAt}
use Rattle.disk_log.proofs.head.is_torn.Given as goal

abbrev pub invariant-loop-named : goal.invariant-loop-named
invariant-loop-named l = (k : ℕ) → k < l.named → IsTornAt k l.front → ⊥
