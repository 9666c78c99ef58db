use Rattle.disk_log.proofs.Places.{Collected}
use Rattle.disk_log.proofs.checkpoint.changed_blocks.Given as goal

abbrev pub invariant-loop-k : goal.invariant-loop-k
invariant-loop-k l = Collected l.was l.is l.body.items l.k
