use Rattle.std.proofs.Common.{◌≡◌, ◌-◌, ◌*◌, drop}
use Rattle.disk_log.specs.Checkpoints.{with_blocks}
use Rattle.disk_log.proofs.checkpoint.put_blocks.Given as goal

abbrev pub invariant-loop-k : goal.invariant-loop-k
invariant-loop-k l = with_blocks (l.count - l.k) (drop (4104 * l.k) l.entries) l.image ≡ with_blocks l.count l.entries l.initial.image
