use Rattle.std.proofs.Common.{length, ◌-◌}
use Rattle.disk_log.proofs.Replays.{Reads}
use Rattle.disk_log.proofs.reading.read_changes.Given as goal

abbrev pub invariant-loop-head : goal.invariant-loop-head
invariant-loop-head l = Reads l.log l.sectors l.fn.before l.len l.sum

abbrev pub decreases-loop-head : goal.decreases-loop-head
decreases-loop-head l = length l.log - l.len
