use Rattle.std.proofs.Common.{length, ◌-◌}
use Rattle.disk_log.proofs.Replays.{Underway}
use Rattle.disk_log.proofs.replaying.replay_records.Given as goal

abbrev pub invariant-loop-head : goal.invariant-loop-head
invariant-loop-head g l = Underway l.log l.fn.before (g.D.Disk.facts l.initial.disk) (g.D.Disk.facts l.disk) l.at l.sum

abbrev pub decreases-loop-head : goal.decreases-loop-head
decreases-loop-head g l = length l.log - l.at
