use Rattle.std.proofs.Common.{◌≡◌, length}
use Rattle.bench_disk.proofs.disks.fill.Given as goal

-- the size stays
abbrev pub invariant-loop-number : goal.invariant-loop-number
invariant-loop-number g l = length (g.D.Disk.facts l.disk).contents ≡ 12830720
