use Rattle.std.proofs.Common.{◌≡◌, length}
use Rattle.bench_disk.proofs.below.reads.Given as goal

-- the sizes stay
abbrev pub invariant-loop-number : goal.invariant-loop-number
invariant-loop-number g l = record {
  size : length (g.N.Nor.state l.driver).memory ≡ 16777216;
  bytes : length l.buffer ≡ 512;
}
