use Rattle.std.proofs.Common.{◌≡◌, ◌<◌, length}
use Rattle.bench_disk.proofs.clock.copies.Given as goal

-- the bytes of the copy before
abbrev pub invariant-loop : goal.invariant-loop
invariant-loop l = record {
  size : length l.into ≡ length l.from;
  last : 0 < l.counter → l.into ≡ l.from;
}
