use Rattle.std.proofs.Common.{arith, refl}
use Rattle.bench_disk.proofs.disks.fill.Goals as goal

pub write-requires : goal.write-requires
write-requires g c = record {
  within = omega (arith, c.loop-number.invariant, c.loop-number-test.true);
  whole = (7, refl);
}
