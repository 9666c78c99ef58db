use Rattle.std.proofs.Common.{arith, refl}
use Rattle.bench_disk.proofs.calls.zero_all.Goals as goal

pub zero-requires : goal.zero-requires
zero-requires g c = record {
  within = omega (arith, c.requires.size);
  whole = (25060, refl);
}
