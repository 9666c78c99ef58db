use Rattle.std.proofs.Common.{arith, refl}
use Rattle.test_disk.proofs.level.read.Goals as goal

pub read-requires : goal.read-requires
read-requires g c = record {
  within = omega (arith, c.sectors.ensures);
  whole = (1, refl);
}
