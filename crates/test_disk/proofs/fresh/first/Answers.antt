use Rattle.std.proofs.Common.{arith}
use Rattle.test_disk.proofs.fresh.first.Goals as goal

pub read-requires : goal.read-requires
read-requires g c = record {
  within = omega (arith, c.sectors.ensures, c.if-sectors-eq0.false, c.requires.room);
  whole = (1, c.requires.room);
}
