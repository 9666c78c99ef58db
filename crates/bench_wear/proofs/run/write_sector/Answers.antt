use Rattle.std.proofs.Common.{arith, refl}
use Rattle.bench_wear.proofs.run.write_sector.Goals as goal

pub write-requires : goal.write-requires
write-requires g c = record {
  within = omega (arith, c.sectors.ensures);
  whole = (1, refl);
}
