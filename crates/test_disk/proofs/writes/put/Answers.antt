use Rattle.std.proofs.Common.{length, ◌/◌, arith}
use Rattle.test_disk.proofs.writes.put.Goals as goal

pub write-requires : goal.write-requires
write-requires g c = record {
  within = omega (arith, c.sectors.ensures);
  whole = (length c.args.bytes.now / 512, omega arith);
}
