use Rattle.std.proofs.Common.{arith}
use Rattle.bench_disk.proofs.calls.make.Goals as goal

pub read-requires-in-LongRead : goal.read-requires-in-LongRead
read-requires-in-LongRead g c = record {
  within = omega (arith, c.first-first.ensures.within, c.requires.size, c.requires.bytes);
  whole = (128, rw c.in-LongRead.is at c.requires.bytes);
}

pub write-requires-in-LongWrite : goal.write-requires-in-LongWrite
write-requires-in-LongWrite g c = record {
  within = omega (arith, c.first-first.ensures.within, c.requires.size, c.requires.bytes);
  whole = (128, rw c.in-LongWrite.is at c.requires.bytes);
}
