use Rattle.std.proofs.Common.{◌≡◌, length}
use Rattle.chip_model.specs.Geometry.{sector_count}
use Rattle.bench_disk.proofs.measure_below.measured_find.Given as goal

-- the sizes stay
abbrev pub invariant-loop-go : goal.invariant-loop-go
invariant-loop-go g l = record {
  sectors : sector_count (length l.map.memory) ≡ 25060;
  list : length l.list.items ≡ 16777216;
  bytes : length l.buffer.items ≡ 512;
}
