use Rattle.std.proofs.Common.{◌≡◌, length}
use Rattle.chip_model.specs.Geometry.{sector_count}
use Rattle.bench_disk.proofs.below.finds.Given as goal

-- the sizes stay
abbrev pub invariant-loop-number : goal.invariant-loop-number
invariant-loop-number g l = record {
  sectors : sector_count (length l.map.memory) ≡ 25060;
  bytes : length l.buffer ≡ 512;
}
