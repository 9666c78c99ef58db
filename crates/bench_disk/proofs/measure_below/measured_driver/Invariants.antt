use Rattle.std.proofs.Common.{◌≡◌, length}
use Rattle.chip_simulator.specs.Sim.{chip_of}
use Rattle.bench_disk.proofs.measure_below.measured_driver.Given as goal

-- the sizes stay
abbrev pub invariant-loop-go : goal.invariant-loop-go
invariant-loop-go g l = record {
  chip : length (chip_of l.driver.bus).memory ≡ 16777216;
  list : length l.list.items ≡ 16777216;
  bytes : length l.buffer.items ≡ 512;
}
