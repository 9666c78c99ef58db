use Rattle.std.proofs.Common.{◌≡◌, ◌-◌}
use Rattle.chip_model.specs.Frames.{id_from}
use Rattle.nor_driver.proofs.probe.exponent_of.Given as goal

abbrev pub invariant-loop-k : goal.invariant-loop-k
invariant-loop-k l = id_from 9 16 l.bytes ≡ id_from (25 - l.k) l.k l.bytes
