use Rattle.std.proofs.Common.{◌≡◌, take}
use Rattle.chip_simulator.specs.Mask.{torn_byte}
use Rattle.chip_model.specs.Memory.{placed}
use Rattle.chip_simulator.proofs.frame.tear_run.Given as goal

abbrev pub invariant-loop-k : goal.invariant-loop-k
invariant-loop-k l = l.memory ≡ placed (torn_byte l.mask) l.fn.memory l.from (take l.k l.bytes)
