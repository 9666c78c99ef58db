use Rattle.std.proofs.Common.{◌≡◌, take}
use Rattle.std.specs.Prelude.{bit_and}
use Rattle.chip_model.specs.Memory.{placed}
use Rattle.chip_simulator.proofs.frame.program_run.Given as goal

abbrev pub invariant-loop-k : goal.invariant-loop-k
invariant-loop-k l = l.memory ≡ placed bit_and l.fn.memory l.from (take l.k l.bytes)
