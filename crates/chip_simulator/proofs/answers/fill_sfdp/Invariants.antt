use Rattle.std.proofs.Common.{◌≡◌, ℕ, ◌<◌, ◌+◌, ◌%◌}
use Rattle.chip_model.specs.Memory.{byte}
use Rattle.chip_simulator.specs.Table.{sfdp_table}
use Rattle.chip_simulator.proofs.answers.fill_sfdp.Given as goal

abbrev pub invariant-loop-k : goal.invariant-loop-k
invariant-loop-k l = (k : ℕ) → k < l.k → byte l.recv k ≡ byte (sfdp_table l.size l.spoiled) ((l.at + k) % 256)
