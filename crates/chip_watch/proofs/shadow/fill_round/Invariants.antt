use Rattle.std.proofs.Common.{◌≡◌, ℕ, ◌<◌, ◌+◌, ◌%◌}
use Rattle.chip_model.specs.Memory.{byte}
use Rattle.chip_watch.proofs.shadow.fill_round.Given as goal

-- the bytes so far
abbrev pub invariant-loop-k : goal.invariant-loop-k
invariant-loop-k l = (j : ℕ) → j < l.k → byte l.recv j ≡ byte l.table ((l.at + j) % 256)
