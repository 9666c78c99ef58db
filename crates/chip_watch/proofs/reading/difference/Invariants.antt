use Rattle.std.proofs.Common.{◌≡◌, ◌<◌, ◌+◌, ℕ, false}
use Rattle.chip_model.specs.Memory.{byte}
use Rattle.chip_watch.specs.Changes.{is_changing}
use Rattle.chip_watch.proofs.reading.difference.Given as goal

-- the bytes so far agree
abbrev pub invariant-loop-k : goal.invariant-loop-k
invariant-loop-k l = (j : ℕ) → j < l.k → is_changing l.change (l.at + j) ≡ false → byte l.heard j ≡ byte l.memory (l.at + j)
