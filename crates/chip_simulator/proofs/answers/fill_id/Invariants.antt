use Rattle.std.proofs.Common.{◌≡◌, ℕ, ◌<◌, get_or}
use Rattle.chip_model.specs.Frames.{id_byte}
use Rattle.chip_simulator.proofs.answers.fill_id.Given as goal

abbrev pub invariant-loop-k : goal.invariant-loop-k
invariant-loop-k l = (k : ℕ) → k < l.k → get_or l.recv k 0 ≡ id_byte l.size k
