use Rattle.std.proofs.Common.{◌≡◌, ℕ, ◌<◌, ◌≤◌, ◌+◌, ◌-◌, ◌%◌, length}
use Rattle.chip_model.specs.Memory.{byte}
use Rattle.chip_simulator.proofs.copy.fill_round.Given as goal

abbrev pub decreases-loop-done : goal.decreases-loop-done
decreases-loop-done l = length l.initial.recv - l.done

-- the bytes so far
abbrev pub invariant-loop-done : goal.invariant-loop-done
invariant-loop-done l = record {
  within : l.done ≤ length l.recv;
  filled : (k : ℕ) → k < l.done → byte l.recv k ≡ byte l.memory ((l.at + k) % length l.memory);
}
