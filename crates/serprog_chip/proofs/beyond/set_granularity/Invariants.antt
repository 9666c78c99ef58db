use Rattle.std.proofs.Common.{◌≡◌, ◌+◌, ◌%◌, ◌<◌, ◌≤◌, ℕ, get_or}
use Rattle.serprog_chip.specs.Beyond.{told_byte}
use Rattle.serprog_chip.proofs.beyond.set_granularity.Given as goal

abbrev pub invariant-loop-k : goal.invariant-loop-k
invariant-loop-k l = record {
  told : (j : ℕ) → j < l.k → get_or l.table j 0 ≡ told_byte ((l.at + j) % 256) (get_or l.fn.table j 0);
  rest : (j : ℕ) → l.k ≤ j → get_or l.table j 0 ≡ get_or l.fn.table j 0;
}
