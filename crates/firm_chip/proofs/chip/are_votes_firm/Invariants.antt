use Rattle.std.proofs.Common.{ℕ, ◌+◌, ◌<◌}
use Rattle.erase_journal.specs.Weak.{IsFirmVote}
use Rattle.firm_chip.proofs.chip.are_votes_firm.Given as goal

abbrev pub invariant-loop-k : goal.invariant-loop-k
invariant-loop-k l = record {
  firm : (i : ℕ) → i < l.k → IsFirmVote l.fn.memory l.fn.weak (l.fn.at + i);
}
