use Rattle.erase_journal.specs.Weak.{AreFirm}
use Rattle.firm_chip.proofs.bytes.are_firm.Given as goal

abbrev pub invariant-loop-k : goal.invariant-loop-k
invariant-loop-k l = record {
  firm : AreFirm l.fn.weak l.fn.at l.k;
}
