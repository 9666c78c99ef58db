use Rattle.firm_chip.specs.FirmChips.{AreFirmly}
use Rattle.firm_chip.proofs.bytes.are_firmly.Given as goal

abbrev pub invariant-loop-k : goal.invariant-loop-k
invariant-loop-k l = record {
  firmly : AreFirmly l.fn.memory l.fn.weak l.fn.at l.k l.fn.value;
}
