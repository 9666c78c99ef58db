use Rattle.std.proofs.Common.{ℕ, ◌<◌}
use Rattle.firm_chip.specs.FirmChips.{IsFirmBlock}
use Rattle.firm_chip.proofs.block.are_blocks_firm.Given as goal

abbrev pub invariant-loop-block : goal.invariant-loop-block
invariant-loop-block l = record {
  firm : (c : ℕ) → c < l.block → IsFirmBlock l.fn.memory l.fn.weak c;
}
