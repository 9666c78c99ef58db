use Rattle.firm_chip.specs.FirmChips.{IsFirmBlock}
use Rattle.firm_chip.proofs.Below.{below-next}
use Rattle.firm_chip.proofs.block.are_blocks_firm.Goals as goal

pub loop-block-preserved : goal.loop-block-preserved
loop-block-preserved c = record {
  firm = below-next (λ d. IsFirmBlock c.args.memory.now c.args.weak.now d) c.loop-block.block c.loop-block.invariant.firm (c.is_firm_block.ensures (cc c.if-not-is_firm_block.false));
}
