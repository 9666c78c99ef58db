use Rattle.sector_stock.specs.IndexSteps.{Forgets}
use Rattle.sector_stock.proofs.policy.forget_erases.Given as goal

abbrev pub invariant-loop-block : goal.invariant-loop-block
invariant-loop-block l = record {
  so_far : Forgets l.block l.fn.blocks l.blocks;
}
