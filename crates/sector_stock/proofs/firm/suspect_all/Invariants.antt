use Rattle.sector_stock.specs.Index.{Suspects}
use Rattle.sector_stock.proofs.firm.suspect_all.Given as goal

abbrev pub invariant-loop-block : goal.invariant-loop-block
invariant-loop-block l = record { done : Suspects l.block l.fn.blocks l.blocks }
