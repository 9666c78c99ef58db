use Rattle.std.proofs.Common.{◌-◌, ◌≤◌}
use Rattle.sector_stock.specs.Index.{AreBounds}
use Rattle.sector_stock.specs.Policies.{Improves}
use Rattle.sector_stock.proofs.least.search.Given as goal

abbrev pub invariant-loop-block : goal.invariant-loop-block
invariant-loop-block l = record {
  best : Improves l.wanted l.but l.blocks l.from l.block l.fn.best l.found;
  bounds : AreBounds l.blocks l.bounds;
  from : l.from ≤ l.block;
  end : l.from ≤ l.end → l.block ≤ l.end;
}

abbrev pub decreases-loop-block : goal.decreases-loop-block
decreases-loop-block l = l.end - l.block
