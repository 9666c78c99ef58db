use Rattle.std.proofs.Common.{◌≡◌}
use Rattle.sector_stock.specs.Index.{IsAhead}
use Rattle.sector_stock.proofs.index.lowest_dead.Given as goal

abbrev pub invariant-loop-at : goal.invariant-loop-at
invariant-loop-at l = record {
  ahead : IsAhead l.blocks l.at;
  reserve : l.at.reserve ≡ l.fn.at.reserve;
  policy : l.at.policy ≡ l.fn.at.policy;
  newest : l.at.newest ≡ l.fn.at.newest;
}

abbrev pub decreases-loop-at : goal.decreases-loop-at
decreases-loop-at l = l.at.most
