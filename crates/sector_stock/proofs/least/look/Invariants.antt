use Rattle.std.proofs.Common.{◌<◌, ◌≤◌, ℕ}
use Rattle.sector_stock.specs.Index.{in_block, Counts}
use Rattle.sector_stock.specs.Policies.{Improves}
use Rattle.sector_stock.proofs.least.look.Given as goal

abbrev pub invariant-loop-block : goal.invariant-loop-block
invariant-loop-block l = record {
  best : Improves l.wanted l.but l.blocks l.from l.block l.fn.best l.found;
  least : (c : ℕ) → l.from ≤ c → c < l.block → Counts l.wanted (in_block l.blocks c) → l.least ≤ (in_block l.blocks c).erases;
}
