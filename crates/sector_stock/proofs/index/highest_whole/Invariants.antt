use Rattle.std.proofs.Common.{◌<◌, ◌≤◌, ℕ}
use Rattle.sector_stock.specs.Index.{IsWholeBlock, in_block}
use Rattle.sector_stock.proofs.index.highest_whole.Given as goal

abbrev pub invariant-loop-block : goal.invariant-loop-block
invariant-loop-block l = record {
  least : l.least ≤ l.block;
  below : l.block < l.below;
  none : (c : ℕ) → l.block < c → c < l.below → IsWholeBlock (in_block l.blocks c) → ⊥;
}

abbrev pub decreases-loop-block : goal.decreases-loop-block
decreases-loop-block l = l.block
