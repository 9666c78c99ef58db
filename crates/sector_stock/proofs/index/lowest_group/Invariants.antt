use Rattle.std.proofs.Common.{◌≡◌, ◌<◌, ℕ, false}
use Rattle.sector_stock.specs.Index.{in_block}
use Rattle.sector_stock.proofs.index.lowest_group.Given as goal

abbrev pub invariant-loop-block : goal.invariant-loop-block
invariant-loop-block l = record {
  none : (c : ℕ) → c < l.block → (in_block l.blocks c).group ≡ false;
}
