use Rattle.std.proofs.Common.{◌≡◌, ◌≢◌, ◌<◌, ◌≤◌, ℕ}
use Rattle.sector_stock.specs.Index.{in_block}
use Rattle.sector_stock.proofs.index.first_free.Given as goal

abbrev pub invariant-loop-block : goal.invariant-loop-block
invariant-loop-block l = record {
  none : (c : ℕ) → l.from ≤ c → c < l.block → c ≢ l.reserve → (in_block l.blocks c).free ≡ 0;
}
