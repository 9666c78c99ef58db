use Rattle.std.proofs.Common.{◌≡◌, ◌⊎◌, ◌≤◌, ◌<◌, ℕ}
use Rattle.sector_stock.specs.Index.{in_block}
use Rattle.sector_stock.proofs.policy.most_worn.Given as goal

abbrev pub invariant-loop-block : goal.invariant-loop-block
invariant-loop-block l = record {
  some : (l.most ≡ 0) ⊎ ((c : ℕ) × (c < l.block) × ((in_block l.blocks c).erases ≡ l.most));
  all : (c : ℕ) → c < l.block → (in_block l.blocks c).erases ≤ l.most;
}
