use Rattle.std.proofs.Common.{◌≤◌, ◌<◌, ℕ, length}
use Rattle.sector_stock.specs.Index.{in_block}
use Rattle.sector_stock.proofs.policy.least_erased.Given as goal

abbrev pub invariant-loop-block : goal.invariant-loop-block
invariant-loop-block l = record {
  number : l.least < length l.blocks;
  all : (c : ℕ) → c < l.block → (in_block l.blocks l.least).erases ≤ (in_block l.blocks c).erases;
}
