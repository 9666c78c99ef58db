use Rattle.std.proofs.Common.{◌≡◌, ◌≤◌}
use Rattle.sector_stock.specs.Index.{is_free_state, states_count}
use Rattle.sector_stock.proofs.scan.count_free.Given as goal

abbrev pub invariant-loop-place : goal.invariant-loop-place
invariant-loop-place l = record {
  counted : l.count ≡ states_count is_free_state l.states l.block l.place;
  most : l.count ≤ l.place;
}
