use Rattle.std.proofs.Common.{◌≢◌, ◌+◌, ◌*◌, ◌<◌, ℕ}
use Rattle.sector_stock.specs.declared.index.SlotState.TheVariants as states
use Rattle.sector_stock.specs.Index.{in_slots}
use Rattle.sector_stock.proofs.index.first_place.Given as goal

abbrev pub invariant-loop-place : goal.invariant-loop-place
invariant-loop-place l = record {
  none : (i : ℕ) → i < l.place → in_slots l.states (7 * l.block + i) ≢ states.Free;
}
