use Rattle.sector_stock.specs.Index.{Shifted}
use Rattle.sector_stock.proofs.index.shift_states.Given as goal

abbrev pub invariant-loop-place : goal.invariant-loop-place
invariant-loop-place l = record {
  shifted : Shifted l.place l.source l.target l.fn.slots l.slots;
}
