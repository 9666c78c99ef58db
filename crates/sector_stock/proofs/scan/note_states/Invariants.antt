use Rattle.sector_stock.specs.Index.{StatesNoted}
use Rattle.sector_stock.proofs.scan.note_states.Given as goal

abbrev pub invariant-loop-place : goal.invariant-loop-place
invariant-loop-place l = record {
  noted : StatesNoted l.place l.block l.heads l.fn.states l.states;
}
