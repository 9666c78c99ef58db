use Rattle.sector_rescue.specs.Steps.{IsTableBelow}
use Rattle.sector_rescue.proofs.table.note_slots.Given as goal

abbrev pub invariant-loop-slot : goal.invariant-loop-slot
invariant-loop-slot l = IsTableBelow l.fn.layout l.image l.slot l.table
