use Rattle.sector_map.proofs.Mending.{Retiring}
use Rattle.sector_map.proofs.groups.retire_each.Given as goal

abbrev pub invariant-loop-block : goal.invariant-loop-block
invariant-loop-block g l = record {
  retiring : Retiring l.fn.table l.block (g.S.SlotCalls.state l.fn.slots) (g.S.SlotCalls.state l.slots);
}
