use Rattle.sector_map.proofs.Voiding.{Voiding}
use Rattle.sector_map.specs.Firm.{KeepsRead}
use Rattle.sector_map.proofs.mount.end_voids.Given as goal

abbrev pub invariant-loop-block : goal.invariant-loop-block
invariant-loop-block g l = record {
  voiding : Voiding l.block (g.S.SlotCalls.state l.fn.slots) (g.S.SlotCalls.state l.slots);
  read : KeepsRead (g.S.SlotCalls.state l.fn.slots) (g.S.SlotCalls.state l.slots);
}
