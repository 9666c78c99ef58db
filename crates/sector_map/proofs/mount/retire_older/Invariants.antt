use Rattle.sector_map.proofs.Retiring.{Retired}
use Rattle.sector_map.specs.Firm.{KeepsRead}
use Rattle.sector_map.proofs.mount.retire_older.Given as goal

abbrev pub invariant-loop-sector : goal.invariant-loop-sector
invariant-loop-sector g l = record {
  retired : Retired l.fn.table l.table l.sector (g.S.SlotCalls.state l.fn.slots) (g.S.SlotCalls.state l.slots);
  read : KeepsRead (g.S.SlotCalls.state l.fn.slots) (g.S.SlotCalls.state l.slots);
}
