use Rattle.erase_journal.proofs.Calls.{Repeated}
use Rattle.sector_map.specs.Firm.{StaysAlike}
use Rattle.sector_map.proofs.Alike.{LaterKept, NoneBegun}
use Rattle.nor_driver.specs.State.{bits_in}
use Rattle.sector_map.proofs.Firmness.{HeadsFirmBelow}
use Rattle.sector_map.proofs.firm.firm_heads.Given as goal

abbrev pub invariant-loop-block : goal.invariant-loop-block
invariant-loop-block g l = record {
  later : LaterKept l.block (g.S.SlotCalls.state l.fn.slots).memory (g.S.SlotCalls.state l.slots).memory;
  none : NoneBegun l.begun l.block (g.S.SlotCalls.state l.fn.slots).memory;
  firm : StaysAlike (g.S.SlotCalls.state l.fn.slots).memory (g.S.SlotCalls.state l.slots).memory;
  heads : HeadsFirmBelow l.block l.begun (bits_in (g.S.SlotCalls.state l.slots));
  since : Repeated l.block (g.S.SlotCalls.state l.fn.slots) (g.S.SlotCalls.state l.slots);
}
