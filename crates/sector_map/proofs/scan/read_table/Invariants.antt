use Rattle.std.proofs.Common.{◌≡◌, ◌*◌, length}
use Rattle.sector_slots.specs.Slots.{slot_at}
use Rattle.sector_map.specs.Table.{IsTabled}
use Rattle.erase_journal.proofs.Calls.{Repeated}
use Rattle.sector_map.proofs.Founds.{SpareSeen}
use Rattle.sector_map.proofs.scan.read_table.Given as goal

abbrev pub invariant-loop-block : goal.invariant-loop-block
invariant-loop-block g l = record {
  same : (g.S.SlotCalls.state l.slots).memory ≡ (g.S.SlotCalls.state l.fn.slots).memory;
  since : Repeated l.block (g.S.SlotCalls.state l.fn.slots) (g.S.SlotCalls.state l.slots);
  size : length l.table ≡ length l.fn.table;
  tabled : IsTabled l.table (slot_at (g.S.SlotCalls.state l.fn.slots).memory) (7 * l.block);
  seen : SpareSeen l.spare (g.S.SlotCalls.state l.fn.slots).memory l.block;
}
