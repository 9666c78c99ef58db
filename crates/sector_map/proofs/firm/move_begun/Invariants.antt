use Rattle.std.proofs.Common.{◌≡◌, length}
use Rattle.erase_journal.proofs.Calls.{Repeated}
use Rattle.sector_map.specs.Table.{Repairs}
use Rattle.sector_map.proofs.MountFirmly.{MovedBelow}
use Rattle.sector_map.proofs.firm.move_begun.Given as goal

abbrev pub invariant-loop-block : goal.invariant-loop-block
invariant-loop-block g l = record {
  size : length l.table ≡ length l.fn.table;
  repairs : Repairs (g.S.SlotCalls.state l.fn.stock).memory l.table (g.S.SlotCalls.state l.stock).memory;
  moved : MovedBelow l.block l.begun (g.S.SlotCalls.state l.fn.stock) (g.S.SlotCalls.state l.stock);
  since : Repeated l.block (g.S.SlotCalls.state l.fn.stock) (g.S.SlotCalls.state l.stock);
}
