use Rattle.std.proofs.Common.{◌≡◌, ◌⊎◌, ◌-◌, ◌≤◌, length}
use Rattle.erase_journal.specs.Steps.{SucceedsSettled}
use Rattle.sector_slots.specs.Slots.{data_blocks}
use Rattle.sector_stock.specs.Takes.{work_of}
use Rattle.nor_driver.specs.State.{bits_in}
use Rattle.sector_stock.specs.Losses.{IsFirmDiskIn}
use Rattle.sector_map.specs.Maps.{KeptServing, IsEven}
use Rattle.sector_map.proofs.steps.renew_now.Given as goal

abbrev pub invariant-loop-round : goal.invariant-loop-round
invariant-loop-round g l = record {
  kept : KeptServing l.table (g.S.SlotCalls.state l.fn.stock) (g.S.SlotCalls.state l.stock) (g.S.SlotCalls.indexed l.stock);
  since : SucceedsSettled (g.S.SlotCalls.state l.fn.stock) (g.S.SlotCalls.state l.stock);
  even : (l._round ≡ 0) ⊎ IsEven (32 - l._round) (g.S.Reclaim.policy l.stock) (data_blocks (g.S.SlotCalls.state l.stock).memory) (g.S.Reclaim.counts l.stock);
  work : work_of (g.S.SlotCalls.state l.stock).memory ≤ work_of (g.S.SlotCalls.state l.fn.stock).memory;
  table : length l.table ≡ length l.fn.table;
  firm : IsFirmDiskIn (bits_in (g.S.SlotCalls.state l.fn.stock)) (g.S.Reclaim.counts l.fn.stock) → IsFirmDiskIn (bits_in (g.S.SlotCalls.state l.stock)) (g.S.Reclaim.counts l.stock);
}
