use Rattle.sector_slots.specs.Slots.{data_blocks}
use Rattle.sector_stock.specs.Index.{erases_of}
use Rattle.nor_driver.specs.State.{bits_in}
use Rattle.sector_stock.specs.Losses.{IsFirmDiskIn}
use Rattle.sector_map.proofs.Evening.{Renewing}
use Rattle.sector_map.proofs.steps.renew_all.Given as goal

abbrev pub invariant-loop-block : goal.invariant-loop-block
invariant-loop-block g l = record {
  renewing : Renewing (erases_of (g.S.Reclaim.counts l.fn.stock) l.fn.least) (data_blocks (g.S.SlotCalls.state l.fn.stock).memory) l.block l.fn.table l.table (g.S.SlotCalls.state l.fn.stock) (g.S.SlotCalls.state l.stock) (g.S.SlotCalls.indexed l.stock) (g.S.Reclaim.policy l.fn.stock) (g.S.Reclaim.policy l.stock) (erases_of (g.S.Reclaim.counts l.fn.stock)) (erases_of (g.S.Reclaim.counts l.stock));
  firm : IsFirmDiskIn (bits_in (g.S.SlotCalls.state l.fn.stock)) (g.S.Reclaim.counts l.fn.stock) → IsFirmDiskIn (bits_in (g.S.SlotCalls.state l.stock)) (g.S.Reclaim.counts l.stock);
}
