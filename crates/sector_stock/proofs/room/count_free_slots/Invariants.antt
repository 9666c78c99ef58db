use Rattle.std.proofs.Common.{◌≡◌, ◌*◌, ◌≤◌}
use Rattle.sector_stock.specs.IndexSteps.{free_below}
use Rattle.sector_stock.proofs.room.count_free_slots.Given as goal

abbrev pub invariant-loop-block : goal.invariant-loop-block
invariant-loop-block l = record {
  counted : l.count ≡ free_below l.blocks l.block;
  most : l.count ≤ 255 * l.block;
}
