use Rattle.std.proofs.Common.{◌≡◌, ◌⊎◌, ◌*◌, ◌-◌, ◌≤◌, length, replicate}
use Rattle.std.specs.Prelude.{take}
use Rattle.nor_driver.specs.State.{OnlyMemoryChanges}
use Rattle.erase_journal.specs.Blocks.{SameChip}
use Rattle.sector_slots.specs.Slots.{IsClean}
use Rattle.block_device.specs.Contents.{replaced}
use Rattle.flash_disk.specs.Contents.{contents_of}
use Rattle.erase_journal.specs.Steps.{SucceedsSettled}
use Rattle.flash_disk.proofs.range.zero_sectors.Given as goal

abbrev pub invariant-loop-done : goal.invariant-loop-done
invariant-loop-done g l = record {
  written : IsClean l.fn.map.memory → contents_of l.map.memory ≡ replaced (contents_of l.fn.map.memory) (512 * l.first) (take (512 * l.done) (replicate (512 * l.count) 0));
  clean : IsClean l.fn.map.memory → IsClean l.map.memory;
  size : length l.map.memory ≡ length l.fn.map.memory;
  chip : SameChip l.fn.map.memory l.map.memory;
  within : l.done ≤ l.count;
  kept : OnlyMemoryChanges l.fn.map l.map;
  since : (l.map ≡ l.fn.map) ⊎ SucceedsSettled l.fn.map l.map;
}

abbrev pub decreases-loop-done : goal.decreases-loop-done
decreases-loop-done g l = l.count - l.done
