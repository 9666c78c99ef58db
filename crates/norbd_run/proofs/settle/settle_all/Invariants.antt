use Rattle.std.proofs.Common.{◌≡◌, ◌+◌, ◌-◌, ◌≤◌, ◌&&◌, ◌||◌, length, true, false, not}
use Rattle.sector_slots.specs.Slots.{data_blocks}
use Rattle.flash_disk.specs.Contents.{contents_of}
use Rattle.norbd_run.specs.Settling.{StepsRenew}
use Rattle.norbd_run.proofs.settle.settle_all.Given as goal

abbrev pub invariant-loop-step : goal.invariant-loop-step
invariant-loop-step g l = record {
  renewed : StepsRenew l.step l.fn.disk.map.memory l.disk.map.memory;
  within : l.step ≤ 1 + data_blocks l.fn.disk.map.memory;
  size : length l.disk.map.memory ≡ length l.fn.disk.map.memory;
  contents : contents_of l.disk.map.memory ≡ contents_of l.fn.disk.map.memory;
  sound : ((false || l.disk.checked) && not l.disk.doubtful) ≡ true;
  ready : (l.disk.cut ≡ false) × (l.disk.map.is_slow ≡ false);
  cuts : l.fn.disk.map.cuts ≤ l.disk.map.cuts;
  slows : l.fn.disk.map.slows ≤ l.disk.map.slows;
}

abbrev pub decreases-loop-step : goal.decreases-loop-step
decreases-loop-step g l = 1 + data_blocks l.fn.disk.map.memory - l.step
