use Rattle.std.proofs.Common.{◌≡◌, ◌-◌}
use Rattle.chip_model.specs.Memory.{changed, fill_place}
use Rattle.chip_simulator.proofs.frame.fill_unit.Given as goal

abbrev pub invariant-loop-place : goal.invariant-loop-place
invariant-loop-place l = l.memory ≡ changed (fill_place l.byte l.at (l.place - l.at)) l.fn.memory
