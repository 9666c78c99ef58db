use Rattle.std.proofs.Common.{◌≡◌, ◌<◌, ◌%◌, ℕ, length}
use Rattle.chip_model.specs.Memory.{byte, changed}
use Rattle.chip_simulator.specs.Mask.{by_mask}
use Rattle.chip_simulator.proofs.WeakLaws.{part_place}
use Rattle.chip_simulator.proofs.weak.redraw.Given as goal

abbrev pub invariant-loop-place : goal.invariant-loop-place
invariant-loop-place l = (l.memory ≡ changed (part_place (λ i x. by_mask (byte l.weak i) x (byte l.draw (i % length l.draw))) 0 l.place) l.fn.memory)
    × ((i : ℕ) → byte l.fn.memory i < 256)
