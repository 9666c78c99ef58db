use Rattle.std.proofs.Common.{◌≡◌, ◌*◌, ◌/◌}
use Rattle.chip_model.specs.Memory.{changed}
use Rattle.chip_simulator.proofs.WeakLaws.{part_place, weaker_place}
use Rattle.chip_simulator.proofs.weak.weaken_page.Given as goal

abbrev pub invariant-loop-k : goal.invariant-loop-k
invariant-loop-k l = l.weak ≡ changed (part_place (weaker_place l.memory l.at l.bytes) (l.at / 256 * 256) l.k) l.fn.weak
