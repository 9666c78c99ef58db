use Rattle.std.proofs.Common.{◌≡◌, ◌+◌, ◌-◌, ◌∙◌, length, drop, ap, arith}
use Rattle.std.proofs.lemmas.List.{length-take-le, length-drop}
use Rattle.chip_simulator.proofs.CopyLaws.{one_run}
use Rattle.chip_simulator.proofs.copy.fill_from.Goals as goal

pub returns-then-recv-memory : goal.returns-then-recv-memory
returns-then-recv-memory c = λ i low.
    let ys = c.copy_from_slice.new.self in
    let m = c.args.memory.now in
    let at = c.args.at in
    let n = length c.args.recv.now in
    let q = at + n - at in
    let left : length (drop at m) ≡ length m - at = length-drop at m in
    let len : length ys ≡ q = ap length c.copy_from_slice.ensures.after ∙ length-take-le q (drop at m) (omega (arith, left)) in
    one_run ys m at q i c.copy_from_slice.ensures.after (omega (arith, low, len)) (omega (arith, low, len))
