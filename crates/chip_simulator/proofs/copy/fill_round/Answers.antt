use Rattle.std.proofs.Common.{◌≡◌, ◌<◌, ◌≤◌, ◌+◌, ◌-◌, ◌%◌, ◌∙◌, length, drop, ap, arith}
use Rattle.std.proofs.lemmas.List.{length-take-le, length-drop}
use Rattle.std.proofs.Math.Nat.{min-le_right, mod-lt}
use Rattle.chip_simulator.proofs.CopyLaws.{copied, copied_length}
use Rattle.chip_simulator.proofs.copy.fill_round.Goals as goal

pub loop-done-preserved : goal.loop-done-preserved
loop-done-preserved c =
    let xs = c.loop-done.recv in
    let ys = c.copy_from_slice.new.self in
    let m = c.args.memory.now in
    let a = c.loop-done.done in
    let n = c.min-count.result in
    let place = (c.args.at + a) % length m in
    let q = place + n - place in
    let low : place < length m = mod-lt (c.args.at + a) c.requires in
    let fits : a ≤ length xs = omega arith in
    let whole : q ≡ n = omega arith in
    let most : n ≤ length m - place = rw c.min-count.ensures (min-le_right (length xs - a) (length m - place)) in
    let room : place + n ≤ length m = omega (arith, most) in
    let left : length (drop place m) ≡ length m - place = length-drop place m in
    let len : length ys ≡ n = ap length c.copy_from_slice.ensures.after ∙ (length-take-le q (drop place m) (omega (arith, left)) ∙ whole) in
    let long = copied_length xs ys (drop (a + n - a) (drop a xs)) a fits in
    record {
      within = omega (arith, long, len);
      filled = λ k h. copied xs ys (drop (a + n - a) (drop a xs)) m c.args.at a n q k fits whole c.copy_from_slice.ensures.after len room c.loop-done.invariant.filled h;
    }
