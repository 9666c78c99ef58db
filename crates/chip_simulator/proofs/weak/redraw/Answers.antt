use Rattle.std.proofs.Common.{◌≡◌, ◌<◌, ◌+◌, ◌⊎◌, ◌%◌, ◌-◌, ◌∙◌, ap, sym, subst, List, ℕ, arith, length, inl, inr}
use Rattle.std.specs.Prelude.{set, bit_or, bit_and}
use Rattle.chip_model.specs.Memory.{byte, changed}
use Rattle.chip_model.specs.Wavering.{Drawn}
use Rattle.chip_simulator.specs.Weak.{drawn_by}
use Rattle.chip_simulator.proofs.WeakLaws.{part_none, part_next, part_more, part_place, drawn_place, drawn_whole, drawn_draw, is_tracked}
use Rattle.chip_simulator.proofs.weak.redraw.Goals as goal

pub loop-place-init : goal.loop-place-init
loop-place-init c = (part_none (drawn_place c.args.draw.now c.args.weak.now) c.args.memory.now 0, λ i. omega (arith, c.type_inv.memory i))

pub loop-place-preserved : goal.loop-place-preserved
loop-place-preserved c =
    let f = drawn_place c.args.draw.now c.args.weak.now in
    let m = c.args.memory.now in
    let p = c.loop-place.place in
    let z : 0 + p ≡ p = omega arith in
    let sizes = is_tracked c.args.weak.now m c.requires.sizes in
    let low : 0 + p < length m = elim sizes [ inl none ↦ absurd (omega arith) | inr same ↦ omega arith ] in
    let cur : byte c.loop-place.memory p ≡ byte m p =
    ap (λ (xs : List ℕ). byte xs p) c.loop-place.invariant.0
    ∙ (ap (λ i. byte (changed (part_place f 0 p) m) i) (sym z) ∙ (part_next f m 0 p low ∙ ap (λ i. byte m i) z)) in
    let y = bit_or (bit_and (byte c.loop-place.memory p) (255 - byte c.args.weak.now p)) (bit_and (byte c.args.draw.now (p % length c.args.draw.now)) (byte c.args.weak.now p)) in
    let e : y ≡ f (0 + p) (byte m (0 + p)) = ap (λ x. f p x) cur ∙ ap (λ i. f i (byte m i)) (sym z) in (
      ap (λ (xs : List ℕ). set xs p y) c.loop-place.invariant.0
          ∙ (ap (λ i. set (changed (part_place f 0 p) m) i y) (sym z) ∙ part_more f m 0 p y e),
      c.loop-place.invariant.1,
    )

pub returns-clause-exact : goal.returns-clause-exact
returns-clause-exact c =
    c.loop-place.invariant.0
    ∙ drawn_whole c.args.draw.now c.args.weak.now c.args.memory.now c.loop-place.place c.loop-place.invariant.1 (is_tracked c.args.weak.now c.args.memory.now c.requires.sizes) (omega arith)

pub returns-clause-drawn : goal.returns-clause-drawn
returns-clause-drawn c =
    let m = c.args.memory.now in
    let w = c.args.weak.now in
    let d = c.args.draw.now in
    let e : c.loop-place.memory ≡ drawn_by d w m =
    c.loop-place.invariant.0 ∙ drawn_whole d w m c.loop-place.place c.loop-place.invariant.1 (is_tracked w m c.requires.sizes) (omega arith) in
    subst (λ (n : List ℕ). Drawn w m n) (sym e) (drawn_draw d w m c.loop-place.invariant.1 (λ i. omega (arith, c.type_inv.weak i)))
