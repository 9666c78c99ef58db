use Rattle.std.proofs.Common.{◌≡◌, ◌+◌, ◌-◌, ◌∙◌, ap, sym, subst, List, ℕ, arith}
use Rattle.std.specs.Prelude.{set}
use Rattle.chip_model.specs.Memory.{changed, fill_place, TornErase}
use Rattle.chip_model.proofs.MemoryLaws.{filled_none, filled_more}
use Rattle.chip_simulator.specs.Mask.{filled}
use Rattle.chip_simulator.proofs.MaskLaws.{filled_unit, fill_torn, fill_erased}
use Rattle.chip_simulator.proofs.frame.fill_unit.Goals as goal

pub loop-place-init : goal.loop-place-init
loop-place-init c = let z : c.args.at - c.args.at ≡ 0 = omega arith in rw z (filled_none c.args.byte c.args.memory.now c.args.at)

pub loop-place-preserved : goal.loop-place-preserved
loop-place-preserved c =
    let m = c.args.memory.now in
    let at = c.args.at in
    let v = c.args.byte in
    let n = c.loop-place.place - at in
    let p : c.loop-place.place ≡ at + n = omega arith in
    let q : n + 1 ≡ c.loop-place.place + 1 - at = omega arith in
    ap (λ (xs : List ℕ). set xs c.loop-place.place v) c.loop-place.invariant
    ∙ (ap (λ x. set (changed (fill_place v at n) m) x v) p
    ∙ (filled_more v m at n ∙ ap (λ x. changed (fill_place v at x) m) q))

pub returns-clause-exact : goal.returns-clause-exact
returns-clause-exact c =
    let m = c.args.memory.now in
    let span : c.loop-place.place - c.args.at ≡ c.args.size = omega arith in
    c.loop-place.invariant ∙ (ap (λ x. changed (fill_place c.args.byte c.args.at x) m) span ∙ sym (filled_unit c.args.byte m c.args.at c.args.size))

pub returns-clause-torn : goal.returns-clause-torn
returns-clause-torn c =
    let m = c.args.memory.now in
    let span : c.loop-place.place - c.args.at ≡ c.args.size = omega arith in
    let ex : c.loop-place.memory ≡ filled c.args.byte m c.args.at c.args.size =
    c.loop-place.invariant ∙ (ap (λ x. changed (fill_place c.args.byte c.args.at x) m) span ∙ sym (filled_unit c.args.byte m c.args.at c.args.size)) in
    subst (λ (y : List ℕ). TornErase m c.args.at c.args.size y) (sym ex) (fill_torn c.args.byte m c.args.at c.args.size (omega arith) c.requires)

pub returns-clause-erased : goal.returns-clause-erased
returns-clause-erased c = λ e.
    let m = c.args.memory.now in
    let span : c.loop-place.place - c.args.at ≡ c.args.size = omega arith in
    c.loop-place.invariant
    ∙ (ap (λ x. changed (fill_place c.args.byte c.args.at x) m) span
    ∙ (sym (filled_unit c.args.byte m c.args.at c.args.size)
    ∙ fill_erased c.args.byte m c.args.at c.args.size e))
