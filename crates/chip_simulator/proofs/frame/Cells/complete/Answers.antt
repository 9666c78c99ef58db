use Rattle.std.proofs.Common.{◌≡◌, ◌==◌, ◌||◌, Bool, true, false, length, refl, ap, ◌∙◌}
use Rattle.chip_simulator.proofs.WeakLaws.{kept_items}
use Rattle.chip_simulator.proofs.frame.Cells.complete.Goals as goal

or_true : (b : Bool) → (b || true) ≡ true
or_true true = refl
or_true false = refl

pub invariant_of-self-clause-tracked : goal.invariant_of-self-clause-tracked
invariant_of-self-clause-tracked c =
    let old = c.args.self.now in
    let items = kept_items old.weak c.deref_mut.result.now c.firm.new.weak c.deref_mut.ensures.value c.firm.ensures.length in
    ap (λ n. (n == 0) || (n == old.size)) (ap length items ∙ (c.firm.ensures.length ∙ ap length c.deref_mut.ensures.value)) ∙ old.tracked

pub invariant_of-self-clause-quick : goal.invariant_of-self-clause-quick
invariant_of-self-clause-quick c = or_true c.args.self.now.stuck
