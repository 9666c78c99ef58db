use Rattle.std.proofs.Common.{◌≡◌, ◌∙◌, ap, subst, sym, arith, inl, inr}
use Rattle.std.proofs.lemmas.Bool.{cases_eq}
use Rattle.sector_slots.specs.Blocks.{IsAtRest}
use Rattle.sector_slots.specs.Slots.{kind_at}
use Rattle.sector_survey.proofs.clean.are_at_rest.Goals as goal

pub loop-block-preserved : goal.loop-block-preserved
loop-block-preserved g c =
    let m = (g.S.SlotCalls.state c.args.slots.now).memory in
    let b = c.loop-block.block in
    let is : c.in_ok-kind.field-0 ≡ kind_at m b = c.in_ok-kind.ensures.ok ∙ ap (λ z. kind_at z b) c.loop-block.invariant.same in
    record {
      same = c.kind.ensures.same ∙ c.loop-block.invariant.same;
      rest = λ d low. elim (cases_eq d b) as (λ _. IsAtRest (kind_at m d)) [
        | inl same ↦ subst (λ q. IsAtRest (kind_at m q)) (sym same) (subst IsAtRest is (c.if-not-is_at_rest.ensures.rest (cc c.if-not-is_at_rest.false)))
        | inr other ↦ c.loop-block.invariant.rest d (omega (arith, low, other))
      ];
    }
