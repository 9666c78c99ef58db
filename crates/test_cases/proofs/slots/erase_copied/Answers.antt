use Rattle.std.proofs.Common.{◌≡◌, ◌≢◌, ◌+◌, ◌<◌, ◌∙◌, ℕ, sym, ap, subst, arith}
use Rattle.nor_layout.specs.declared.kind.Kind.TheVariants as kinds
use Rattle.sector_slots.specs.Slots.{data_blocks, kind_at}
use Rattle.sector_slots.specs.Steps.{IsErasable}
use Rattle.test_cases.proofs.Erasing.{copied-erasable}
use Rattle.test_cases.proofs.slots.erase_copied.Goals as goal

pub erase-requires : goal.erase-requires
erase-requires g c =
    let same = c.in_ok-number.ensures.same ∙ c.in_ok-kind.ensures.same in
    let m = (g.S.SlotCalls.state c.args.slots.now).memory in
    let number : c.in-Committed-2.number ≡ c.args.source + 4 = (let a = c.if-number-ge4.true in let b = c.if-number-source.true in omega (arith, a, b)) in
    let copy : kind_at m c.args.target ≡ kinds.Committed (c.args.source + 4) =
    ap (λ a. kind_at a c.args.target) (sym c.in_ok-kind.ensures.same) ∙ (sym c.in_ok-number.ensures.ok ∙ (c.in-Committed-2.is ∙ ap (λ n. kinds.Committed n) number)) in
    let plain : (b : ℕ) → kind_at m c.args.source ≢ kinds.Committed b = λ b e. c.in_default.not-Committed b (c.in_ok-kind.ensures.ok ∙ e) in
    record {
      number = subst (λ a. c.args.source < data_blocks a) (sym same) c.requires.source;
      dead = λ ready. subst (λ a. IsErasable c.args.source a) (sym same) (copied-erasable c.args.source c.args.target m c.requires.target plain copy);
    }
