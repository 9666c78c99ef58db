use Rattle.std.proofs.Common.{◌≡◌, ℕ, suc, ◌+◌, ◌-◌, ◌∙◌, sym, ap, arith}
use Rattle.std.proofs.lemmas.Bool.{cond-false}
use Rattle.sfdp.specs.Params.{first_basic}
use Rattle.sfdp.proofs.header.first_basic.Goals as goal

pub loop-k-preserved : goal.loop-k-preserved
loop-k-preserved c =
    let b = c.args.bytes.now in
    let k = c.loop-k.k in
    let left : c.args.headers - k ≡ suc (c.args.headers - (k + 1)) = omega arith in
    c.loop-k.invariant
    ∙ (ap (λ (n : ℕ). first_basic b k n) left
    ∙ cond-false _ _ _ (sym c.is_basic.ensures ∙ c.if-is_basic.false))
