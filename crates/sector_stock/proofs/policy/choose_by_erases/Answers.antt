use Rattle.std.proofs.Common.{◌<◌, length, refl, ap, arith, inl, inr}
use Rattle.std.proofs.lemmas.Bool.{cases_lt}
use Rattle.sector_stock.proofs.Renewing.{index-forgot}
use Rattle.sector_stock.proofs.policy.choose_by_erases.Goals as goal

pub returns-clause-index : goal.returns-clause-index
returns-clause-index c slots m h = index-forgot slots c.args.blocks.now c.forget_erases.new.blocks c.args.at.now _ c.no_bounds-at.result m c.forget_erases.ensures c.no_bounds-at.ensures refl h

pub returns-clause-counted : goal.returns-clause-counted
returns-clause-counted c d low =
    let n = c.forget_erases.ensures.size in
    let inside : d < length c.args.blocks.now = omega (arith, low, n) in
    ap (λ b. b.erases) (c.forget_erases.ensures.each d inside inside)

pub returns-clause-suspects : goal.returns-clause-suspects
returns-clause-suspects c d = elim (cases_lt d (length c.args.blocks.now)) [ inl low ↦ ap (λ b. b.suspect) (c.forget_erases.ensures.each d low low) | inr from ↦ ap (λ b. b.suspect) (c.forget_erases.ensures.others d from) ]
