use Rattle.std.proofs.Common.{◌<◌, ◌+◌, ◌*◌, ◌/◌, arith, inl, inr}
use Rattle.std.proofs.lemmas.Bool.{cases_lt}
use Rattle.sector_stock.specs.Index.{bound_row}
use Rattle.sector_stock.proofs.scan.first_cursors.Goals as goal

pub returns-clause-ahead : goal.returns-clause-ahead
returns-clause-ahead c = record {
  cursor = λ d low h other. absurd (omega arith);
  beyond = λ d low h other. absurd (omega arith);
  spares = λ d low whole other. elim (cases_lt d c.highest_whole-reserve.result) as (λ _. d < c.highest_whole-reserve.result) [
    | inl l ↦ l
    | inr g ↦ absurd (c.highest_whole-reserve.ensures.highest d (omega (arith, g, other)) low whole)
  ];
  within = (omega arith, (let p = c.highest_whole-reserve.ensures.found in omega (arith, p)));
  most = λ d low. c.requires.numbers d low;
  from = λ d low h. absurd (omega arith);
  high = omega arith;
  worn = λ d low. (omega arith, c.most_worn.ensures.all d low);
  bounds = λ wanted d low counts. (let p = c.no_bounds.ensures (64 * bound_row wanted + d / 64) in omega (arith, p));
}
