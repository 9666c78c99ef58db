use Rattle.nbd_wire.proofs.Cutting.{cut}
use Rattle.nbd_wire.proofs.UnitLaws.{Splits_one, units_begin}
use Rattle.nbd_wire.proofs.phase.one_cutting.Goals as goal

pub returns : goal.returns
returns c phase = record {
  exists = λ text. cut phase text;
  one = λ text us vs r s q e a b. Splits_one phase text us vs r s q e a b;
  begins = λ text x us vs r s q e a b. units_begin phase text x us vs r s q e a b;
}
