use Rattle.firm_chip.proofs.HalfDraws.{doubted-half}
use Rattle.firm_chip.proofs.laws.doubted_stores_are_half_at_each_draw.Goals as goal

pub returns : goal.returns
returns c = doubted-half
