use Rattle.firm_chip.proofs.Steps.{drawn-torn}
use Rattle.firm_chip.proofs.laws.losses_are_drawn_then_torn.Goals as goal

pub returns : goal.returns
returns c = drawn-torn
