use Rattle.firm_chip.proofs.Losses.{torn-drawn}
use Rattle.firm_chip.proofs.laws.losses_are_torn_then_drawn.Goals as goal

pub returns : goal.returns
returns c = torn-drawn
