use Rattle.firm_chip.proofs.Steps.{drawn-done}
use Rattle.firm_chip.proofs.laws.completed_are_drawn_then_done.Goals as goal

pub returns : goal.returns
returns c = drawn-done
