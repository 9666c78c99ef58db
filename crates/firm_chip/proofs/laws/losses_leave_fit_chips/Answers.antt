use Rattle.firm_chip.proofs.FitChips.{losses-fit}
use Rattle.firm_chip.proofs.laws.losses_leave_fit_chips.Goals as goal

pub returns : goal.returns
returns c = losses-fit
