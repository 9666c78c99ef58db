use Rattle.firm_chip.proofs.FirmJournals.{of-firm-chips}
use Rattle.firm_chip.proofs.laws.firm_journals_are_of_firm_chips.Goals as goal

pub returns : goal.returns
returns c = of-firm-chips
