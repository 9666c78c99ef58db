use Rattle.sector_slots.proofs.SaidLaws.{said-sectors}
use Rattle.sector_slots.proofs.laws.sectors_are_said.Goals as goal

pub returns : goal.returns
returns c = said-sectors
