use Rattle.sector_slots.proofs.WinnerLaws.{sector-one}
use Rattle.sector_slots.proofs.laws.sectors_have_one_content.Goals as goal

pub returns : goal.returns
returns c = sector-one
