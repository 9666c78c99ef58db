use Rattle.sector_slots.proofs.SectorsKept.{losses-keep}
use Rattle.sector_slots.proofs.laws.losses_keep_sectors.Goals as goal

pub returns : goal.returns
returns c = losses-keep
