use Rattle.sector_slots.proofs.MachineLaws.{step-holds}
use Rattle.sector_slots.proofs.laws.steps_keep_sectors.Goals as goal

pub returns : goal.returns
returns c = step-holds
