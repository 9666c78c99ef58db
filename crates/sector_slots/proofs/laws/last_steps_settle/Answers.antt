use Rattle.sector_slots.proofs.MachineLaws.{last-settles}
use Rattle.sector_slots.proofs.laws.last_steps_settle.Goals as goal

pub returns : goal.returns
returns c = last-settles
