use Rattle.sector_slots.proofs.TornLaws.{losses-half}
use Rattle.sector_slots.proofs.laws.losses_leave_half_blocks.Goals as goal

pub returns : goal.returns
returns c = losses-half
