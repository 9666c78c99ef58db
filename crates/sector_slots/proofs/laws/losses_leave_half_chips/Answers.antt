use Rattle.sector_slots.proofs.ChipLosses.{losses-half-chips}
use Rattle.sector_slots.proofs.laws.losses_leave_half_chips.Goals as goal

pub returns : goal.returns
returns c = losses-half-chips
