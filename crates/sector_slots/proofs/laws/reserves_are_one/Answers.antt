use Rattle.sector_slots.proofs.SlotLaws.{one-reserve}
use Rattle.sector_slots.proofs.laws.reserves_are_one.Goals as goal

pub returns : goal.returns
returns c = one-reserve
