use Rattle.sector_slots.proofs.SlotLaws.{counted-raw}
use Rattle.sector_slots.proofs.laws.counted_slots_are_stored.Goals as goal

pub returns : goal.returns
returns c = counted-raw
