use Rattle.sector_slots.proofs.SlotLaws.{copy-is_exact}
use Rattle.sector_slots.proofs.laws.copies_are_exact.Goals as goal

pub returns : goal.returns
returns c = copy-is_exact
