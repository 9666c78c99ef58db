use Rattle.sector_slots.proofs.SlotLaws.{copy-keeps_tag}
use Rattle.sector_slots.proofs.laws.copies_keep_tags.Goals as goal

pub returns : goal.returns
returns c = copy-keeps_tag
