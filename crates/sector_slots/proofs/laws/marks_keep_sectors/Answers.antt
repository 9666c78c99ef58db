use Rattle.sector_slots.proofs.MixLaws.{marks-keep}
use Rattle.sector_slots.proofs.laws.marks_keep_sectors.Goals as goal

pub returns : goal.returns
returns c = marks-keep
