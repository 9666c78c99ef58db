use Rattle.sector_slots.proofs.SaidLaws.{seen-groups}
use Rattle.sector_slots.proofs.laws.groups_are_seen.Goals as goal

pub returns : goal.returns
returns c = seen-groups
