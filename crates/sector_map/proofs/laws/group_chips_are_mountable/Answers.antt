use Rattle.sector_map.proofs.Grouped.{group-mountable}
use Rattle.sector_map.proofs.laws.group_chips_are_mountable.Goals as goal

pub returns : goal.returns
returns c = group-mountable
