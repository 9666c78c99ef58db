use Rattle.sector_stock.proofs.RoomLaws.{never-full}
use Rattle.sector_stock.proofs.laws.never_full.Goals as goal

pub returns : goal.returns
returns c = never-full
