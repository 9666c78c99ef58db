use Rattle.sector_stock.proofs.RoomLaws.{outnumber}
use Rattle.sector_stock.proofs.laws.slots_outnumber_sectors.Goals as goal

pub returns : goal.returns
returns c = outnumber
