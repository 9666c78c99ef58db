use Rattle.block_device.proofs.Sectors.{read_by_sector}
use Rattle.block_device.proofs.laws.read_gives_sectors.Goals as goal

pub returns : goal.returns
returns c = read_by_sector
