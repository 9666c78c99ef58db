use Rattle.block_device.proofs.Sectors.{replaced_by_sector}
use Rattle.block_device.proofs.laws.write_replaces_sectors.Goals as goal

pub returns : goal.returns
returns c = replaced_by_sector
