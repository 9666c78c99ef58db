use Rattle.block_device.proofs.Sectors.{sectors_decide}
use Rattle.block_device.proofs.laws.sectors_decide_contents.Goals as goal

pub returns : goal.returns
returns c = sectors_decide
