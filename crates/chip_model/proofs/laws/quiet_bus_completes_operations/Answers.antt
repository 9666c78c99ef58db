use Rattle.chip_model.proofs.FrameLaws.{quiet_completes}
use Rattle.chip_model.proofs.laws.quiet_bus_completes_operations.Goals as goal

pub returns : goal.returns
returns c = quiet_completes
