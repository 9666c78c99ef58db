use Rattle.nbd_transmission.proofs.ReadOnly.{units_change_nothing}
use Rattle.nbd_transmission.proofs.laws.read_only_law.Goals as goal

pub returns : goal.returns
returns c = units_change_nothing
