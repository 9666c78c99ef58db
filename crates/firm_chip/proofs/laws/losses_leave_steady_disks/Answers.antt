use Rattle.firm_chip.proofs.Losses.{steady-disks}
use Rattle.firm_chip.proofs.laws.losses_leave_steady_disks.Goals as goal

pub returns : goal.returns
returns c = steady-disks
