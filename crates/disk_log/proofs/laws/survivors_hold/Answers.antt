use Rattle.disk_log.proofs.Powers.{survivors-hold}
use Rattle.disk_log.proofs.laws.survivors_hold.Goals as goal

pub returns : goal.returns
returns c = survivors-hold
