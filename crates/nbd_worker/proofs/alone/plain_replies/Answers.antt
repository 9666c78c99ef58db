use Rattle.nbd_worker.proofs.Units.{replies_are_of_units}
use Rattle.nbd_worker.proofs.alone.plain_replies.Goals as goal

pub returns : goal.returns
returns c = replies_are_of_units
