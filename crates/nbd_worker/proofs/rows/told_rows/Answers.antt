use Rattle.nbd_worker.proofs.ToldParts.{told_parts}
use Rattle.nbd_worker.proofs.rows.told_rows.Goals as goal

pub returns : goal.returns
returns c = told_parts
