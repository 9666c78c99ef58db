use Rattle.nbd_station.proofs.Plainly.{without_loss, one_plain}
use Rattle.nbd_station.proofs.laws.transcripts_without_losses.Goals as goal

pub returns-clause-plain : goal.returns-clause-plain
returns-clause-plain c = without_loss

pub returns-clause-one : goal.returns-clause-one
returns-clause-one c = one_plain
