use Rattle.chip_model.proofs.WaveringLaws.{worst_stands}
use Rattle.chip_model.proofs.laws.worst_loss_stands_for_all.Goals as goal

pub returns : goal.returns
returns c = worst_stands
