use Rattle.chip_model.proofs.WaveringLaws.{steady_is_the_model}
use Rattle.chip_model.proofs.laws.steady_chip_is_the_model.Goals as goal

pub returns : goal.returns
returns c = steady_is_the_model
