use Rattle.sector_slots.proofs.MachineLaws.{step-single}
use Rattle.sector_slots.proofs.laws.steps_keep_singles.Goals as goal

pub returns : goal.returns
returns c = λ s t m m' step sound single. step-single s t m m' step sound.slots.whole single
