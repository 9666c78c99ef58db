use Rattle.std.proofs.Common.{arith}
use Rattle.std.proofs.lemmas.Grind.{common_steps}
use Rattle.nor_driver.proofs.probe.survey.Goals as goal

pub returns-then-branch : goal.returns-then-branch
returns-then-branch g c = grind (arith, common_steps)

pub returns : goal.returns
returns g c = grind (arith, common_steps)
