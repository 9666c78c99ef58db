use Rattle.norbd_script.proofs.NextLife.{steady-lives}
use Rattle.norbd_script.proofs.laws.steady_lives_are_mounted.Goals as goal

pub returns : goal.returns
returns c = steady-lives
