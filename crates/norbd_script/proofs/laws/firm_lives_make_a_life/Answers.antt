use Rattle.norbd_script.proofs.Living.{firm-lives}
use Rattle.norbd_script.proofs.laws.firm_lives_make_a_life.Goals as goal

pub returns : goal.returns
returns c = firm-lives
