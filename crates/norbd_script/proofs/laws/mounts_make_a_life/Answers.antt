use Rattle.norbd_script.proofs.Living.{calls-are-a-life}
use Rattle.norbd_script.proofs.laws.mounts_make_a_life.Goals as goal

pub returns : goal.returns
returns c = calls-are-a-life
