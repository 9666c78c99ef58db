use Rattle.norbd_script.proofs.FromGroups.{from-groups}
use Rattle.norbd_script.proofs.laws.group_chips_are_served.Goals as goal

pub returns : goal.returns
returns c = from-groups c.sectors_decide_contents.ensures
