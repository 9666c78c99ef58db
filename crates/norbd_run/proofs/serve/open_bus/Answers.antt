use Rattle.std.proofs.Common.{subst}
use Rattle.sector_survey.specs.Cleanness.{HasCleanGroups}
use Rattle.norbd_run.proofs.serve.open_bus.Goals as goal

pub returns-clause-groups : goal.returns-clause-groups
returns-clause-groups g c = subst HasCleanGroups c.requires.copy c.in_ok-copied_disk.ensures.groups
