use Rattle.std.proofs.Common.{rules}
use Rattle.sector_survey.specs.Cleanness.{IsOfGroups}
use Rattle.sector_survey.proofs.Cleaning.{some-dirty}
use Rattle.sector_survey.proofs.image.dirty_group_of.Goals as goal

pub returns-in-Ok-first_dirty_group-clause-some : goal.returns-in-Ok-first_dirty_group-clause-some
returns-in-Ok-first_dirty_group-clause-some c =
    let groups : IsOfGroups c.args.image.now = search rules in
    some-dirty c.in-Ok-first_dirty_group.found c.args.image.now _ c.in-Ok.journal.memory c.in_ok-chip.ensures groups c.in-Ok.ensures.ok.blocks c.in-Ok-first_dirty_group.ensures.told
