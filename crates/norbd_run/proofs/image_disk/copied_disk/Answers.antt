use Rattle.std.proofs.Common.{ap, sym, subst}
use Rattle.std.specs.Prelude.{IfSome}
use Rattle.chip_model.specs.Chip.{Chip}
use Rattle.sector_map.specs.Maps.{IsMountable}
use Rattle.erase_journal.specs.Journals.{IsHealthy}
use Rattle.sector_survey.specs.Cleanness.{HasCleanGroups, IsFirstDirty, IsOfGroups}
use Rattle.norbd_run.proofs.Opening.{dirty-reason, none-clean}
use Rattle.norbd_run.proofs.image_disk.copied_disk.Goals as goal

pub returns-then-is_some-clause-reason : goal.returns-then-is_some-clause-reason
returns-then-is_some-clause-reason c = (
  subst IsMountable (ap (λ (z : Chip). z.memory) c.in-Ok-new.ensures.chip) c.in_ok-disk.ensures.from.mountable,
  dirty-reason c.in-Ok.found c.args.image.items (sym c.if-is_some.ensures)
      (subst (λ z. IfSome c.in-Ok.found (λ at. IsOfGroups z × IsFirstDirty z at)) c.as_slice.ensures.value c.in-Ok.ensures.some),
)

pub returns-clause-groups : goal.returns-clause-groups
returns-clause-groups c =
    none-clean c.in-Ok.found c.args.image.items (sym c.if-is_some.ensures)
    (λ none. subst (λ z. IsHealthy z → HasCleanGroups z) c.as_slice.ensures.value (c.in-Ok.ensures.none none))
    (subst IsMountable (ap (λ (z : Chip). z.memory) c.in-Ok-new.ensures.chip) c.in_ok-disk.ensures.from.mountable)
