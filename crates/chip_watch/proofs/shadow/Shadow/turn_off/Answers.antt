use Rattle.std.proofs.Common.{sym, subst, false}
use Rattle.chip_model.specs.Chip.{Chip}
use Rattle.chip_model.specs.Cut.{Cut}
use Rattle.chip_watch.specs.Watched.{shadow_chip}
use Rattle.chip_watch.proofs.OverlayLaws.{cut_when_done}
use Rattle.chip_watch.proofs.shadow.Shadow.turn_off.Goals as goal

pub returns-clause-cut : goal.returns-clause-cut
returns-clause-cut c =
    let old = shadow_chip c.args.self.now in
    subst (λ (d : Chip). Cut old (record d { powered = false })) (sym c.calm_down.ensures.left) (cut_when_done old c.args.self.now.calm.steady)
