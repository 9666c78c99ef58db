use Rattle.std.proofs.Common.{ap, refl, inl, inr, false}
use Rattle.chip_model.specs.Chip.{Chip, completed}
use Rattle.chip_watch.specs.Watched.{watched_chip}
use Rattle.chip_watch.proofs.OverlayLaws.{cut_when_done}
use Rattle.chip_watch.proofs.bus.WatchedBusSpiBus.power_on.Goals as goal

pub returns-in-Err-clause-powers_on : goal.returns-in-Err-clause-powers_on
returns-in-Err-clause-powers_on g c =
    let old = watched_chip c.args.self.now in
    record {
      off = record (completed old) { powered = false };
      left = cut_when_done old c.args.self.now.shadow.calm.steady;
      on = inr (ap (λ (d : Chip). record d { powered = false }) c.restart-status.ensures.left, refl);
    }

pub returns-in_default-clause-powers_on : goal.returns-in_default-clause-powers_on
returns-in_default-clause-powers_on g c =
    let old = watched_chip c.args.self.now in
    record {
      off = record (completed old) { powered = false };
      left = cut_when_done old c.args.self.now.shadow.calm.steady;
      on = inl (c.restart-status.ensures.left, refl);
    }
