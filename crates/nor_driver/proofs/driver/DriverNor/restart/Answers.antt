use Rattle.std.proofs.Common.{◌∙◌}
use Rattle.std.proofs.lemmas.Bool.{or_right}
use Rattle.chip_model.proofs.FrameLaws.{still_open}
use Rattle.nor_driver.proofs.Shape.{waked_shape, waked_idle}
use Rattle.nor_driver.proofs.Stays.{accepted_waked, accepted_woken}
use Rattle.nor_driver.proofs.driver.DriverNor.restart.Goals as goal

pub invariant_of-self : goal.invariant_of-self
invariant_of-self g c =
    let d = c.args.self.now in
    let old = g.B.SpiBus.chip d.bus in
    let new = g.B.SpiBus.chip c.wake.new.bus in
    let k = waked_shape c.wake.result old new d.in_memory c.wake.ensures.woken c.wake.ensures.lost in
    record {
      size = k.size ∙ d.size;
      whole = d.whole;
      least = d.least;
      most = d.most;
      accepted = accepted_waked c.wake.result old new d.in_memory c.wake.ensures.woken c.wake.ensures.lost d.accepted;
      unprotected = still_open old new k d.unprotected;
      in_memory = k.not_setting;
      idle = or_right _ _ (waked_idle c.wake.result old new c.wake.ensures.woken c.wake.ensures.lost);
    }

pub invariant_of-self-2-clause-accepted : goal.invariant_of-self-2-clause-accepted
invariant_of-self-2-clause-accepted g c =
    let d = c.args.self.now in
    accepted_woken (g.B.SpiBus.chip d.bus) (g.B.SpiBus.chip c.wake.new.bus) d.in_memory c.in_ok-wake.ensures.woken d.accepted
