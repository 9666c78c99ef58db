use Rattle.std.proofs.Common.{ℕ, ◌∙◌, List, sym, subst}
use Rattle.chip_model.specs.Chip.{Chip}
use Rattle.chip_model.specs.Frames.{Receives, command_of}
use Rattle.nor_driver.specs.Steps.{Woken}
use Rattle.nor_driver.proofs.Tell.{Received, identified}
use Rattle.nor_driver.proofs.probe.identify.Goals as goal

pub returns-clause-identifies : goal.returns-clause-identifies
returns-clause-identifies g c =
    let old = g.B.SpiBus.chip c.args.bus.now in
    let new = g.B.SpiBus.chip c.ask.new.bus in
    let same = c.in_ok-ask.ensures.chip in
    let first = subst (λ (s : List ℕ). Receives (g.B.SpiBus.chip c.wake.new.bus) (command_of s) c.wake.new.into) (c.deref.ensures.0 ∙ c.jedec_id.ensures) c.in_ok-wake.ensures.answers in
    let second = subst (λ (s : List ℕ). Receives (g.B.SpiBus.chip c.wake.new.bus) (command_of s) c.ask.new.into) (c.deref-2.ensures.0 ∙ c.sfdp.ensures) c.in_ok-ask.ensures.answers in
    let told : Received (g.B.SpiBus.chip c.wake.new.bus) c.wake.new.into c.ask.new.into = record {
      law = g.met.B.SpiBus.lawful c.wake.new.bus;
      three = c.wake.auto.into;
      whole = c.ask.auto.into;
      id_told = first;
      table_told = second;
    } in
    let served = sym c.is_served.ensures ∙ c.if-not-is_served.false in
    identified old new _ _ c.wake.new.into c.ask.new.into c.sized.result (subst (λ (x : Chip). Woken old x) (sym same) c.in_ok-wake.ensures.woken) (c.in_ok-ask.ensures.cuts ∙ c.in_ok-wake.ensures.cuts)
    (subst (λ (x : Chip). Received x c.wake.new.into c.ask.new.into) (sym same) told) served c.sized.ensures
