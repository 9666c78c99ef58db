use Rattle.std.proofs.Common.{ℕ, Bool, false, sym, ap, ◌∙◌, is_ok}
use Rattle.chip_model.specs.Chip.{Chip, is_idle}
use Rattle.chip_model.specs.Chip.{is_setting}
use Rattle.nor_driver.specs.Shown.{shown}
use Rattle.nor_driver.proofs.Idle.{answer_stays, refusal_stays}
use Rattle.nor_driver.proofs.Stays.{refusal_tells}
use Rattle.nor_driver.proofs.Survey.{Accepted, accepted}
use Rattle.nor_driver.proofs.driver.Driver.probe.Goals as goal

pub invariant_of-result : goal.invariant_of-result
invariant_of-result g c =
    let new = g.B.SpiBus.chip c.survey.new.bus in
    let h = c.in-Ok.ensures in
    let a : Accepted new c.in-Ok.params = accepted new c.in-Ok.params (g.met.B.SpiBus.lawful c.survey.new.bus) (sym h.0.table) in
    let w = h.0.woken in
    record {
      size = a.size;
      whole = a.of_a_chip.whole;
      least = a.of_a_chip.least;
      most = a.of_a_chip.most;
      accepted = ap is_ok (sym h.0.table);
      unprotected = a.unprotected;
      in_memory = ap (λ (x : Chip). is_setting x.operation) w.on ∙ ap is_setting w.left.operation;
      idle = ap (λ (x : Chip). is_idle x.operation) w.on ∙ ap is_idle w.left.operation;
    }

pub returns-in-Ok-clause-found : goal.returns-in-Ok-clause-found
returns-in-Ok-clause-found g c =
    let new = g.B.SpiBus.chip c.survey.new.bus in
    let h = c.in-Ok.ensures in
    let a : Accepted new c.in-Ok.params = accepted new c.in-Ok.params (g.met.B.SpiBus.lawful c.survey.new.bus) (sym h.0.table) in
    record {
      new = new;
      woken = h.0.woken;
      params = c.in-Ok.params;
      table = sym h.0.table;
      known = λ i. sym (h.0.table ∙ answer_stays _ _ i h.0.woken);
      size = a.size;
      state_is =
          ap (λ (n : ℕ). shown new n (g.B.SpiBus.slows c.survey.new.bus) false c.is_some.result) h.1
          ∙ (ap (λ (n : ℕ). shown new (g.B.SpiBus.cuts c.args.bus) n false c.is_some.result) h.2
          ∙ ap (λ (b : Bool). shown new (g.B.SpiBus.cuts c.args.bus) (g.B.SpiBus.slows c.args.bus) false b) c.is_some.ensures);
    }

pub returns-in-Err-clause-known : goal.returns-in-Err-clause-known
returns-in-Err-clause-known g c = λ i. refusal_stays c.in-Err.error _ _ _ _ _ _ i c.in-Err.ensures

pub returns-in-Err-clause-stays : goal.returns-in-Err-clause-stays
returns-in-Err-clause-stays g c = λ n. refusal_tells c.in-Err.error _ _ _ _ _ _ n c.in-Err.ensures
