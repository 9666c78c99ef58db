use Rattle.std.proofs.Common.{◌∙◌, ◌+◌, ◌≤◌, List, ℕ, length, subst, sym, ap, arith}
use Rattle.std.specs.Prelude.{slice_range, IfErr}
use Rattle.std.proofs.lemmas.Result.{err_from_is_err_and}
use Rattle.chip_model.specs.Frames.{Receives, command_of}
use Rattle.nor_driver.specs.Shown.{shown}
use Rattle.nor_driver.specs.State.{NorFails}
use Rattle.nor_driver.proofs.Shape.{read_back, when_down, lost_fails}
use Rattle.nor_driver.proofs.Stays.{accepted_asked}
use Rattle.nor_driver.proofs.driver.DriverNor.read.Goals as goal

pub returns-clause-ok : goal.returns-clause-ok
returns-clause-ok g c =
    let chip = g.B.SpiBus.chip c.args.self.now.bus in
    let same = c.ask.auto.into in
    let fits : c.args.at + length c.ask.new.into ≤ length chip.memory = omega (arith, same, c.requires.range) in
    read_back chip c.args.at c.ask.new.into fits (subst (λ (s : List ℕ). Receives chip (command_of s) c.ask.new.into) (c.deref.ensures.0 ∙ c.read.ensures) c.in_ok-ask.ensures.answers)
    ∙ ap (λ n. slice_range chip.memory c.args.at (c.args.at + n)) same

pub invariant_of-self-clause-accepted : goal.invariant_of-self-clause-accepted
invariant_of-self-clause-accepted g c =
    let d = c.args.self.now in
    accepted_asked c.ask.result (g.B.SpiBus.chip d.bus) (g.B.SpiBus.chip c.ask.new.bus) _ _ d.in_memory c.ask.ensures.chip c.ask.ensures.lost d.accepted

pub returns-in_err-ask-clause-fails : goal.returns-in_err-ask-clause-fails
returns-in_err-ask-clause-fails g c =
    let d = c.args.self.now in
    let old = shown (g.B.SpiBus.chip d.bus) (g.B.SpiBus.cuts d.bus) (g.B.SpiBus.slows d.bus) d.slow d.large in
    let new = shown (g.B.SpiBus.chip c.ask.new.bus) (g.B.SpiBus.cuts c.ask.new.bus) (g.B.SpiBus.slows c.ask.new.bus) d.slow d.large in
    let p = err_from_is_err_and c.from_residual.result c.from_residual.ensures.1 in
    let f = lost_fails _ _ _ _ _ _ d.slow d.large (when_down _ _ c.if-self.false d.idle) c.in_err-ask.ensures.lost c.in_err-ask.ensures.slows in
    subst (λ r. IfErr r (λ e. NorFails e old new)) (sym p.1) (subst (λ e. NorFails e old new) (sym p.2) f)
