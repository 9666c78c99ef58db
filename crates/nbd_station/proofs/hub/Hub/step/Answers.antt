use Rattle.std.proofs.Common.{refl, ◌∙◌, sym, replicate, false, subst}
use Rattle.nbd_station.specs.Moving.{Halts}
use Rattle.nbd_station.proofs.Moving.{station}
use Rattle.nbd_station.proofs.Ending.{hangs_up}
use Rattle.nbd_station.proofs.hub.Hub.step.Goals as goal

pub returns-in-Err-clause-hangs : goal.returns-in-Err-clause-hangs
returns-in-Err-clause-hangs g c =
    let s = c.self.inside in
    let f = g.D.Disk.facts s.disk in
    let mid = station f s.export s.power s.sessions.items s.is_open in
    let after = station f s.export s.power s.sessions.items (replicate 8 false) in
    hangs_up c.args.self.now mid after c.args.event _ _ (sym s.sessions.ok.0 ∙ c.self.invariant.eight) refl
    (subst (λ b. Halts c.args.self.now b c.args.event (g.W.Sink.written c.args.out.now) (g.W.Sink.written c.answer.new.out)) (sym c.self.view_is) c.in-Err.ensures.does)
