use Rattle.std.proofs.Common.{sym, subst}
use Rattle.std.specs.Prelude.{OnOk}
use Rattle.nbd_station.specs.StationState.{StationState}
use Rattle.nbd_station.specs.Running.{Runs}
use Rattle.nbd_station.proofs.station.Station.run.Goals as goal
use Rattle.nbd_station.proofs.station.Station.run.Goals.{in-Ok, in-Err}

pub returns-clause-says : goal.returns-clause-says
returns-clause-says g c =
    let P = Runs c.args.self.now c.run.new.self c.args.events.now (g.W.Sink.written c.args.out.now) (g.W.Sink.written c.run.new.out) in
    let is_run : StationState → Type 0 = λ b. Runs b c.run.new.self c.args.events.now (g.W.Sink.written c.args.out.now) (g.W.Sink.written c.run.new.out) in
    elim c.match-run.branch [
      | in-Ok w ↦ subst (λ r. OnOk r P) (sym w.result-is) (subst is_run c.self.view_is w.in-Ok.ensures.says)
      | in-Err w ↦ subst (λ r. OnOk r P) (sym w.result-is) tt
    ]
