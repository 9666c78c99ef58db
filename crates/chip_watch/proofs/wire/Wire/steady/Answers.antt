use Rattle.std.proofs.Common.{ℕ, List, subst}
use Rattle.chip_model.specs.Exchanges.{Exchanged}
use Rattle.chip_watch.specs.Reading.{change_reads}
use Rattle.chip_watch.specs.Told.{frames_told}
use Rattle.chip_watch.proofs.wire.Wire.steady.Goals as goal

pub returns : goal.returns
returns g c =
    let log = g.P.Programmer.exchanged in
    let rested = frames_told log c.rest.new.self in
    let shown = frames_told log c.shows_change.new.self in
    record {
      rested = rested;
      shown = shown;
      rests = c.in_ok-rest.ensures;
      shows = subst (λ (m : List ℕ). Exchanged rested shown (change_reads c.args.change m)) c.memory.ensures c.in_ok-shows_change.ensures.shown;
      registers = c.in_ok-shows_registers.ensures;
    }
