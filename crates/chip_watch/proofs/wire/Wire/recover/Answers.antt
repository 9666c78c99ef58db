use Rattle.std.proofs.Common.{ℕ, List, Option, length, ◌/◌, ap, subst}
use Rattle.chip_model.specs.Exchanges.{Exchange, Exchanged, turned}
use Rattle.chip_watch.specs.Reading.{Compared, change_reads}
use Rattle.chip_watch.specs.Settling.{Makes}
use Rattle.chip_watch.proofs.SettlingLaws.{rests_from}
use Rattle.chip_watch.specs.Told.{and_then, frames_told}
use Rattle.chip_watch.proofs.wire.Wire.recover.Goals as goal

pub returns : goal.returns
returns g c =
    let log = g.P.Programmer.exchanged in
    let change = c.args.change in
    let tabled = frames_told log c.shows_table.new.self in
    let compared = frames_told log c.compares.new.self in
    let made = frames_told log c.makes.new.self in
    let shown = frames_told log c.shows_change.new.self in
    record {
      rested = frames_told log c.rest.new.self;
      tabled = tabled;
      compared = compared;
      made = made;
      shown = shown;
      rests = rests_from (frames_told log c.args.self.now) (and_then (log c.reopen.new.self) (turned c.args.self.now.ahead.items)) (frames_told log c.rest.new.self) (ap (λ (l : Option (List Exchange)). and_then l (turned c.args.self.now.ahead.items)) c.reopen.ensures) c.in_ok-rest.ensures;
      table = c.in_ok-shows_table.ensures;
      memory = subst (λ (m : List ℕ). Compared m change (length m / 4096) tabled compared) c.memory.ensures c.in_ok-compares.ensures;
      again = subst (λ (m : List ℕ). Makes change m compared made) c.memory-2.ensures c.in_ok-makes.ensures;
      shows = subst (λ (m : List ℕ). Exchanged made shown (change_reads change m)) c.memory-3.ensures c.in_ok-shows_change.ensures.shown;
      registers = c.in_ok-shows_registers.ensures;
    }
