use Rattle.std.proofs.Common.{rules}
use Rattle.chip_watch.specs.Told.{frames_told}
use Rattle.chip_watch.proofs.AheadLaws.{heard_one}
use Rattle.chip_watch.proofs.wire.Wire.hear_turn.Goals as goal

pub returns-clause-grows : goal.returns-clause-grows
returns-clause-grows g c = λ yes.
    let log = g.P.Programmer.exchanged in
    let e = c.in-Some.ensures in
    (heard_one (frames_told log c.args.self.now) (frames_told log c.exchange_turns.new.self) c.in-Some.answered.items c.pop.new.self.items c.push.new.self.items c.in-Some-pop.last c.args.turn
    (search rules) (search rules) e.sends e.sizes e.exchanged).0

pub returns-clause-room : goal.returns-clause-room
returns-clause-room g c = λ yes.
    let log = g.P.Programmer.exchanged in
    let e = c.in-Some.ensures in
    (heard_one (frames_told log c.args.self.now) (frames_told log c.exchange_turns.new.self) c.in-Some.answered.items c.pop.new.self.items c.push.new.self.items c.in-Some-pop.last c.args.turn
    (search rules) (search rules) e.sends e.sizes e.exchanged).1
