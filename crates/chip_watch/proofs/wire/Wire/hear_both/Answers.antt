use Rattle.std.proofs.Common.{rules}
use Rattle.chip_watch.specs.Changes.{with_place}
use Rattle.chip_watch.specs.Told.{frames_told}
use Rattle.chip_watch.proofs.AheadLaws.{heard_two}
use Rattle.chip_watch.proofs.wire.Wire.hear_both.Goals as goal

pub returns-clause-grows : goal.returns-clause-grows
returns-clause-grows g c = λ yes.
    let log = g.P.Programmer.exchanged in
    let e = c.in-Some-exchange_turns.ensures in
    (heard_two (frames_told log c.args.self.now) (frames_told log c.exchange_turns.new.self) c.in-Some-exchange_turns.answered.items c.pop.new.self.items c.pop-2.new.self.items c.push-2.new.self.items
    c.in-Some-Some.first c.in-Some-Some.second c.in-Some.first c.in-Some-turn.second c.args.send.now (with_place 3 c.args.at) c.args.count
    (search rules) (search rules) (search rules) (search rules) (search rules) (search rules) e.sends e.sizes e.exchanged).0

pub returns-clause-room : goal.returns-clause-room
returns-clause-room g c = λ yes.
    let log = g.P.Programmer.exchanged in
    let e = c.in-Some-exchange_turns.ensures in
    (heard_two (frames_told log c.args.self.now) (frames_told log c.exchange_turns.new.self) c.in-Some-exchange_turns.answered.items c.pop.new.self.items c.pop-2.new.self.items c.push-2.new.self.items
    c.in-Some-Some.first c.in-Some-Some.second c.in-Some.first c.in-Some-turn.second c.args.send.now (with_place 3 c.args.at) c.args.count
    (search rules) (search rules) (search rules) (search rules) (search rules) (search rules) e.sends e.sizes e.exchanged).1
