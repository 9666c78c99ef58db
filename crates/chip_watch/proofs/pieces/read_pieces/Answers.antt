use Rattle.std.proofs.Common.{rules, ◌≡◌, ◌++◌}
use Rattle.chip_watch.specs.Reading.{received_of}
use Rattle.chip_watch.specs.Told.{frames_told}
use Rattle.chip_watch.proofs.ReadingLaws.{grown}
use Rattle.chip_watch.proofs.pieces.read_pieces.Goals as goal

pub returns-then-put_pieces-clause-long : goal.returns-then-put_pieces-clause-long
returns-then-put_pieces-clause-long g c =
    let log = g.P.Programmer.exchanged in
    let e = c.in-Some-exchange_turns.ensures in
    let asked = c.in-Some.turns.items in
    let answered = c.in-Some-exchange_turns.answered.items in
    let joined : c.put_pieces.new.memory.items ≡ c.args.memory.now.items ++ received_of answered = search rules in
    (grown (frames_told log c.args.wire.now) (frames_told log c.args.wire.now) (frames_told log c.exchange_turns.new.self) c.args.memory.now.items c.put_pieces.new.memory.items c.args.first c.args.count asked answered
    c.requires.before c.in-Some.ensures.pieces c.in-Some.ensures.count e.sends e.sizes e.exchanged joined).long

pub returns-then-put_pieces-clause-read : goal.returns-then-put_pieces-clause-read
returns-then-put_pieces-clause-read g c = λ begun one.
    let log = g.P.Programmer.exchanged in
    let e = c.in-Some-exchange_turns.ensures in
    let asked = c.in-Some.turns.items in
    let answered = c.in-Some-exchange_turns.answered.items in
    let joined : c.put_pieces.new.memory.items ≡ c.args.memory.now.items ++ received_of answered = search rules in
    (grown begun (frames_told log c.args.wire.now) (frames_told log c.exchange_turns.new.self) c.args.memory.now.items c.put_pieces.new.memory.items c.args.first c.args.count asked answered
    c.requires.before c.in-Some.ensures.pieces c.in-Some.ensures.count e.sends e.sizes e.exchanged joined).read one
