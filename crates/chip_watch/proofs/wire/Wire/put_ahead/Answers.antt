use Rattle.std.proofs.Common.{rules, ◌≡◌, [], ◌∷◌, ◌++◌}
use Rattle.chip_watch.proofs.AheadLaws.{put, silent_pushed}
use Rattle.chip_watch.proofs.wire.Wire.put_ahead.Goals as goal

pub invariant_of-self : goal.invariant_of-self
invariant_of-self g c = record { silent = silent_pushed _ c.args.self.now.ahead.items c.push.new.self.items c.args.turn c.args.self.now.silent c.requires c.push.ensures.items }

pub returns-clause-grows : goal.returns-clause-grows
returns-clause-grows g c = λ yes.
    let log = g.P.Programmer.exchanged in
    let ahead = c.args.self.now.ahead.items in
    let whole : c.push.new.self.items ≡ ahead ++ (c.args.turn ∷ []) = search rules in
    let none : c.clear.new.self.items ≡ [] = search rules in
    put (log c.args.self.now.programmer) ahead c.push.new.self.items c.args.turn c.clear.new.self.items whole c.requires none
