use Rattle.std.proofs.Common.{[], ◌∷◌, refl}
use Rattle.chip_watch.proofs.SettlingLaws.{rests_none, rests_more}
use Rattle.chip_watch.specs.Told.{frames_told}
use Rattle.chip_watch.proofs.wire.Wire.rest.Goals as goal

pub loop-init : goal.loop-init
loop-init g c = rests_none (frames_told g.P.Programmer.exchanged c.args.self.now)

pub loop-preserved : goal.loop-preserved
loop-preserved g c =
    let log = g.P.Programmer.exchanged in
    rests_more (frames_told log c.args.self.now) (frames_told log c.loop.self) (frames_told log c.ask.new.self)
    (record { sent = 5 ∷ []; received = c.in-Some.status ∷ [] } ∷ []) c.loop.invariant refl c.in-Some.ensures.read

pub returns-then-hear : goal.returns-then-hear
returns-then-hear g c =
    let log = g.P.Programmer.exchanged in
    rests_more (frames_told log c.args.self.now) (frames_told log c.ask.new.self) (frames_told log c.hear.new.self)
    (record { sent = 4 ∷ []; received = c.hear.new.self.heard.items } ∷ [])
    (rests_more (frames_told log c.args.self.now) (frames_told log c.loop.self) (frames_told log c.ask.new.self)
    (record { sent = 5 ∷ []; received = c.in-Some.status ∷ [] } ∷ []) c.loop.invariant refl c.in-Some.ensures.read)
    refl (c.if-hear.ensures.grows refl)
