use Rattle.std.proofs.Common.{refl, ◌∙◌, sym, replicate, false, subst}
use Rattle.nbd_station.specs.declared.event.Event.TheVariants.{Tidy}
use Rattle.nbd_station.specs.Moving.{Does}
use Rattle.nbd_station.proofs.Moving.{station, does_by, does_seen, seen_power, refused, tidied, tidy_lost}
use Rattle.nbd_station.proofs.hub.Hub.tidy.Goals as goal

pub returns-then-not-self-clause-does : goal.returns-then-not-self-clause-does
returns-then-not-self-clause-does g c =
    does_by c.args.self.now c.args.self.now Tidy _ _ _ _ c.put.result _ _ (refused c.args.self.now Tidy _ _ (seen_power _ _ _ c.self.view_is c.if-not-self.true) (λ w. (refl, refl))) c.put.ensures

pub returns-in-Ok-clause-does : goal.returns-in-Ok-clause-does
returns-in-Ok-clause-does g c =
    let e = c.in-Ok.ensures in
    let s = c.self.inside in
    let before = station (g.D.Disk.facts s.disk) s.export s.power s.sessions.items s.is_open in
    let after = station (g.D.Disk.facts c.tidy.new.self) s.export s.power s.sessions.items s.is_open in
    does_seen before c.args.self.now after Tidy _ _ c.put-in-Ok.result c.self.view_is (does_by before after Tidy _ _ _ _ c.put-in-Ok.result _ _
    (tidied (g.D.Disk.facts s.disk) (g.D.Disk.facts c.tidy.new.self) s.export s.power s.sessions.items s.is_open _ c.if-not-self.false e.contents e.sound e.goes.cuts e.latches.1.0 e.latches.1.1) c.put-in-Ok.ensures)

pub returns-in-Err-Cut-clause-does : goal.returns-in-Err-Cut-clause-does
returns-in-Err-Cut-clause-does g c =
    let e = rw c.in-Err-Cut.field-0-is at c.in-Err-Cut.ensures in
    let s = c.self.inside in
    let before = station (g.D.Disk.facts s.disk) s.export s.power s.sessions.items s.is_open in
    let after = station (g.D.Disk.facts c.tidy.new.self) s.export false s.sessions.items (replicate 8 false) in
    subst (λ b. Does c.args.self.now b Tidy (g.W.Sink.written c.args.out.now) c.put-in-Err-Cut.result (g.W.Sink.written c.put-in-Err-Cut.new.out)) (sym c.go_dark.ensures)
    (does_seen before c.args.self.now after Tidy _ _ c.put-in-Err-Cut.result c.self.view_is (does_by before after Tidy _ _ _ _ c.put-in-Err-Cut.result _ _
    (tidy_lost (g.D.Disk.facts s.disk) (g.D.Disk.facts c.tidy.new.self) s.export s.power s.sessions.items s.is_open _ (sym s.sessions.ok.0 ∙ c.self.invariant.eight)
    c.if-not-self.false e.contents e.sound e.latches.0 e.latches.1 e.latches.2) c.put-in-Err-Cut.ensures))
