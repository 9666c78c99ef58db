use Rattle.std.proofs.Common.{◌∙◌, sym, replicate, false, true, subst}
use Rattle.nbd_station.specs.declared.event.Event.TheVariants.{Restore}
use Rattle.nbd_station.specs.Moving.{Does}
use Rattle.nbd_station.proofs.Moving.{station, does_by, does_seen, restored, restore_lost}
use Rattle.nbd_station.proofs.hub.Hub.restore.Goals as goal

pub returns-in-Ok-clause-does : goal.returns-in-Ok-clause-does
returns-in-Ok-clause-does g c =
    let e = c.in-Ok.ensures in
    let s = c.self.inside in
    let before = station (g.D.Disk.facts s.disk) s.export s.power s.sessions.items s.is_open in
    let after = station (g.D.Disk.facts c.restore.new.self) s.export true s.sessions.items s.is_open in
    does_seen before c.args.self.now after Restore _ _ c.put.result c.self.view_is (does_by before after Restore _ _ _ _ c.put.result _ _
    (restored (g.D.Disk.facts s.disk) (g.D.Disk.facts c.restore.new.self) s.export s.power s.sessions.items s.is_open _ e.contents e.sound e.goes.cuts e.latches.0 e.latches.1) c.put.ensures)

pub returns-in-Err-Cut-clause-does : goal.returns-in-Err-Cut-clause-does
returns-in-Err-Cut-clause-does g c =
    let e = rw c.in-Err-Cut.field-0-is at c.in-Err-Cut.ensures in
    let s = c.self.inside in
    let before = station (g.D.Disk.facts s.disk) s.export s.power s.sessions.items s.is_open in
    let after = station (g.D.Disk.facts c.restore.new.self) s.export false s.sessions.items (replicate 8 false) in
    subst (λ b. Does c.args.self.now b Restore (g.W.Sink.written c.args.out.now) c.put-in-Err-Cut.result (g.W.Sink.written c.put-in-Err-Cut.new.out)) (sym c.go_dark.ensures)
    (does_seen before c.args.self.now after Restore _ _ c.put-in-Err-Cut.result c.self.view_is (does_by before after Restore _ _ _ _ c.put-in-Err-Cut.result _ _
    (restore_lost (g.D.Disk.facts s.disk) (g.D.Disk.facts c.restore.new.self) s.export s.power s.sessions.items s.is_open _ (sym s.sessions.ok.0 ∙ c.self.invariant.eight)
    e.contents e.sound e.latches.0 e.latches.1 e.latches.2) c.put-in-Err-Cut.ensures))
