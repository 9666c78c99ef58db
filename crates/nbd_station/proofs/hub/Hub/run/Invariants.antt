use Rattle.std.proofs.Common.{◌≡◌, take}
use Rattle.block_device.specs.Facts.{CountsNeverFall}
use Rattle.nbd_station.specs.StationState.{memories}
use Rattle.nbd_station.specs.Running.{Runs}
use Rattle.nbd_station.specs.Telling.{AllTold}
use Rattle.nbd_station.proofs.hub.Hub.run.Given as goal

abbrev pub invariant-loop-event : goal.invariant-loop-event
invariant-loop-event g l =
    CountsNeverFall l.initial.self.disk l.self.disk
    × (g.W.Sink.faults l.out ≡ g.W.Sink.faults l.initial.out)
    × Runs l.initial.self l.self (take l.event-index l.events) (g.W.Sink.written l.initial.out) (g.W.Sink.written l.out)
    × (memories l.self ≡ memories l.initial.self)
    × AllTold l.initial.self (take l.event-index l.events) (g.W.Sink.written l.initial.out) (g.W.Sink.written l.out) l.self
