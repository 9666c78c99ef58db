use Rattle.std.proofs.Common.{◌≡◌, length}
use Rattle.block_device.specs.Facts.{CountsNeverFall}
use Rattle.nbd_station.specs.Script.{PIECE_LEN}
use Rattle.nbd_station.specs.StationState.{memories}
use Rattle.nbd_station.proofs.Scripting.{SoMany, AreRead}
use Rattle.nbd_station.proofs.script.run_lines.Given as goal

abbrev pub invariant-loop : goal.invariant-loop
invariant-loop g l =
    CountsNeverFall l.initial.hub.disk l.hub.disk
    × (length l.piece ≡ PIECE_LEN)
    × SoMany l.initial.hub l.hub (g.S.Source.remaining l.initial.reader) (g.W.Sink.written l.initial.out) (g.S.Source.remaining l.reader) (g.W.Sink.written l.out)
    × (g.S.Source.faults l.reader ≡ g.S.Source.faults l.initial.reader)
    × (g.W.Sink.faults l.out ≡ g.W.Sink.faults l.initial.out)
    × AreRead l.counter (g.S.Source.remaining l.initial.reader) (g.S.Source.remaining l.reader)
    × (memories l.hub ≡ memories l.initial.hub)
