use Rattle.std.proofs.Common.{◌≡◌, length, take, ◌≤◌, ◌-◌}
use Rattle.std.specs.Io.KnownBytes.{Consumes}
use Rattle.nbd_station.proofs.script.fill.Given as goal

abbrev pub invariant-loop-used : goal.invariant-loop-used
invariant-loop-used g l =
    (l.used ≤ length l.into)
    × Consumes (g.S.Source.remaining l.initial.reader) (g.S.Source.remaining l.reader) (take l.used l.into)
    × (g.S.Source.faults l.reader ≡ g.S.Source.faults l.initial.reader)

abbrev pub decreases-loop-used : goal.decreases-loop-used
decreases-loop-used g l = length l.into - l.used
