use Rattle.std.proofs.Common.{◌≡◌, List, length, Bool}
use Rattle.nbd_share.specs.declared.door.Point.{Point}
use Rattle.nbd_worker.specs.Sweeping.{Sweeps, tidyings}
use Rattle.nbd_worker.proofs.keeping.keeper.Given as goal

abbrev pub invariant-loop-round : goal.invariant-loop-round
invariant-loop-round g l =
    (answers : List Bool) × (points : List Point) × Sweeps g.T.Door.tidies l.fn.door answers l.door
    × g.G.Gate.passes l.fn.gate l.gate points × (tidyings points ≡ length answers) × (length answers ≡ l._round)
