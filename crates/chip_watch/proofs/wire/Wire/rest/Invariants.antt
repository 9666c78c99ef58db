use Rattle.chip_watch.specs.Settling.{Rests}
use Rattle.chip_watch.specs.Told.{frames_told}
use Rattle.chip_watch.proofs.wire.Wire.rest.Given as goal

-- only waits so far
abbrev pub invariant-loop : goal.invariant-loop
invariant-loop g l = Rests (frames_told g.P.Programmer.exchanged l.initial.self) (frames_told g.P.Programmer.exchanged l.self)
