use Rattle.chip_watch.specs.Reading.{Compared}
use Rattle.chip_watch.specs.Told.{frames_told}
use Rattle.chip_watch.proofs.wire.Wire.compares.Given as goal

-- the pieces so far
abbrev pub invariant-loop-piece : goal.invariant-loop-piece
invariant-loop-piece g l = Compared l.memory l.change l.piece (frames_told g.P.Programmer.exchanged l.initial.self) (frames_told g.P.Programmer.exchanged l.self)
