use Rattle.std.proofs.Common.{◌≡◌, []}
use Rattle.chip_model.specs.Exchanges.{Exchanged}
use Rattle.chip_watch.specs.Reading.{piece_reads}
use Rattle.chip_watch.specs.Told.{frames_told}
use Rattle.chip_watch.proofs.wire.Wire.shows_pieces.Given as goal

-- the pieces so far
abbrev pub invariant-loop-piece : goal.invariant-loop-piece
invariant-loop-piece g l = record {
  shown : Exchanged (frames_told g.P.Programmer.exchanged l.initial.self) (frames_told g.P.Programmer.exchanged l.self) (piece_reads l.memory l.at l.piece);
  sent : l.initial.self.ahead.items ≡ [] → l.self.ahead.items ≡ [];
}
