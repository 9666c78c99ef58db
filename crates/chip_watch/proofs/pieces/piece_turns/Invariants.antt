use Rattle.std.proofs.Common.{◌≡◌, length}
use Rattle.chip_watch.specs.Reading.{ArePieces}
use Rattle.chip_watch.proofs.pieces.piece_turns.Given as goal

-- the READs so far
abbrev pub invariant-loop-piece : goal.invariant-loop-piece
invariant-loop-piece l = record {
  pieces : ArePieces l.first l.turns.items;
  count : length l.turns.items ≡ l.piece;
}
