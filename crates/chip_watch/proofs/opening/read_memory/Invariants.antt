use Rattle.std.proofs.Common.{◌≡◌, ◌*◌, length}
use Rattle.chip_model.specs.Exchanges.{Exchanged}
use Rattle.chip_watch.specs.Reading.{piece_reads}
use Rattle.chip_watch.specs.Told.{frames_told}
use Rattle.chip_watch.proofs.opening.read_memory.Given as goal

-- the pieces so far
abbrev pub invariant-loop-batch : goal.invariant-loop-batch
invariant-loop-batch g l = record {
  long : length l.memory.items ≡ 4096 * (8 * l.batch);
  read : Exchanged (frames_told g.P.Programmer.exchanged l.initial.wire) (frames_told g.P.Programmer.exchanged l.wire) (piece_reads l.memory.items 0 (8 * l.batch));
}
