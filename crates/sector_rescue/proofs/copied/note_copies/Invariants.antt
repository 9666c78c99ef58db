use Rattle.std.proofs.Common.{◌≡◌, ◌<◌, ℕ, length, false}
use Rattle.std.specs.Prelude.{◌==◌, not, slice_index_or}
use Rattle.sector_slots.specs.Slots.{copies, data_blocks}
use Rattle.sector_rescue.specs.Rescue.{kind_by}
use Rattle.sector_rescue.proofs.copied.note_copies.Given as goal

abbrev pub invariant-loop-block : goal.invariant-loop-block
invariant-loop-block l = record {
  size : length l.copied ≡ data_blocks l.image;
  each : (c : ℕ) → c < data_blocks l.image → slice_index_or l.copied c false ≡ not (copies (kind_by l.fn.layout l.image) l.block c == 0);
}
