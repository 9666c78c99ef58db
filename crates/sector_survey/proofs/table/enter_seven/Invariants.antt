use Rattle.std.proofs.Common.{◌≡◌, ℕ, ◌+◌, ◌*◌, length}
use Rattle.sector_slots.specs.Slots.{Slot}
use Rattle.sector_map.specs.Table.{IsTabled}
use Rattle.sector_map.specs.Scan.{HeadsOf}
use Rattle.sector_survey.proofs.table.enter_seven.Given as goal

abbrev pub invariant-loop-place : goal.invariant-loop-place
invariant-loop-place l = record {
  size : length l.table ≡ length l.fn.table;
  tabled : (f : ℕ → Slot) → HeadsOf l.fn.heads f l.fn.block → IsTabled l.fn.table f (7 * l.fn.block) → IsTabled l.table f (7 * l.fn.block + l.place);
}
