use Rattle.std.proofs.Common.{◌≡◌, ◌≢◌, ℕ, ◌+◌, ◌*◌, ◌<◌, false}
use Rattle.chip_model.specs.Memory.{byte}
use Rattle.nor_layout.specs.Kinds.{kind_of}
use Rattle.sector_slots.specs.Slots.{is_group}
use Rattle.journal_slots.proofs.firm.is_begun.Given as goal

abbrev pub invariant-loop-place : goal.invariant-loop-place
invariant-loop-place l = record {
  slots : is_group (kind_of l.fn.head) ≡ false;
  none : (i : ℕ) → i < l.place → byte l.fn.head (16 + 4 * i) ≢ 254;
}
