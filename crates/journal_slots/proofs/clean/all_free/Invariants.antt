use Rattle.std.proofs.Common.{◌≡◌, ℕ, ◌<◌}
use Rattle.nor_layout.specs.declared.header.Header.TheVariants as headers
use Rattle.sector_slots.specs.Slots.{read_header}
use Rattle.journal_slots.proofs.clean.all_free.Given as goal

abbrev pub invariant-loop-place : goal.invariant-loop-place
invariant-loop-place l = record {
  free : (i : ℕ) → i < l.place → read_header l.fn.places i ≡ headers.Free;
}
