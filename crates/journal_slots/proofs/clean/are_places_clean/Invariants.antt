use Rattle.std.proofs.Common.{◌≡◌, ℕ, ◌<◌}
use Rattle.nor_layout.specs.declared.header.Header.TheVariants as headers
use Rattle.sector_slots.specs.Slots.{read_header, content_bytes, blank_sector}
use Rattle.journal_slots.proofs.clean.are_places_clean.Given as goal

abbrev pub invariant-loop-place : goal.invariant-loop-place
invariant-loop-place l = record {
  clean : (i : ℕ) → i < l.place → read_header l.fn.places i ≡ headers.Free → content_bytes l.fn.bytes i ≡ blank_sector;
}
