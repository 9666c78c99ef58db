-- A block of which there is a committed copy can be erased, where it is none itself.
use Rattle.std.proofs.Common.{◌≡◌, ◌≢◌, ℕ, ◌+◌, ◌<◌, List, sym, ap, ◌∙◌}
use Rattle.nor_layout.specs.declared.kind.Kind.TheVariants as kinds
use Rattle.sector_slots.specs.Slots.{copies, kind_at, raw_slot, data_blocks, slot_at}
use Rattle.sector_slots.proofs.CopyLaws.{counted-source, source-copies, outside-live}
use Rattle.sector_slots.specs.Steps.{IsErasable}

pub copied-erasable : (s t : ℕ) (m : List ℕ) → t < data_blocks m → ((b : ℕ) → kind_at m s ≢ kinds.Committed b) → kind_at m t ≡ kinds.Committed (s + 4) → IsErasable s m
copied-erasable s t m low plain copy = record {
  copy = plain;
  dead = λ w tag x small here live.
      outside-live (slot_at m w) tag.number tag.generation x
      (counted-source (kind_at m) (raw_slot m) (data_blocks m) w (λ z. source-copies s t (data_blocks m) (kind_at m) low copy (ap (λ c. copies (kind_at m) (data_blocks m) c) (sym here) ∙ z))) live;
}
