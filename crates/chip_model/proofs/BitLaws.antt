-- What follows of mixed bytes.
use Rattle.std.proofs.Common.{◌≡◌, ◌≢◌, ℕ, ◌⊎◌, sym, ap, ◌∙◌, inl, inr}
use Rattle.std.specs.Int.{bit_at}
use Rattle.std.proofs.lemmas.Bool.{cases_eq}
use Rattle.std.proofs.lemmas.Nat.Bits.{same_from_bits}
use Rattle.chip_model.specs.Memory.{IsMixed}

-- a mix of a byte with itself is that byte
pub mixed_same : (x t : ℕ) → IsMixed x x t → t ≡ x
mixed_same x t h = same_from_bits t x (λ i. elim (h i) [ inl e ↦ e | inr e ↦ e ])

-- a mix of two bytes that differ in the bit j alone is the one or the other
pub mixed_one : (j old new t : ℕ) → ((k : ℕ) → k ≢ j → bit_at old k ≡ bit_at new k) → IsMixed old new t → (t ≡ old) ⊎ (t ≡ new)
mixed_one j old new t others h = elim (h j) [
  | inl e ↦ inl (same_from_bits t old (λ k. elim (cases_eq k j) [
    | inl same ↦ ap (λ i. bit_at t i) same ∙ (e ∙ ap (λ i. bit_at old i) (sym same))
    | inr ne ↦ elim (h k) [ inl a ↦ a | inr b ↦ b ∙ sym (others k ne) ]
  ]))
  | inr e ↦ inr (same_from_bits t new (λ k. elim (cases_eq k j) [
    | inl same ↦ ap (λ i. bit_at t i) same ∙ (e ∙ ap (λ i. bit_at new i) (sym same))
    | inr ne ↦ elim (h k) [ inl a ↦ a ∙ others k ne | inr b ↦ b ]
  ]))
]
