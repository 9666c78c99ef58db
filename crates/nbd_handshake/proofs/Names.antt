-- What is kept of a name.
use Rattle.std.proofs.Common.{◌≡◌, ℕ, ◌≤◌, ◌<◌, min, List, length, take, sym, ap, ◌∙◌, arith, inl, inr}
use Rattle.std.proofs.lemmas.Bool.{cases_lt}
use Rattle.std.proofs.lemmas.List.{take_all}

-- a buffer of 64 bytes with as many bytes of a name as there is room for
pub kept_name : (buffer name : List ℕ) (count : ℕ) → length buffer ≡ 64 → count ≡ min 64 (length name) → take count buffer ≡ take count name → take (length name) buffer ≡ take 64 name
kept_name buffer name count size count-is same =
    elim (cases_lt 64 (length name)) [
      | inl long ↦
          let full : count ≡ 64 = omega arith in
          let all : take (length name) buffer ≡ buffer = take_all (length name) buffer (omega arith) in
          let most : take 64 buffer ≡ buffer = take_all 64 buffer (omega arith) in
          all ∙ sym most ∙ ap (λ (n : ℕ). take n buffer) (sym full) ∙ same ∙ ap (λ (n : ℕ). take n name) full
      | inr short ↦
          let whole : count ≡ length name = omega arith in
          ap (λ (n : ℕ). take n buffer) (sym whole) ∙ same ∙ ap (λ (n : ℕ). take n name) whole ∙ take_all (length name) name (omega arith) ∙ sym (take_all 64 name short)
    ]
