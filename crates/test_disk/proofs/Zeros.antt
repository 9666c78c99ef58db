-- The first sector of a disk of zeros.
use Rattle.std.proofs.Common.{◌≡◌, ◌<◌, ℕ, zero, List, length, take, drop, refl, sym, ap, ◌∙◌, arith, inl, inr}
use Rattle.std.specs.Prelude.{replicate}
use Rattle.std.proofs.lemmas.Bool.{cases_lt}
use Rattle.std.proofs.lemmas.List.{take-replicate, take_all, length-replicate}

pub zeros-read : (into contents : List ℕ) (n : ℕ) → contents ≡ replicate n 0 → into ≡ take 512 (drop 0 contents) → length into ≡ 512 → into ≡ replicate 512 0
zeros-read into contents n zeros read long =
    let same : into ≡ take 512 (replicate n 0) = read ∙ ap (λ z. take 512 z) zeros in
    let count : length (replicate n zero) ≡ n = length-replicate {A = ℕ} n zero in
    elim (cases_lt n 512) as (λ _. into ≡ replicate 512 0) [
      | inl below ↦
          let all : into ≡ replicate n 0 = same ∙ take_all 512 (replicate n 0) (omega (arith, below, count)) in
          let len : length into ≡ n = ap length all ∙ count in
          absurd (omega (arith, len, long, below))
      | inr enough ↦ same ∙ take-replicate 512 n 0 (omega (arith, enough))
    ]
