-- What holds of each number below one, and of that.
use Rattle.std.proofs.Common.{ℕ, ◌+◌, ◌<◌, sym, subst, arith, inl, inr}
use Rattle.std.proofs.lemmas.Bool.{cases_eq}

pub below-next : (P : ℕ → Type 0) (n : ℕ) → ((i : ℕ) → i < n → P i) → P n → (i : ℕ) → i < n + 1 → P i
below-next P n before here i low = elim (cases_eq i n) as (λ _. P i) [
  | inl e ↦ subst P (sym e) here
  | inr ne ↦ before i (omega (arith, low, ne))
]
