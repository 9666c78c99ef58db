-- The third id byte, by trying one exponent after another.
use Rattle.std.proofs.Common.{◌≡◌, ℕ, suc, ◌+◌, ◌-◌, ◌^◌, ◌<◌, ◌≤◌, ap, subst, ◌∙◌, arith}
use Rattle.std.specs.Prelude.{◌*◌, ◌%◌}
use Rattle.std.proofs.lemmas.Nat.{one_shl}
use Rattle.std.proofs.lemmas.Bool.{cond-true, cond-false, le-leb, lt-leb}
use Rattle.chip_model.specs.Frames.{id_from}

unrolled : (k size : ℕ) → k < 25 → id_from (25 - k) k size ≡ id_from (suc (25 - (k + 1))) k size
unrolled k size low = let e : 25 - k ≡ suc (25 - (k + 1)) = omega arith in ap (λ n. id_from n k size) e

shifted : (k : ℕ) → k < 25 → 1 * 2 ^ k % 4294967296 ≡ 2 ^ k
shifted k low = one_shl k 32 (omega arith)

pub id_found : (k size : ℕ) → k < 25 → size ≤ 1 * 2 ^ k % 4294967296 → id_from (25 - k) k size ≡ k
id_found k size low fits = unrolled k size low ∙ cond-true _ _ _ (le-leb _ _ (subst (λ (n : ℕ). size ≤ n) (shifted k low) fits))

pub id_next : (k size : ℕ) → k < 25 → 1 * 2 ^ k % 4294967296 < size → id_from (25 - k) k size ≡ id_from (25 - (k + 1)) (k + 1) size
id_next k size low more = unrolled k size low ∙ cond-false _ _ _ (lt-leb _ _ (subst (λ (n : ℕ). n < size) (shifted k low) more))
