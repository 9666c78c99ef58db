-- A single bit of a byte, by AND and by division.
use Rattle.std.proofs.Common.{◌≡◌, ℕ, ◌*◌, ◌/◌, ◌%◌, ◌∙◌, sym, arith, inl, inr, eqb}
use Rattle.std.specs.Prelude.{bit_and}
use Rattle.std.proofs.lemmas.Nat.Bits.{and_high}
use Rattle.std.proofs.lemmas.Bool.{cases_eq, eq-eqb, ne_eqb}

pub bit_6 : (n : ℕ) → eqb (bit_and n 64) 64 ≡ eqb (n / 64 % 2) 1
bit_6 n =
    let e : bit_and n 64 ≡ n / 64 % 2 * 64 = and_high n 1 6 in
    elim (cases_eq (n / 64 % 2) 1) [
      | inl one ↦ (let whole : bit_and n 64 ≡ 64 = omega (arith, e, one) in eq-eqb _ _ whole ∙ sym (eq-eqb _ _ one))
      | inr other ↦ (let none : bit_and n 64 ≡ 64 → ⊥ = λ w. other (omega (arith, e, w)) in ne_eqb _ _ none ∙ sym (ne_eqb _ _ other))
    ]

pub bit_2 : (n : ℕ) → eqb (bit_and n 4) 4 ≡ eqb (n / 4 % 2) 1
bit_2 n =
    let e : bit_and n 4 ≡ n / 4 % 2 * 4 = and_high n 1 2 in
    elim (cases_eq (n / 4 % 2) 1) [
      | inl one ↦ (let whole : bit_and n 4 ≡ 4 = omega (arith, e, one) in eq-eqb _ _ whole ∙ sym (eq-eqb _ _ one))
      | inr other ↦ (let none : bit_and n 4 ≡ 4 → ⊥ = λ w. other (omega (arith, e, w)) in ne_eqb _ _ none ∙ sym (ne_eqb _ _ other))
    ]

pub bits_2_to_4 : (n : ℕ) → eqb (bit_and n 28) 0 ≡ eqb (n / 4 % 8) 0
bits_2_to_4 n =
    let e : bit_and n 28 ≡ n / 4 % 8 * 4 = and_high n 3 2 in
    elim (cases_eq (n / 4 % 8) 0) [
      | inl none ↦ (let clear : bit_and n 28 ≡ 0 = omega (arith, e, none) in eq-eqb _ _ clear ∙ sym (eq-eqb _ _ none))
      | inr some ↦ (let set : bit_and n 28 ≡ 0 → ⊥ = λ w. some (omega (arith, e, w)) in ne_eqb _ _ set ∙ sym (ne_eqb _ _ some))
    ]
