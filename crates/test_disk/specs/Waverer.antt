-- What the weak bits of a simulated chip read as after each power-on: those of one byte, again and
-- again. Source: own.
use Rattle.std.proofs.Common.{◌≡◌, ◌<◌, ◌⊎◌, ℕ, zero, suc, List, refl, inl, inr, arith}
use Rattle.std.proofs.lemmas.Bool.{cases_lt}
use Rattle.std.specs.Prelude.{[], ◌∷◌}
use Rattle.chip_model.specs.Memory.{byte}
use Rattle.chip_model.specs.Wavering.{Bits}
use Rattle.chip_simulator.specs.Weak.{drawn_by}
use Rattle.chip_simulator.proofs.WeakLaws.{drawn_draw}
use Rattle.restored_disk.specs.Lives.{Draw, as_before}

-- each is a byte
abbrev pub AreBytes : List ℕ → Type 0
AreBytes l = (i : ℕ) → byte l i < 256

longer : (x : ℕ) (l : List ℕ) → x < 256 → AreBytes l → AreBytes (x ∷ l)
longer x l low rest zero = low
longer x l low rest (suc i) = rest i

are_bytes : (l : List ℕ) → AreBytes l ⊎ (AreBytes l → ⊥)
are_bytes [] = inl (λ i. omega arith)
are_bytes (x ∷ l) = elim (cases_lt x 256) [
  | inl low ↦ elim (are_bytes l) as (λ _. AreBytes (x ∷ l) ⊎ (AreBytes (x ∷ l) → ⊥)) [
    | inl rest ↦ inl (longer x l low rest)
    | inr others ↦ inr (λ all. others (λ i. all (suc i)))
  ]
  | inr high ↦ inr (λ all. (let low = all 0 in absurd (omega (arith, low, high))))
]

draw_if : (draw : List ℕ) (b : Bits) → AreBytes b.shown ⊎ (AreBytes b.shown → ⊥)
    → AreBytes b.weak ⊎ (AreBytes b.weak → ⊥) → Draw b
draw_if draw b (inl shown) (inl weak) = record {
  later = drawn_by draw b.weak b.shown;
  drawn = drawn_draw draw b.weak b.shown shown weak;
}
draw_if draw b (inl shown) (inr others) = as_before b
draw_if draw b (inr others) weak = as_before b

-- where they are bytes, each weak bit reads as that of the draw
pub draw_of : List ℕ → (b : Bits) → Draw b
draw_of draw b = draw_if draw b (are_bytes b.shown) (are_bytes b.weak)

drawn_if : (draw : List ℕ) (b : Bits) (s : AreBytes b.shown ⊎ (AreBytes b.shown → ⊥))
    (w : AreBytes b.weak ⊎ (AreBytes b.weak → ⊥)) → AreBytes b.shown → AreBytes b.weak
    → (draw_if draw b s w).later ≡ drawn_by draw b.weak b.shown
unfolding draw_if
drawn_if draw b (inl shown) (inl weak) small masks = refl
drawn_if draw b (inl shown) (inr others) small masks = absurd (others masks)
drawn_if draw b (inr others) w small masks = absurd (others small)

pub draw_is : (draw : List ℕ) (b : Bits) → AreBytes b.shown → AreBytes b.weak
    → (draw_of draw b).later ≡ drawn_by draw b.weak b.shown
unfolding draw_of
draw_is draw b small masks = drawn_if draw b (are_bytes b.shown) (are_bytes b.weak) small masks
