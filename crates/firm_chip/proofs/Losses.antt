-- What a loss leaves is torn as on a steady chip, and then drawn.
use Rattle.std.proofs.Common.{◌≡◌, ◌≢◌, ℕ, ◌<◌, ◌⊎◌, true, false, cond, List, length, refl, sym, ap, ◌∙◌, subst, arith, inl, inr}
use Rattle.std.specs.Int.{bit_at}
use Rattle.std.proofs.lemmas.List.{get_or_past}
use Rattle.std.proofs.lemmas.Bool.{cases_lt, cases_eq, cond-true, cond-false}
use Rattle.std.proofs.lemmas.Nat.Bits.{bit_at_above, bit_at-lt}
use Rattle.chip_model.specs.Memory.{byte, changed, is_within, Torn, TornErase}
use Rattle.chip_model.specs.Chip.{Idle, Programming, Erasing, Setting, programmed}
use Rattle.chip_model.specs.Wavering.{Bits, IsBits, Drawn, TornProgram, TornUnit, completed_bits}
use Rattle.chip_model.proofs.MemoryLaws.{length-changed_from, get-changed}
use Rattle.chip_model.proofs.WaveringLaws.{byte_from_bits, program_bit, either}
use Rattle.firm_chip.specs.Losses.{LossesAreTornThenDrawn, LossesLeaveSteadyDisks}
use Rattle.erase_journal.proofs.Drawing.{mixed, mixed_firm, mixed_weak}
use Rattle.firm_chip.proofs.Disks.{each-draw}

-- a weak bit that isn't, isn't after a program
still_firm : (w : List ℕ) (at : ℕ) (bytes : List ℕ) (i k : ℕ) → bit_at (byte w i) k ≡ 0 → bit_at (byte (programmed w at bytes) i) k ≡ 0
still_firm w at bytes i k z = let e = program_bit w at bytes i k in omega (arith, e, z)

two : (a b c : ℕ) → a < 2 → b < 2 → c < 2 → b ≢ a → (c ≡ a) ⊎ (c ≡ b)
two a b c x y z n = elim (cases_eq c a) [ inl e ↦ inl e | inr ne ↦ inr (omega (arith, x, y, z, n, ne)) ]

pub torn_bit : (b new : Bits) (v : List ℕ) (at : ℕ) (bytes : List ℕ) (i k : ℕ) → TornProgram b (completed_bits (Programming at bytes) b) new → Drawn new.weak new.shown v → bit_at (byte b.weak i) k ≡ 0
    → (bit_at (byte v i) k ≡ bit_at (byte b.shown i) k) ⊎ (bit_at (byte v i) k ≡ bit_at (byte (programmed b.shown at bytes) i) k)
torn_bit b new v at bytes i k t d z = elim (t.each i k) [
  | inl a ↦ inl (d.firm i k (a.1 ∙ z) ∙ a.0)
  | inr r ↦ elim r [
    | inl a ↦ inr (d.firm i k (a.1 ∙ still_firm b.weak at bytes i k z) ∙ a.0)
    | inr p ↦ elim (cases_eq (bit_at (byte (programmed b.shown at bytes) i) k) (bit_at (byte b.shown i) k)) [
      | inl e ↦ absurd (p.1 (e, still_firm b.weak at bytes i k z ∙ sym z))
      | inr n ↦ two (bit_at (byte b.shown i) k) (bit_at (byte (programmed b.shown at bytes) i) k) (bit_at (byte v i) k) (bit_at-lt (byte b.shown i) k) (bit_at-lt (byte (programmed b.shown at bytes) i) k) (bit_at-lt (byte v i) k) n
    ]
  ]
]

program_torn : (b new : Bits) (v : List ℕ) (at : ℕ) (bytes : List ℕ) → TornProgram b (completed_bits (Programming at bytes) b) new → Drawn new.weak new.shown v
    → Torn b.shown (programmed b.shown at bytes) (changed (mixed b.shown b.weak) v)
program_torn b new v at bytes t d =
    let n = length-changed_from (mixed b.shown b.weak) 0 v in
    let a = t.same_length in
    let c = d.same_length in
    record {
      same_length = omega (arith, n, a, c);
      each = λ i low k. elim (cases_eq (bit_at (byte b.weak i) k) 0) [
        | inl z ↦ elim (torn_bit b new v at bytes i k t d z) [
          | inl e ↦ inl (mixed_firm b.shown b.weak v i k z ∙ e)
          | inr e ↦ inr (mixed_firm b.shown b.weak v i k z ∙ e)
        ]
        | inr w ↦ inl (mixed_weak b.shown b.weak v i k (omega (arith, low, a, c)) w)
      ];
    }

mixed_drawn : (m w v : List ℕ) → Drawn w (changed (mixed m w) v) v
mixed_drawn m w v = record {
  same_length = sym (length-changed_from (mixed m w) 0 v);
  firm = λ i k z. sym (mixed_firm m w v i k z);
}

-- the memory that reads as v in a unit, and as m elsewhere
abbrev within_or : ℕ → ℕ → List ℕ → ℕ → ℕ → ℕ
within_or a n m i x = cond (is_within a n i) x (byte m i)

unit_in : (a n : ℕ) (m v : List ℕ) (i : ℕ) → is_within a n i ≡ true → byte (changed (within_or a n m) v) i ≡ byte v i
unit_in a n m v i here = elim (cases_lt i (length v)) [
  | inl low ↦ get-changed (within_or a n m) v i 0 low ∙ cond-true _ _ _ here
  | inr high ↦ get_or_past (changed (within_or a n m) v) i 0 (let l = length-changed_from (within_or a n m) 0 v in omega (arith, l, high)) ∙ sym (get_or_past v i 0 high)
]

unit_out : (a n : ℕ) (m v : List ℕ) (i : ℕ) → length v ≡ length m → is_within a n i ≡ false → byte (changed (within_or a n m) v) i ≡ byte m i
unit_out a n m v i same out = elim (cases_lt i (length v)) [
  | inl low ↦ get-changed (within_or a n m) v i 0 low ∙ cond-false _ _ _ out
  | inr high ↦ get_or_past (changed (within_or a n m) v) i 0 (let l = length-changed_from (within_or a n m) 0 v in omega (arith, l, high)) ∙ sym (get_or_past m i 0 (omega (arith, same, high)))
]

pub drawn_byte : (new : Bits) (v : List ℕ) (i : ℕ) → IsBits new → Drawn new.weak new.shown v → byte v i < 256
drawn_byte new v i is d = byte_from_bits (byte v i) (λ k high.
    d.firm i k (bit_at_above (byte new.weak i) 8 k (is.weak i) high) ∙ bit_at_above (byte new.shown i) 8 k (is.shown i) high)

unit_torn : (b new : Bits) (v : List ℕ) (at size : ℕ) → TornUnit at size b new → Drawn new.weak new.shown v
    → TornErase b.shown at size (changed (within_or at size b.shown) v) × Drawn b.weak (changed (within_or at size b.shown) v) v
unit_torn b new v at size t d =
    let n = length-changed_from (within_or at size b.shown) 0 v in
    let a = t.same_length in
    let c = d.same_length in
    let same : length v ≡ length b.shown = omega (arith, a, c) in (
      record {
        same_length = omega (arith, n, a, c);
        outside = λ i out. unit_out at size b.shown v i same out;
        inside = λ i here. subst (λ x. x < 256) (sym (unit_in at size b.shown v i here)) (drawn_byte new v i t.bits d);
      },
      record {
        same_length = sym n;
        firm = λ i k z. elim (either (is_within at size i)) [
          | inl here ↦ sym (ap (λ x. bit_at x k) (unit_in at size b.shown v i here))
          | inr out ↦ (let l = t.outside i k out in d.firm i k (l.1 ∙ z) ∙ (l.0 ∙ sym (ap (λ x. bit_at x k) (unit_out at size b.shown v i same out))))
        ];
      },
    )

pub none_torn : (b new : Bits) (v : List ℕ) → new ≡ b → Drawn new.weak new.shown v → Drawn b.weak b.shown v
none_torn b new v e d = subst (λ (q : Bits). Drawn q.weak q.shown v) e d

pub torn-drawn : LossesAreTornThenDrawn
torn-drawn Idle b new v is t d = (b.shown, (refl, none_torn b new v t d))
torn-drawn (Programming at bytes) b new v is t d = (changed (mixed b.shown b.weak) v, (program_torn b new v at bytes t d, mixed_drawn b.shown b.weak v))
torn-drawn (Erasing at size) b new v is t d = (let p = unit_torn b new v at size t d in (changed (within_or at size b.shown) v, (p.0, p.1)))
torn-drawn (Setting value) b new v is t d = (b.shown, (refl, none_torn b new v t d))

pub steady-disks : LossesLeaveSteadyDisks
steady-disks op b new v is t d each =
    let p = torn-drawn op b new v is t d in
    let q = p.1 in
    let f = each p.0 q.0 in
    (p.0, (q.0, each-draw p.0 b.weak v f.firm f.journals f.slots q.1))
