-- Which bits operations that completed leave weak, and how they read.
use Rattle.std.proofs.Common.{◌≡◌, ℕ, ◌+◌, ◌/◌, ◌%◌, false, List, refl, sym, subst, ◌∙◌, arith, inl, inr}
use Rattle.std.specs.Int.{bit_at}
use Rattle.std.proofs.lemmas.Bool.{cases_lt, true≢false}
use Rattle.std.proofs.lemmas.Nat.Bits.{bit_at-lt}
use Rattle.chip_model.specs.Memory.{byte, cleared, is_within}
use Rattle.chip_model.specs.Chip.{Operation, Idle, Programming, Erasing, Setting}
use Rattle.chip_model.specs.Cut.{TornMemory, weakened}
use Rattle.chip_model.specs.Wavering.{Bits, completed_bits}
use Rattle.chip_model.proofs.MemoryLaws.{within, not-within-below, not-within-above}
use Rattle.chip_model.proofs.WaveringLaws.{data_two, program_bit, erase_out, fill_out, firm_erase, either}
use Rattle.nor_driver.specs.State.{IsFirmer, IsOfUnit, Interrupted}

-- none, and one after another
pub firmer-none : (a : Bits) → IsFirmer a a
firmer-none a = record { weak = λ i k weak. weak; reads = λ i k x weak e. e; zeros = λ i k j l weak here zero. zero }

pub firmer-on : (a b c : Bits) → IsFirmer a b → IsFirmer b c → IsFirmer a c
firmer-on a b c p q = record {
  weak = λ i k weak. p.weak i k (q.weak i k weak);
  reads = λ i k x weak e. q.reads i k x weak (p.reads i k x (q.weak i k weak) e);
  zeros = λ i k j l weak here zero. q.zeros i k j l weak here (p.zeros i k j l (q.weak i k weak) here zero);
}

-- a program
program-firmer : (b : Bits) (at : ℕ) (bytes : List ℕ) → IsFirmer b (completed_bits (Programming at bytes) b)
program-firmer b at bytes = record {
  weak = λ i k weak.
      let w = program_bit b.weak at bytes i k in
      let d = data_two at bytes i k in
      let x = bit_at-lt (byte b.weak i) k in
      omega (arith, w, d, x, weak);
  reads = λ i k x weak e.
      let w = program_bit b.weak at bytes i k in
      let v = program_bit b.shown at bytes i k in
      let d = data_two at bytes i k in
      let y = bit_at-lt (byte b.shown i) k in
      omega (arith, w, v, d, y, weak, e);
  zeros = λ i k j l weak here zero. (let e = program_bit b.shown at bytes j l in omega (arith, e, zero));
}

-- an erase: two places in one unit of 4 KiB lie in it, or neither does
side-small : (at i j : ℕ) → at % 4096 ≡ 0 → j / 4096 ≡ i / 4096 → is_within at 4096 i ≡ false → is_within at 4096 j ≡ false
side-small at i j aligned here out = elim (cases_lt j at) [
  | inl low ↦ not-within-below at 4096 j low
  | inr high ↦ elim (cases_lt j (at + 4096)) [
    | inl inside ↦ absurd (true≢false (sym (within at 4096 i (omega (arith, aligned, here, high)) (omega (arith, aligned, here, inside))) ∙ out))
    | inr past ↦ not-within-above at 4096 j past
  ]
]

side-large : (at i j : ℕ) → at % 65536 ≡ 0 → j / 4096 ≡ i / 4096 → is_within at 65536 i ≡ false → is_within at 65536 j ≡ false
side-large at i j aligned here out = elim (cases_lt j at) [
  | inl low ↦ not-within-below at 65536 j low
  | inr high ↦ elim (cases_lt j (at + 65536)) [
    | inl inside ↦ absurd (true≢false (sym (within at 65536 i (omega (arith, aligned, here, high)) (omega (arith, aligned, here, inside))) ∙ out))
    | inr past ↦ not-within-above at 65536 j past
  ]
]

same-side : (at size i j : ℕ) → IsOfUnit (Erasing at size) → j / 4096 ≡ i / 4096 → is_within at size i ≡ false → is_within at size j ≡ false
same-side at size i j unit here out = elim unit.0 [
  | inl small ↦
      let aligned = subst (λ n. at % n ≡ 0) small unit.1 in
      subst (λ n. is_within at n j ≡ false) (sym small) (side-small at i j aligned here (subst (λ n. is_within at n i ≡ false) small out))
  | inr large ↦
      let aligned = subst (λ n. at % n ≡ 0) large unit.1 in
      subst (λ n. is_within at n j ≡ false) (sym large) (side-large at i j aligned here (subst (λ n. is_within at n i ≡ false) large out))
]

not-erased : (w : List ℕ) (at size i k : ℕ) → bit_at (byte (cleared w at size) i) k ≡ 1 → is_within at size i ≡ false
not-erased w at size i k weak = elim (either (is_within at size i)) [
  | inl here ↦ (let z = firm_erase w at size i k here in absurd (omega (arith, z, weak)))
  | inr out ↦ out
]

erase-firmer : (b : Bits) (at size : ℕ) → IsOfUnit (Erasing at size) → IsFirmer b (completed_bits (Erasing at size) b)
erase-firmer b at size unit = record {
  weak = λ i k weak. sym (fill_out 0 b.weak at size i k (not-erased b.weak at size i k weak)) ∙ weak;
  reads = λ i k x weak e. erase_out b.shown at size i k (not-erased b.weak at size i k weak) ∙ e;
  zeros = λ i k j l weak here zero. erase_out b.shown at size j l (same-side at size i j unit here (not-erased b.weak at size i k weak)) ∙ zero;
}

pub firmer-done : (o : Operation) (b : Bits) → IsOfUnit o → IsFirmer b (completed_bits o b)
firmer-done Idle b unit = firmer-none b
firmer-done (Programming at bytes) b unit = program-firmer b at bytes
firmer-done (Erasing at size) b unit = erase-firmer b at size unit
firmer-done (Setting value) b unit = firmer-none b

-- operations that completed, and then one that was interrupted, or none
pub interrupted-after : (a b c : Bits) → IsFirmer a b → Interrupted b c → Interrupted a c
interrupted-after a b c p q = record { before = q.before; firmer = firmer-on a b q.before p q.firmer; operation = q.operation; unit = q.unit; shown = q.shown; weak = q.weak }

pub interrupted-none : (a b : Bits) → IsFirmer a b → Interrupted a b
interrupted-none a b p = record { before = b; firmer = p; operation = Idle; unit = tt; shown = refl; weak = refl }

pub interrupted-in : (o : Operation) (a b : Bits) → IsOfUnit o → TornMemory o a.shown b.shown → b.weak ≡ weakened o a.shown a.weak → Interrupted a b
interrupted-in o a b unit shown weak = record { before = a; firmer = firmer-none a; operation = o; unit = unit; shown = shown; weak = weak }
