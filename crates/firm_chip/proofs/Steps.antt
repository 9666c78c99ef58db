-- What a chip whose bits waver reads as after an operation is what the operation leaves of a draw.
use Rattle.std.proofs.Common.{◌≡◌, ℕ, ◌<◌, List, length, refl, sym, ap, ◌∙◌, arith, inl, inr}
use Rattle.std.specs.Int.{bit_at}
use Rattle.std.proofs.lemmas.List.{ext_get_or}
use Rattle.std.proofs.lemmas.Bool.{cases_lt, cases_eq}
use Rattle.std.proofs.lemmas.Nat.Bits.{bit_at-lt, same_from_bits}
use Rattle.chip_model.specs.Memory.{byte, changed, erased, fill_place, is_within, Torn, TornErase}
use Rattle.chip_model.specs.Chip.{Idle, Programming, Erasing, Setting, programmed}
use Rattle.chip_model.specs.Wavering.{Bits, Drawn, TornProgram, TornUnit, completed_bits}
use Rattle.chip_model.proofs.MemoryLaws.{length-changed_from, length-erased, length-programmed, erased-inside, erased-outside}
use Rattle.chip_model.proofs.WaveringLaws.{past_bit, data_bit, program_bit, fill_out, firm_erase, either}
use Rattle.firm_chip.specs.Losses.{LossesAreDrawnThenTorn, CompletedAreDrawnThenDone}
use Rattle.erase_journal.proofs.Drawing.{mixed, mixed_firm, mixed_weak, read_as, read_drawn}
use Rattle.firm_chip.proofs.Losses.{torn_bit, drawn_byte, none_torn}

program_read : (b new : Bits) (v : List ℕ) (at : ℕ) (bytes : List ℕ) → TornProgram b (completed_bits (Programming at bytes) b) new → Drawn new.weak new.shown v
    → Torn (read_as v b.weak b.shown) (programmed (read_as v b.weak b.shown) at bytes) v
program_read b new v at bytes t d =
    let r = read_as v b.weak b.shown in
    let n = length-changed_from (mixed v b.weak) 0 b.shown in
    let a = t.same_length in
    let c = d.same_length in
    record {
      same_length = omega (arith, n, a, c);
      each = λ i low k. elim (cases_eq (bit_at (byte b.weak i) k) 0) [
        | inl z ↦
            let same = mixed_firm v b.weak b.shown i k z in
            elim (torn_bit b new v at bytes i k t d z) [
              | inl e ↦ inl (e ∙ sym same)
              | inr e ↦ inr (
                  let p = program_bit b.shown at bytes i k in
                  let q = program_bit r at bytes i k in
                  omega (arith, e, p, q, same))
            ]
        | inr w ↦ inl (sym (mixed_weak v b.weak b.shown i k (omega (arith, low, n)) w))
      ];
    }

unit_read : (b new : Bits) (v : List ℕ) (at size : ℕ) → TornUnit at size b new → Drawn new.weak new.shown v → TornErase (read_as v b.weak b.shown) at size v
unit_read b new v at size t d =
    let n = length-changed_from (mixed v b.weak) 0 b.shown in
    let a = t.same_length in
    let c = d.same_length in
    record {
      same_length = omega (arith, n, a, c);
      outside = λ i out. same_from_bits (byte v i) (byte (read_as v b.weak b.shown) i) (λ k. elim (cases_eq (bit_at (byte b.weak i) k) 0) [
        | inl z ↦ (let l = t.outside i k out in d.firm i k (l.1 ∙ z) ∙ (l.0 ∙ sym (mixed_firm v b.weak b.shown i k z)))
        | inr w ↦ elim (cases_lt i (length b.shown)) [
          | inl low ↦ sym (mixed_weak v b.weak b.shown i k low w)
          | inr high ↦ past_bit v i k (omega (arith, a, c, high)) ∙ sym (past_bit (read_as v b.weak b.shown) i k (omega (arith, n, high)))
        ]
      ]);
      inside = λ i here. drawn_byte new v i t.bits d;
    }

pub drawn-torn : LossesAreDrawnThenTorn
drawn-torn Idle b new v is t d = (v, (none_torn b new v t d, refl))
drawn-torn (Programming at bytes) b new v is t d = (read_as v b.weak b.shown, (read_drawn v b.weak b.shown, program_read b new v at bytes t d))
drawn-torn (Erasing at size) b new v is t d = (read_as v b.weak b.shown, (read_drawn v b.weak b.shown, unit_read b new v at size t d))
drawn-torn (Setting value) b new v is t d = (v, (none_torn b new v t d, refl))

-- a program that completed: where the data have 0 the bit is firm, and elsewhere it is the draw's
done_bit : (b : Bits) (v : List ℕ) (at : ℕ) (bytes : List ℕ) (i k : ℕ) → i < length b.shown → Drawn (programmed b.weak at bytes) (programmed b.shown at bytes) v
    → bit_at (byte v i) k ≡ bit_at (byte (programmed (read_as v b.weak b.shown) at bytes) i) k
done_bit b v at bytes i k low d =
    let r = read_as v b.weak b.shown in
    let pw = program_bit b.weak at bytes i k in
    let pm = program_bit b.shown at bytes i k in
    let pr = program_bit r at bytes i k in
    let x = bit_at-lt (byte v i) k in
    let wlt = bit_at-lt (byte b.weak i) k in
    elim (cases_eq (bit_at (byte b.weak i) k) 0) [
      | inl z ↦
          let same = mixed_firm v b.weak b.shown i k z in
          let f = d.firm i k (omega (arith, pw, z)) in
          omega (arith, f, pm, pr, same)
      | inr w ↦
          let same = mixed_weak v b.weak b.shown i k low w in
          elim (cases_eq (data_bit at bytes i k) 0) [
            | inl zero_data ↦
                let f = d.firm i k (omega (arith, pw, zero_data)) in
                omega (arith, f, pm, pr, zero_data)
            | inr some ↦ omega (arith, pr, same, some, x)
          ]
    ]

program_done : (b : Bits) (v : List ℕ) (at : ℕ) (bytes : List ℕ) → Drawn (programmed b.weak at bytes) (programmed b.shown at bytes) v → v ≡ programmed (read_as v b.weak b.shown) at bytes
program_done b v at bytes d =
    let r = read_as v b.weak b.shown in
    let n = length-changed_from (mixed v b.weak) 0 b.shown in
    let l = length-programmed r at bytes in
    let m = length-programmed b.shown at bytes in
    let c = d.same_length in
    ext_get_or 0 v (programmed r at bytes) (omega (arith, n, l, m, c)) (λ i low. same_from_bits (byte v i) (byte (programmed r at bytes) i) (λ k. done_bit b v at bytes i k (omega (arith, low, m, c)) d))

erase_bit : (b : Bits) (v : List ℕ) (at size i k : ℕ) → i < length b.shown → Drawn (changed (fill_place 0 at size) b.weak) (erased b.shown at size) v
    → bit_at (byte v i) k ≡ bit_at (byte (erased (read_as v b.weak b.shown) at size) i) k
erase_bit b v at size i k low d =
    let r = read_as v b.weak b.shown in
    let n = length-changed_from (mixed v b.weak) 0 b.shown in
    let lowr : i < length r = omega (arith, n, low) in
    elim (either (is_within at size i)) [
      | inl here ↦
          d.firm i k (firm_erase b.weak at size i k here)
          ∙ ap (λ x. bit_at x k) (erased-inside b.shown at size i here low ∙ sym (erased-inside r at size i here lowr))
      | inr out ↦ elim (cases_eq (bit_at (byte b.weak i) k) 0) [
        | inl z ↦
            d.firm i k (fill_out 0 b.weak at size i k out ∙ z)
            ∙ (ap (λ x. bit_at x k) (erased-outside b.shown at size i out)
            ∙ (sym (mixed_firm v b.weak b.shown i k z) ∙ ap (λ x. bit_at x k) (sym (erased-outside r at size i out))))
        | inr w ↦ sym (mixed_weak v b.weak b.shown i k low w) ∙ ap (λ x. bit_at x k) (sym (erased-outside r at size i out))
      ]
    ]

erase_done : (b : Bits) (v : List ℕ) (at size : ℕ) → Drawn (changed (fill_place 0 at size) b.weak) (erased b.shown at size) v → v ≡ erased (read_as v b.weak b.shown) at size
erase_done b v at size d =
    let r = read_as v b.weak b.shown in
    let n = length-changed_from (mixed v b.weak) 0 b.shown in
    let l = length-erased r at size in
    let m = length-erased b.shown at size in
    let c = d.same_length in
    ext_get_or 0 v (erased r at size) (omega (arith, n, l, m, c)) (λ i low. same_from_bits (byte v i) (byte (erased r at size) i) (λ k. erase_bit b v at size i k (omega (arith, low, m, c)) d))

pub drawn-done : CompletedAreDrawnThenDone
drawn-done Idle b v is d = (v, (d, refl))
drawn-done (Programming at bytes) b v is d = (read_as v b.weak b.shown, (read_drawn v b.weak b.shown, program_done b v at bytes d))
drawn-done (Erasing at size) b v is d = (read_as v b.weak b.shown, (read_drawn v b.weak b.shown, erase_done b v at size d))
drawn-done (Setting value) b v is d = (v, (d, refl))
