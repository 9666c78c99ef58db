-- Bytes are programmed as they read: whole or torn, nothing changes.
use Rattle.std.proofs.Common.{◌≡◌, ℕ, ◌+◌, ◌-◌, ◌<◌, ◌≤◌, List, length, refl, ap, ◌∙◌, subst, arith, inl, inr}
use Rattle.std.specs.Prelude.{slice_range, bit_and, Result, Ok, Err, OnOk}
use Rattle.std.specs.Result.{IsErrOf}
use Rattle.std.specs.Int.Bits.{and_self}
use Rattle.std.proofs.lemmas.Bool.{cases_lt}
use Rattle.std.proofs.lemmas.Grind.{same_number_lists}
use Rattle.chip_model.specs.Memory.{byte, and_at, IsMixed, TornAnd}
use Rattle.chip_model.proofs.MemoryLaws.{length-placed, placed-inside, not-within-below, not-within-above}
use Rattle.chip_model.proofs.BitLaws.{mixed_same}
use Rattle.nor_driver.specs.State.{Leaves, as_before, torn_in_it, changed_whole}
use Rattle.nor_driver.specs.declared.error.NorError.{NorError}
use Rattle.nor_driver.specs.declared.error.NorError.TheVariants as errors
use Rattle.erase_journal.proofs.Data.{slice-byte}
use Rattle.erase_journal.proofs.Effects.{and-outside}

-- where the byte that is programmed is the one that is there
pub and-here : (m bytes : List ℕ) (a q : ℕ) → q < length bytes → a + q < length m → byte bytes q ≡ byte m (a + q) → byte (and_at m a bytes) (a + q) ≡ byte m (a + q)
and-here m bytes a q inside low e = placed-inside bit_and m a bytes q inside low ∙ (ap (λ x. bit_and (byte m (a + q)) x) e ∙ and_self (byte m (a + q)))

pub leaves-here : (m bytes : List ℕ) (a q : ℕ) (new : List ℕ) → q < length bytes → a + q < length m → byte bytes q ≡ byte m (a + q)
    → Leaves m (TornAnd m a bytes) (and_at m a bytes) new → byte new (a + q) ≡ byte m (a + q)
leaves-here m bytes a q new inside low e (as_before same) = ap (λ x. byte x (a + q)) same
leaves-here m bytes a q new inside low e (torn_in_it t) =
    mixed_same (byte m (a + q)) (byte new (a + q)) (subst (λ x. IsMixed (byte m (a + q)) x (byte new (a + q))) (and-here m bytes a q inside low e) (t.each (a + q) low))
leaves-here m bytes a q new inside low e (changed_whole whole) = ap (λ x. byte x (a + q)) whole ∙ and-here m bytes a q inside low e

pub and-same : (m bytes : List ℕ) (a : ℕ) → a + length bytes ≤ length m → bytes ≡ slice_range m a (a + length bytes) → and_at m a bytes ≡ m
and-same m bytes a fits e = same_number_lists (and_at m a bytes) m (length-placed bit_and m a bytes) (λ k low. elim (cases_lt k a) [
  | inl below ↦ and-outside m a bytes k (not-within-below a (length bytes) k below)
  | inr from ↦ elim (cases_lt k (a + length bytes)) [
    | inl inside ↦
        let is : a + (k - a) ≡ k = omega arith in
        let read : byte bytes (k - a) ≡ byte m (a + (k - a)) = ap (λ x. byte x (k - a)) e ∙ slice-byte m a (length bytes) (k - a) (omega arith) in
        rw is at (and-here m bytes a (k - a) (omega arith) (omega arith) read)
    | inr past ↦ and-outside m a bytes k (not-within-above a (length bytes) k past)
  ]
])

torn-same : (m bytes : List ℕ) (a : ℕ) (torn : List ℕ) → and_at m a bytes ≡ m → TornAnd m a bytes torn → torn ≡ m
torn-same m bytes a torn same t = same_number_lists torn m t.same_length (λ k low.
    mixed_same (byte m k) (byte torn k) (subst (λ x. IsMixed (byte m k) (byte x k) (byte torn k)) same (t.each k (let e = t.same_length in omega arith))))

leaves-same : (m bytes : List ℕ) (a : ℕ) (new : List ℕ) → and_at m a bytes ≡ m → Leaves m (TornAnd m a bytes) (and_at m a bytes) new → new ≡ m
leaves-same m bytes a new same (as_before e) = e
leaves-same m bytes a new same (torn_in_it t) = torn-same m bytes a new same t
leaves-same m bytes a new same (changed_whole e) = e ∙ same

-- whatever the program answered
pub again-same : (m bytes : List ℕ) (a : ℕ) (new : List ℕ) (r : Result (Unit {0}) NorError) → and_at m a bytes ≡ m → OnOk r (new ≡ and_at m a bytes)
    → (IsErrOf r errors.Cut → Leaves m (TornAnd m a bytes) (and_at m a bytes) new) → (IsErrOf r errors.Slow → new ≡ m) → new ≡ m
again-same m bytes a new (Ok x) same ok cut slow = ok ∙ same
again-same m bytes a new (Err errors.Cut) same ok cut slow = leaves-same m bytes a new same (cut refl)
again-same m bytes a new (Err errors.Slow) same ok cut slow = slow refl
