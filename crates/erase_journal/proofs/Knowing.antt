-- What is known of the votes and entries, from call to call.
use Rattle.std.proofs.Common.{◌≡◌, ℕ, zero, suc, ◌+◌, ◌-◌, ◌<◌, ◌≤◌, Bool, true, false, List, refl, sym, ap, ◌∙◌, subst, arith, inl, inr}
use Rattle.std.proofs.lemmas.Bool.{cases_eq}
use Rattle.erase_journal.specs.declared.known.Known.{Known}
use Rattle.erase_journal.specs.Places.{how_many}
use Rattle.erase_journal.specs.Journals.{unused, free_entries, is_free_entry}
use Rattle.erase_journal.specs.Steps.{SameNumbers}
use Rattle.erase_journal.specs.Spending.{once_used, IsUsed, KeepsUse}
use Rattle.erase_journal.specs.Known.{IsKnown}
use Rattle.erase_journal.proofs.Lasting.{same-unused, same-on}
use Rattle.erase_journal.proofs.Counts.{how_many-zero, how_many-suc}

-- where none of the first i passes, the rest can be counted
how_many-from : (p : ℕ → Bool) (n i : ℕ) → ((k : ℕ) → k < i → p k ≡ false) → how_many p n ≤ n - i
how_many-from p zero i none = let z = how_many-zero p in omega (arith, z)
how_many-from p (suc n) i none = grind (arith, how_many-suc p n, how_many-from p n i none, none n)

count-free : (m : List ℕ) (i : ℕ) → ((k : ℕ) → k < i → is_free_entry m k ≡ false) → free_entries m ≤ 512 - i
unfolding free_entries
count-free m i none = how_many-from (is_free_entry m) 512 i none

true-or-false : (b : Bool) → (b ≡ false → ⊥) → b ≡ true
true-or-false true other = refl
true-or-false false other = absurd (other refl)

-- where the free entries are the last ones, the first of them is free
pub first-free : (known : Known) (m : List ℕ) → IsKnown known m → known.packed ≡ true → 1 ≤ known.unused.free → is_free_entry m (512 - known.unused.free) ≡ true
first-free known m h packed some =
    let n = h.numbers.free in
    let below : (k : ℕ) → k < 512 - known.unused.free → is_free_entry m k ≡ false = λ k low. h.packed packed k (omega arith) in
    true-or-false (is_free_entry m (512 - known.unused.free)) (λ gone.
    let more : (k : ℕ) → k < 512 - known.unused.free + 1 → is_free_entry m k ≡ false = λ k low. elim (cases_eq k (512 - known.unused.free)) [
      | inl e ↦ rw e gone
      | inr other ↦ below k (omega (arith, other))
    ] in
    let all = count-free m 0 (λ k low. absurd (omega arith)) in
    let c = count-free m (512 - known.unused.free + 1) more in
    omega (arith, n, c, all, some))

pub lowest-free : (known : Known) (m : List ℕ) → IsKnown known m → known.packed ≡ true → (k : ℕ) → k < 512 - known.unused.free → is_free_entry m k ≡ false
lowest-free known m h packed k low = h.packed packed k (omega arith)

-- the lowest free entry is used
pub used-known : (known known' : Known) (i : ℕ) (m m' : List ℕ) → IsKnown known m → i < 512 → ((k : ℕ) → k < i → is_free_entry m k ≡ false) → IsUsed i m m'
    → known'.unused ≡ once_used known.unused → (known'.packed ≡ true → i + known.unused.free ≡ 512) → IsKnown known' m'
used-known known known' i m m' h low lowest u is packed = record {
  numbers = let e : unused m ≡ known.unused = same-unused known.unused (unused m) h.numbers in
      subst (λ v. SameNumbers v (unused m')) (ap (λ v. once_used v) e ∙ sym is) u.numbers;
  packed = λ p k inside.
      let sum = packed p in
      let fewer : known'.unused.free ≡ known.unused.free - 1 = ap (λ v. v.free) is in
      elim (cases_eq k i) [
        | inl same ↦ rw same u.here
        | inr other ↦ (let below : k < i = omega (arith, sum, fewer, inside, other) in u.others k (omega (arith, below, low)) other ∙ lowest k below)
      ];
}

-- nothing is used
pub kept-known : (known : Known) (m m' : List ℕ) → KeepsUse m m' → IsKnown known m → IsKnown known m'
kept-known known m m' k h = record {
  numbers = same-on known.unused (unused m) (unused m') h.numbers k.numbers;
  packed = λ p j inside. k.entries j (omega arith) ∙ h.packed p j inside;
}

-- what the numbers say of a memory whose numbers they are
pub known-rest : (known : Known) (m : List ℕ) → IsKnown known m → unused m ≡ known.unused
known-rest known m h = same-unused known.unused (unused m) h.numbers
