-- Laws of `how_many`.
use Rattle.std.proofs.Common.{◌≡◌, ◌≢◌, ℕ, zero, suc, ◌+◌, ◌<◌, ◌≤◌, ◌⊎◌, Bool, true, false, refl, sym, ◌∙◌, arith, inl, inr, if◌then◌else◌, lit≤}
use Rattle.std.proofs.lemmas.Bool.{cases_lt, cases_eq}
use Rattle.erase_journal.specs.Places.{how_many}

pub how_many-zero : (p : ℕ → Bool) → how_many p 0 ≡ 0
unfolding how_many
how_many-zero p = refl

pub how_many-suc : (p : ℕ → Bool) (n : ℕ) → how_many p (suc n) ≡ (if p n then 1 else 0) + how_many p n
unfolding how_many
how_many-suc p n = refl

pub how_many-same : (p q : ℕ → Bool) (n : ℕ) → ((k : ℕ) → k < n → p k ≡ q k) → how_many p n ≡ how_many q n
how_many-same p q zero same = how_many-zero p ∙ sym (how_many-zero q)
how_many-same p q (suc n) same =
    let rest = how_many-same p q n (λ k h. same k (omega arith)) in
    let here = same n (omega arith) in
    rw (how_many-suc, how_many-suc, here, rest)

-- one place changes
pub how_many-change : (p q : ℕ → Bool) (n i : ℕ) → i < n → ((k : ℕ) → k < n → k ≢ i → q k ≡ p k)
    → how_many q n + (if p i then 1 else 0) ≡ how_many p n + (if q i then 1 else 0)
how_many-change p q zero i low same = absurd (omega arith)
how_many-change p q (suc n) i low same = grind (arith, how_many-suc p n, how_many-suc q n, how_many-change p q n i, how_many-same p q n, same)

pub how_many-below : (p q : ℕ → Bool) (n : ℕ) → ((k : ℕ) → k < n → q k ≡ true → p k ≡ true) → how_many q n ≤ how_many p n
how_many-below p q zero h = rw (how_many-zero, how_many-zero) (lit≤ tt)
how_many-below p q (suc n) h = grind (arith, how_many-suc p n, how_many-suc q n, how_many-below p q n, h n)

-- none passes
pub how_many-none : (p : ℕ → Bool) (n : ℕ) → how_many p n ≡ 0 → (k : ℕ) → k < n → p k ≡ false
how_many-none p zero none k low = absurd (omega arith)
how_many-none p (suc n) none k low = grind (arith, how_many-suc p n, how_many-none p n, low, none)

-- each passes
pub how_many-all : (p : ℕ → Bool) (n : ℕ) → ((k : ℕ) → k < n → p k ≡ true) → how_many p n ≡ n
how_many-all p zero h = how_many-zero p
how_many-all p (suc n) h = grind (arith, how_many-suc p n, how_many-all p n, h)

pub how_many-each_fails : (p : ℕ → Bool) (n : ℕ) → ((k : ℕ) → k < n → p k ≡ false) → how_many p n ≡ 0
how_many-each_fails p zero h = how_many-zero p
how_many-each_fails p (suc n) h = grind (arith, how_many-suc p n, how_many-each_fails p n, h)

-- one does
pub how_many-some : (p : ℕ → Bool) (n i : ℕ) → i < n → p i ≡ true → 1 ≤ how_many p n
how_many-some p n i low passes = elim (cases_lt 0 (how_many p n)) [
  | inl some ↦ omega arith
  | inr none ↦ let no = how_many-none p n (omega arith) i low in absurd (cc)
]

-- two do
pub how_many-two : (p : ℕ → Bool) (n i j : ℕ) → i < j → j < n → p i ≡ true → p j ≡ true → 2 ≤ how_many p n
how_many-two p zero i j low high passes also = absurd (omega arith)
how_many-two p (suc n) i j low high passes also = elim (cases_eq j n) [
  | inl same ↦ grind (arith, how_many-suc p n, how_many-some p n i)
  | inr other ↦ (let more = how_many-two p n i j low (omega arith) passes also in let e = how_many-suc p n in rw e (omega arith))
]

-- no other one does
pub how_many-one : (p : ℕ → Bool) (n i : ℕ) → ((k : ℕ) → k < n → k ≢ i → p k ≡ false) → how_many p n ≤ 1
how_many-one p zero i others = rw (how_many-zero) (lit≤ tt)
how_many-one p (suc n) i others = elim (cases_eq n i) [
  | inl same ↦ (let none = how_many-each_fails p n (λ k low. others k (omega arith) (λ e. omega arith)) in grind (arith, how_many-suc p n))
  | inr other ↦ (let rest = how_many-one p n i (λ k low. others k (omega arith)) in let no = others n (omega arith) other in grind (arith, how_many-suc p n))
]

true-or-false : (b : Bool) → (b ≡ true) ⊎ (b ≡ false)
true-or-false true = inl refl
true-or-false false = inr refl

-- one that passes
pub how_many-find : (p : ℕ → Bool) (n : ℕ) → 0 < how_many p n → (k : ℕ) × (k < n) × (p k ≡ true)
how_many-find p zero some = absurd (let z = how_many-zero p in omega (arith, z, some))
how_many-find p (suc n) some = elim (true-or-false (p n)) [
  | inl passes ↦ (n, omega arith, passes)
  | inr fails ↦ (let h = rw fails at (how_many-suc p n) in let f = how_many-find p n (omega (arith, h, some)) in let low = f.1 in (f.0, omega arith, f.2))
]
