-- Counting the slots that pass a test.
use Rattle.std.proofs.Common.{◌≡◌, ℕ, zero, suc, ◌+◌, ◌*◌, ◌<◌, ◌≤◌, ◌⊎◌, Bool, true, false, refl, sym, ap, ◌∙◌, arith, inl, inr, if◌then◌else◌}
use Rattle.std.proofs.lemmas.Bool.{cases_eq}
use Rattle.erase_journal.specs.Places.{how_many}
use Rattle.sector_slots.proofs.CopyLaws.{how_many-zero, how_many-suc, how_many-same, how_many-none, how_many-each_fails}
use Rattle.sector_slots.specs.Slots.{Slot, Free, Live, NoGeneration, Dead, Outside}
use Rattle.sector_stock.specs.Index.{is_free_slot, is_dead, tally}

pub either : (b : Bool) → (b ≡ true) ⊎ (b ≡ false)
either true = inl refl
either false = inr refl

how_many-yes : (p : ℕ → Bool) (n : ℕ) → p n ≡ true → how_many p (suc n) ≡ 1 + how_many p n
how_many-yes p n e = rw (how_many-suc, e) refl

how_many-no : (p : ℕ → Bool) (n : ℕ) → p n ≡ false → how_many p (suc n) ≡ how_many p n
how_many-no p n e = rw (how_many-suc, e) (omega arith)

pub how_many-most : (p : ℕ → Bool) (n : ℕ) → how_many p n ≤ n
how_many-most p zero = let z = how_many-zero p in omega (arith, z)
how_many-most p (suc n) = let rest = how_many-most p n in elim (either (p n)) as (λ _. how_many p (suc n) ≤ suc n) [
  | inl e ↦ let h = how_many-yes p n e in omega (arith, h, rest)
  | inr e ↦ let h = how_many-no p n e in omega (arith, h, rest)
]

pub how_many-some : (p : ℕ → Bool) (n : ℕ) → 0 < how_many p n → (k : ℕ) × ((k < n) × (p k ≡ true))
how_many-some p zero h = let z = how_many-zero p in absurd (omega (arith, h, z))
how_many-some p (suc n) h = elim (either (p n)) [
  | inl e ↦ (n, (omega arith, e))
  | inr e ↦
      let same = how_many-no p n e in
      let rest = how_many-some p n (omega (arith, h, same)) in
      let low = rest.1.0 in
      (rest.0, (omega (arith, low), rest.1.1))
]

pub how_many-all : (p : ℕ → Bool) (n : ℕ) → ((k : ℕ) → k < n → p k ≡ true) → how_many p n ≡ n
how_many-all p zero h = how_many-zero p
how_many-all p (suc n) h =
    let one = how_many-yes p n (h n (omega arith)) in
    let rest = how_many-all p n (λ k low. h k (omega (arith, low))) in
    omega (arith, one, rest)

pub how_many-full : (p : ℕ → Bool) (n : ℕ) → how_many p n ≡ n → (k : ℕ) → k < n → p k ≡ true
how_many-full p zero full k low = absurd (omega (arith, low))
how_many-full p (suc n) full k low = elim (either (p n)) as (λ _. p k ≡ true) [
  | inr e ↦ let same = how_many-no p n e in let most = how_many-most p n in absurd (omega (arith, full, same, most))
  | inl e ↦
      let one = how_many-yes p n e in
      elim (cases_eq k n) as (λ _. p k ≡ true) [
        | inl q ↦ ap p q ∙ e
        | inr ne ↦ how_many-full p n (omega (arith, full, one)) k (omega (arith, low, ne))
      ]
]

-- each place passes the third test as often as the first two
pub how_many-sum : (p q r : ℕ → Bool) (n : ℕ) → ((k : ℕ) → k < n → (if r k then 1 else 0) ≡ (if p k then 1 else 0) + (if q k then 1 else 0)) → how_many r n ≡ how_many p n + how_many q n
how_many-sum p q r zero h = let a = how_many-zero p in let b = how_many-zero q in let c = how_many-zero r in omega (arith, a, b, c)
how_many-sum p q r (suc n) h =
    let a = how_many-suc p n in
    let b = how_many-suc q n in
    let c = how_many-suc r n in
    let here = h n (omega arith) in
    let rest = how_many-sum p q r n (λ k low. h k (omega (arith, low))) in
    omega (arith, a, b, c, here, rest)

-- fewer pass, where one that passed doesn't and none comes
how_many-fewer : (p q : ℕ → Bool) (n : ℕ) → ((k : ℕ) → k < n → q k ≡ true → p k ≡ true) → how_many q n ≤ how_many p n
how_many-fewer p q zero h = let a = how_many-zero p in let b = how_many-zero q in omega (arith, a, b)
how_many-fewer p q (suc n) h =
    let rest = how_many-fewer p q n (λ k low. h k (omega (arith, low))) in
    elim (either (q n)) as (λ _. how_many q (suc n) ≤ how_many p (suc n)) [
      | inl e ↦ let a = how_many-yes q n e in let b = how_many-yes p n (h n (omega arith) e) in omega (arith, a, b, rest)
      | inr e ↦
          let a = how_many-no q n e in
          elim (either (p n)) as (λ _. how_many q (suc n) ≤ how_many p (suc n)) [
            | inl f ↦ let b = how_many-yes p n f in omega (arith, a, b, rest)
            | inr f ↦ let b = how_many-no p n f in omega (arith, a, b, rest)
          ]
    ]

pub how_many-less : (p q : ℕ → Bool) (n i : ℕ) → ((k : ℕ) → k < n → q k ≡ true → p k ≡ true) → i < n → p i ≡ true → q i ≡ false → how_many q n < how_many p n
how_many-less p q zero i h low was gone = absurd (omega (arith, low))
how_many-less p q (suc n) i h low was gone = elim (cases_eq i n) as (λ _. how_many q (suc n) < how_many p (suc n)) [
  | inl e ↦
      let a = how_many-no q n (ap q (sym e) ∙ gone) in
      let b = how_many-yes p n (ap p (sym e) ∙ was) in
      let rest = how_many-fewer p q n (λ k small. h k (omega (arith, small))) in
      omega (arith, a, b, rest)
  | inr ne ↦
      let rest = how_many-less p q n i (λ k small. h k (omega (arith, small))) (omega (arith, low, ne)) was gone in
      elim (either (q n)) as (λ _. how_many q (suc n) < how_many p (suc n)) [
        | inl e ↦ let a = how_many-yes q n e in let b = how_many-yes p n (h n (omega arith) e) in omega (arith, a, b, rest)
        | inr e ↦
            let a = how_many-no q n e in
            elim (either (p n)) as (λ _. how_many q (suc n) < how_many p (suc n)) [
              | inl f ↦ let b = how_many-yes p n f in omega (arith, a, b, rest)
              | inr f ↦ let b = how_many-no p n f in omega (arith, a, b, rest)
            ]
      ]
]

-- the tests
pub free-is : (x : Slot) → is_free_slot x ≡ true → x ≡ Free
free-is Free e = refl
free-is (Live tag y) e = absurd (grind (arith, e))
free-is NoGeneration e = absurd (grind (arith, e))
free-is Dead e = absurd (grind (arith, e))
free-is Outside e = absurd (grind (arith, e))

pub dead-is : (x : Slot) → is_dead x ≡ true → x ≡ Dead
dead-is Free e = absurd (grind (arith, e))
dead-is (Live tag y) e = absurd (grind (arith, e))
dead-is NoGeneration e = absurd (grind (arith, e))
dead-is Dead e = refl
dead-is Outside e = absurd (grind (arith, e))

pub not-both : (b : Bool) → b ≡ true → b ≡ false → ⊥
not-both b p q = let e : true ≡ false = sym p ∙ q in absurd (grind (arith, e))

-- the tally of a block
pub tally-some : (test : Slot → Bool) (f : ℕ → Slot) (c : ℕ) → 0 < tally test f c → (i : ℕ) × ((i < 7) × (test (f (7 * c + i)) ≡ true))
unfolding tally
tally-some test f c h = how_many-some (λ i. test (f (7 * c + i))) 7 h

pub tally-none : (test : Slot → Bool) (f : ℕ → Slot) (c i : ℕ) → tally test f c ≡ 0 → i < 7 → test (f (7 * c + i)) ≡ false
unfolding tally
tally-none test f c i h low = how_many-none (λ k. test (f (7 * c + k))) 7 h i low

pub tally-fails : (test : Slot → Bool) (f : ℕ → Slot) (c : ℕ) → ((i : ℕ) → i < 7 → test (f (7 * c + i)) ≡ false) → tally test f c ≡ 0
unfolding tally
tally-fails test f c h = how_many-each_fails (λ i. test (f (7 * c + i))) 7 h

pub tally-all : (test : Slot → Bool) (f : ℕ → Slot) (c : ℕ) → ((i : ℕ) → i < 7 → test (f (7 * c + i)) ≡ true) → tally test f c ≡ 7
unfolding tally
tally-all test f c h = how_many-all (λ i. test (f (7 * c + i))) 7 h

pub tally-full : (test : Slot → Bool) (f : ℕ → Slot) (c i : ℕ) → tally test f c ≡ 7 → i < 7 → test (f (7 * c + i)) ≡ true
unfolding tally
tally-full test f c i h low = how_many-full (λ k. test (f (7 * c + k))) 7 h i low

pub tally-most : (test : Slot → Bool) (f : ℕ → Slot) (c : ℕ) → tally test f c ≤ 7
unfolding tally
tally-most test f c = how_many-most (λ i. test (f (7 * c + i))) 7

pub tally-same : (test : Slot → Bool) (f f' : ℕ → Slot) (c : ℕ) → ((i : ℕ) → i < 7 → f' (7 * c + i) ≡ f (7 * c + i)) → tally test f' c ≡ tally test f c
unfolding tally
tally-same test f f' c h = how_many-same (λ i. test (f' (7 * c + i))) (λ i. test (f (7 * c + i))) 7 (λ i low. ap test (h i low))

-- a slot is free, or dead, or neither
both-tests : (x : Slot) → (if is_free_slot x then 1 else 0) + (if is_dead x then 1 else 0) ≤ 1
both-tests Free = omega arith
both-tests (Live tag y) = omega arith
both-tests NoGeneration = omega arith
both-tests Dead = omega arith
both-tests Outside = omega arith

pub how_many-both : (p q : ℕ → Bool) (n : ℕ) → ((k : ℕ) → (if p k then 1 else 0) + (if q k then 1 else 0) ≤ 1) → how_many p n + how_many q n ≤ n
how_many-both p q zero h = let a = how_many-zero p in let b = how_many-zero q in omega (arith, a, b)
how_many-both p q (suc n) h =
    let a = how_many-suc p n in
    let b = how_many-suc q n in
    let here = h n in
    let rest = how_many-both p q n h in
    omega (arith, a, b, here, rest)

pub tally-both : (f : ℕ → Slot) (c : ℕ) → tally is_free_slot f c + tally is_dead f c ≤ 7
unfolding tally
tally-both f c = how_many-both (λ i. is_free_slot (f (7 * c + i))) (λ i. is_dead (f (7 * c + i))) 7 (λ k. both-tests (f (7 * c + k)))
