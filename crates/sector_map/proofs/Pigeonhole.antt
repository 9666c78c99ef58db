-- Of more numbers than there are values two have the same one.
use Rattle.std.proofs.Common.{◌≡◌, ◌≢◌, ℕ, zero, suc, ◌<◌, ◌≤◌, ◌⊎◌, sym, ap, ◌∙◌, arith, inl, inr}
use Rattle.std.proofs.lemmas.Bool.{cases_eq}

-- two of the numbers below n have one value
pub record Twice (f : ℕ → ℕ) (n : ℕ) : Type 0 where
  pub first : ℕ
  pub second : ℕ
  pub low : first < n
  pub high : second < n
  pub apart : first ≢ second
  pub same : f first ≡ f second

sought : (f : ℕ → ℕ) (v n : ℕ) → ((c : ℕ) × ((c < n) × (f c ≡ v))) ⊎ ((c : ℕ) → c < n → f c ≢ v)
sought f v zero = inr (λ c low. absurd (omega (arith, low)))
sought f v (suc n) = elim (cases_eq (f n) v) as (λ _. ((c : ℕ) × ((c < suc n) × (f c ≡ v))) ⊎ ((c : ℕ) → c < suc n → f c ≢ v)) [
  | inl e ↦ inl (n, (omega arith, e))
  | inr other ↦ elim (sought f v n) as (λ _. ((c : ℕ) × ((c < suc n) × (f c ≡ v))) ⊎ ((c : ℕ) → c < suc n → f c ≢ v)) [
    | inl p ↦ (let low = p.1.0 in inl (p.0, (omega (arith, low), p.1.1)))
    | inr none ↦ inr (λ c low e. elim (cases_eq c n) [ inl q ↦ other (ap f (sym q) ∙ e) | inr differ ↦ none c (omega (arith, low, differ)) e ])
  ]
]

-- the value v in place of k
swapped : (x k v : ℕ) → (x ≡ k) ⊎ (x ≢ k) → ℕ
swapped x k v (inl e) = v
swapped x k v (inr other) = x

swapped-low : (x k v : ℕ) (d : (x ≡ k) ⊎ (x ≢ k)) → x < suc k → v < suc k → x ≢ v → swapped x k v d < k
unfolding swapped
swapped-low x k v (inl e) low top differ = let other : v ≢ k = λ q. differ (e ∙ sym q) in omega (arith, top, other)
swapped-low x k v (inr other) low top differ = omega (arith, low, other)

swapped-same : (x y k v : ℕ) (d : (x ≡ k) ⊎ (x ≢ k)) (h : (y ≡ k) ⊎ (y ≢ k)) → x ≢ v → y ≢ v → swapped x k v d ≡ swapped y k v h → x ≡ y
unfolding swapped
swapped-same x y k v (inl e) (inl q) nx ny same = e ∙ sym q
swapped-same x y k v (inl e) (inr q) nx ny same = absurd (ny (sym same))
swapped-same x y k v (inr e) (inl q) nx ny same = absurd (nx same)
swapped-same x y k v (inr e) (inr q) nx ny same = same

pub pigeonhole : (f : ℕ → ℕ) (k n : ℕ) → k ≤ n → ((c : ℕ) → c < suc n → f c < k) → Twice f (suc n)
pigeonhole f zero n fits low = (let h = low 0 (omega arith) in absurd (omega (arith, h)))
pigeonhole f (suc k) zero fits low = absurd (omega (arith, fits))
pigeonhole f (suc k) (suc n) fits low =
    let v = f (suc n) in
    let top : v < suc k = low (suc n) (omega arith) in
    elim (sought f v (suc n)) [
      | inl p ↦ (let below = p.1.0 in record { first = p.0; second = suc n; low = omega (arith, below); high = omega arith; apart = omega (arith, below); same = p.1.1 })
      | inr none ↦
          let t = pigeonhole (λ c. swapped (f c) k v (cases_eq (f c) k)) k n (omega (arith, fits)) (λ c below. swapped-low (f c) k v (cases_eq (f c) k) (low c (omega (arith, below))) top (none c below)) in
          let a = t.low in
          let b = t.high in
          record {
            first = t.first;
            second = t.second;
            low = omega (arith, a);
            high = omega (arith, b);
            apart = t.apart;
            same = swapped-same (f t.first) (f t.second) k v (cases_eq (f t.first) k) (cases_eq (f t.second) k) (none t.first a) (none t.second b) t.same;
          }
    ]
