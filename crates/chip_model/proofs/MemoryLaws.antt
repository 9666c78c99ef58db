-- What follows from the definitions of Memory and Chip.
use Rattle.std.proofs.Common.{◌≡◌, ℕ, zero, suc, ◌+◌, ◌-◌, ◌*◌, ◌/◌, ◌%◌, ◌<◌, ◌≤◌, ◌⊎◌, true, false, cond, ◌&&◌, List, [], ◌∷◌, ◌++◌, length, get_or, refl, sym, ap, ◌∙◌, subst, arith, inl, inr, leb}
use Rattle.std.specs.Prelude.{bit_and, set, take}
use Rattle.std.proofs.lemmas.List.{get_or_past, ext_get_or, length-set, get_or-set_other, get_or-take, length-take-le, length-append}
use Rattle.std.proofs.Math.ListN.{get_or-append}
use Rattle.std.proofs.Math.Seq.{get_or-append_right}
use Rattle.std.proofs.lemmas.Grind.{get_or-set_at}
use Rattle.std.proofs.lemmas.Bool.{and_parts, ltb-true, cases_lt, cases_eq, cond-true, cond-false, and_from, and_left, and_right, eq-eqb, ne_eqb, lt-ltb, le-ltb, le-leb, lt-leb}
use Rattle.chip_model.specs.Memory.{byte, changed, changed_from, is_within, place_of, placed, and_at, fill_place, erased, TornErase}
use Rattle.chip_model.specs.Chip.{page_place, programmed, offset_in_page}

pub length-changed_from : (f : ℕ → ℕ → ℕ) (i : ℕ) (m : List ℕ) → length (changed_from f i m) ≡ length m
length-changed_from f i [] = refl
length-changed_from f i (x ∷ xs) = ap suc (length-changed_from f (i + 1) xs)

pub get-changed_from : (f : ℕ → ℕ → ℕ) (k : ℕ) (m : List ℕ) (i d : ℕ) → i < length m → get_or (changed_from f k m) i d ≡ f (k + i) (get_or m i d)
get-changed_from f k [] i d h = absurd (omega arith)
get-changed_from f k (x ∷ xs) zero d h = let e : k ≡ k + 0 = omega arith in ap (λ j. f j x) e
get-changed_from f k (x ∷ xs) (suc i) d h =
    let e : (k + 1) + i ≡ k + suc i = omega arith in
    get-changed_from f (k + 1) xs i d (omega arith) ∙ ap (λ j. f j (get_or xs i d)) e

pub get-changed : (f : ℕ → ℕ → ℕ) (m : List ℕ) (i d : ℕ) → i < length m → get_or (changed f m) i d ≡ f i (get_or m i d)
get-changed f m i d h = let e : 0 + i ≡ i = omega arith in get-changed_from f 0 m i d h ∙ ap (λ j. f j (get_or m i d)) e

-- two changes that agree at each place make the same list
pub changed_from_same : (f g : ℕ → ℕ → ℕ) → ((i x : ℕ) → f i x ≡ g i x) → (k : ℕ) (m : List ℕ) → changed_from f k m ≡ changed_from g k m
changed_from_same f g h k [] = refl
changed_from_same f g h k (x ∷ xs) = ap (λ y. y ∷ changed_from f (k + 1) xs) (h k x) ∙ ap (λ ys. g k x ∷ ys) (changed_from_same f g h (k + 1) xs)

pub length-placed : (op : ℕ → ℕ → ℕ) (m : List ℕ) (a : ℕ) (x : List ℕ) → length (placed op m a x) ≡ length m
unfolding placed
length-placed op m a x = length-changed_from (place_of op a x) 0 m

pub get-placed : (op : ℕ → ℕ → ℕ) (m : List ℕ) (a : ℕ) (x : List ℕ) (i d : ℕ) → i < length m → get_or (placed op m a x) i d ≡ place_of op a x i (get_or m i d)
unfolding placed
get-placed op m a x i d h = get-changed (place_of op a x) m i d h

pub within : (a n i : ℕ) → a ≤ i → i < a + n → is_within a n i ≡ true
within a n i low high = and_from _ _ (le-leb _ _ low) (lt-ltb _ _ high)

pub not-within-below : (a n i : ℕ) → i < a → is_within a n i ≡ false
not-within-below a n i low = and_left _ _ (lt-leb _ _ low)

pub not-within-above : (a n i : ℕ) → a + n ≤ i → is_within a n i ≡ false
not-within-above a n i high = and_right _ _ (le-ltb _ _ high)

-- a place of the range, and the others
pub place-in : (op : ℕ → ℕ → ℕ) (a : ℕ) (x : List ℕ) (i y : ℕ) → a ≤ i → i < a + length x → place_of op a x i y ≡ op y (get_or x (i - a) 0)
place-in op a x i y low high = cond-true _ _ _ (within a (length x) i low high)

pub place-below : (op : ℕ → ℕ → ℕ) (a : ℕ) (x : List ℕ) (i y : ℕ) → i < a → place_of op a x i y ≡ y
place-below op a x i y low = cond-false _ _ _ (not-within-below a (length x) i low)

pub place-above : (op : ℕ → ℕ → ℕ) (a : ℕ) (x : List ℕ) (i y : ℕ) → a + length x ≤ i → place_of op a x i y ≡ y
place-above op a x i y high = cond-false _ _ _ (not-within-above a (length x) i high)

pub place-out : (op : ℕ → ℕ → ℕ) (a : ℕ) (x : List ℕ) (i y : ℕ) → (i < a) ⊎ (a + length x ≤ i) → place_of op a x i y ≡ y
place-out op a x i y out = elim out [ inl low ↦ place-below op a x i y low | inr high ↦ place-above op a x i y high ]

-- at each place, one write after another that ends where it begins is the write of both
place-append : (op : ℕ → ℕ → ℕ) (a : ℕ) (x y : List ℕ) (i v : ℕ) → place_of op (a + length x) y i (place_of op a x i v) ≡ place_of op a (x ++ y) i v
place-append op a x y i v =
    let n : length (x ++ y) ≡ length x + length y = length-append x y in
    elim (cases_lt i a) [
      | inl low ↦
          let low' : i < a + length x = omega arith in
          place-below op (a + length x) y i _ low' ∙ (place-below op a x i v low ∙ sym (place-below op a (x ++ y) i v low))
      | inr from ↦ elim (cases_lt i (a + length x)) [
        | inl inner ↦
            let q : i < a + length (x ++ y) = omega (arith, n) in
            let k : i - a < length x = omega arith in
            place-below op (a + length x) y i _ inner ∙ (place-in op a x i v from inner
            ∙ (ap (λ b. op v b) (sym (get_or-append x y 0 (i - a) k)) ∙ sym (place-in op a (x ++ y) i v from q)))
        | inr past ↦ elim (cases_lt i (a + length x + length y)) [
          | inl inner ↦
              let q : i < a + length (x ++ y) = omega (arith, n) in
              let k : length x ≤ i - a = omega arith in
              let e : i - a - length x ≡ i - (a + length x) = omega arith in
              place-in op (a + length x) y i _ past inner
              ∙ (ap (λ u. op u (get_or y (i - (a + length x)) 0)) (place-above op a x i v past)
              ∙ (ap (λ j. op v (get_or y j 0)) (sym e)
              ∙ (ap (λ b. op v b) (sym (get_or-append_right x y (i - a) 0 k)) ∙ sym (place-in op a (x ++ y) i v from q))))
          | inr above ↦
              let q : a + length (x ++ y) ≤ i = omega (arith, n) in
              place-above op (a + length x) y i _ above ∙ (place-above op a x i v past ∙ sym (place-above op a (x ++ y) i v q))
        ]
      ]
    ]

-- one write after another
pub placed-append : (op : ℕ → ℕ → ℕ) (m : List ℕ) (a : ℕ) (x y : List ℕ) → placed op (placed op m a x) (a + length x) y ≡ placed op m a (x ++ y)
placed-append op m a x y =
    let l1 = length-placed op m a x in
    let l2 = length-placed op (placed op m a x) (a + length x) y in
    ext_get_or 0 _ _ (l2 ∙ (l1 ∙ sym (length-placed op m a (x ++ y)))) (λ i h.
    let low : i < length m = omega (arith, l1, l2) in
    let low1 : i < length (placed op m a x) = omega (arith, l1) in
    get-placed op (placed op m a x) (a + length x) y i 0 low1
    ∙ (ap (λ v. place_of op (a + length x) y i v) (get-placed op m a x i 0 low)
    ∙ (place-append op a x y i (get_or m i 0) ∙ sym (get-placed op m a (x ++ y) i 0 low))))

-- a place that a write leaves
pub placed-outside : (op : ℕ → ℕ → ℕ) (m : List ℕ) (a : ℕ) (x : List ℕ) (i : ℕ) → (i < a) ⊎ (a + length x ≤ i) → byte (placed op m a x) i ≡ byte m i
placed-outside op m a x i out = elim (cases_lt i (length m)) [
  | inl low ↦ get-placed op m a x i 0 low ∙ place-out op a x i _ out
  | inr high ↦
      let l = length-placed op m a x in
      let high' : length (placed op m a x) ≤ i = omega (arith, l) in
      get_or_past _ i 0 high' ∙ sym (get_or_past m i 0 high)
]

pub placed-inside : (op : ℕ → ℕ → ℕ) (m : List ℕ) (a : ℕ) (x : List ℕ) (i : ℕ) → i < length x → a + i < length m → byte (placed op m a x) (a + i) ≡ op (byte m (a + i)) (byte x i)
placed-inside op m a x i h low =
    let from : a ≤ a + i = omega arith in
    let to : a + i < a + length x = omega arith in
    let e : a + i - a ≡ i = omega arith in
    get-placed op m a x (a + i) 0 low ∙ (place-in op a x (a + i) _ from to ∙ ap (λ j. op (byte m (a + i)) (get_or x j 0)) e)

pub placed-nothing : (op : ℕ → ℕ → ℕ) (m : List ℕ) (a : ℕ) → placed op m a [] ≡ m
placed-nothing op m a = ext_get_or 0 _ m (length-placed op m a []) (λ i h. placed-outside op m a [] i (elim (cases_lt i a) as (λ _. (i < a) ⊎ (a + 0 ≤ i)) [ inl low ↦ inl low | inr high ↦ inr (omega arith) ]))

pub length-erased : (m : List ℕ) (a size : ℕ) → length (erased m a size) ≡ length m
unfolding erased
length-erased m a size = length-changed_from (fill_place 255 a size) 0 m

pub get-erased : (m : List ℕ) (a size i d : ℕ) → i < length m → get_or (erased m a size) i d ≡ fill_place 255 a size i (get_or m i d)
unfolding erased
get-erased m a size i d h = get-changed (fill_place 255 a size) m i d h

-- the places that an erase leaves, and those that it erases
pub erased-outside : (m : List ℕ) (a size i : ℕ) → is_within a size i ≡ false → byte (erased m a size) i ≡ byte m i
erased-outside m a size i out = elim (cases_lt i (length m)) [
  | inl low ↦ get-erased m a size i 0 low ∙ cond-false _ _ _ out
  | inr high ↦
      let l = length-erased m a size in
      let high' : length (erased m a size) ≤ i = omega (arith, l) in
      get_or_past _ i 0 high' ∙ sym (get_or_past m i 0 high)
]

pub erased-inside : (m : List ℕ) (a size i : ℕ) → is_within a size i ≡ true → i < length m → byte (erased m a size) i ≡ 255
erased-inside m a size i «in» low = get-erased m a size i 0 low ∙ cond-true _ _ _ «in»

inside : (at n i : ℕ) → at % 256 + n ≤ 256 → at ≤ i → i < at + n → (i / 256 ≡ at / 256) × (offset_in_page at i ≡ i - at)
inside at n i h low high = (omega arith, omega arith)

outside : (at n i : ℕ) → at % 256 + n ≤ 256 → (i < at) ⊎ (at + n ≤ i) → i / 256 ≡ at / 256 → n ≤ offset_in_page at i
outside at n i h out page = elim out [ inl low ↦ omega arith | inr high ↦ omega arith ]

-- data that stays in one page falls where the memory's AND puts it
pub place_in_page : (at : ℕ) (bytes : List ℕ) → at % 256 + length bytes ≤ 256 → (i x : ℕ) → page_place bit_and at bytes i x ≡ place_of bit_and at bytes i x
place_in_page at bytes h i x =
    let out : (i < at) ⊎ (at + length bytes ≤ i) → is_within at (length bytes) i ≡ false → page_place bit_and at bytes i x ≡ place_of bit_and at bytes i x =
    λ o w. elim (cases_eq (i / 256) (at / 256)) [
      | inl page ↦ cond-false _ _ _ (and_right _ _ (le-ltb _ _ (outside at (length bytes) i h o page))) ∙ sym (cond-false _ _ _ w)
      | inr other ↦ cond-false _ _ _ (and_left _ _ (ne_eqb _ _ other)) ∙ sym (cond-false _ _ _ w)
    ] in
    elim (cases_lt i at) [
      | inl low ↦ out (inl low) (and_left _ _ (lt-leb _ _ low))
      | inr from ↦ elim (cases_lt i (at + length bytes)) [
        | inl below ↦
            let p = inside at (length bytes) i h from below in
            cond-true _ _ _ (and_from _ _ (eq-eqb _ _ p.0) (lt-ltb _ _ (omega (arith, p.1))))
            ∙ (ap (λ k. bit_and x (get_or bytes k 0)) p.1
            ∙ sym (cond-true _ _ _ (and_from _ _ (le-leb _ _ from) (lt-ltb _ _ below))))
        | inr above ↦ out (inr above) (and_right _ _ (le-ltb _ _ above))
      ]
    ]

pub programmed_in_page : (m : List ℕ) (at : ℕ) (bytes : List ℕ) → at % 256 + length bytes ≤ 256 → programmed m at bytes ≡ and_at m at bytes
unfolding programmed placed
programmed_in_page m at bytes h = changed_from_same (page_place bit_and at bytes) (place_of bit_and at bytes) (place_in_page at bytes h) 0 m

pub length-programmed : (m : List ℕ) (at : ℕ) (bytes : List ℕ) → length (programmed m at bytes) ≡ length m
unfolding programmed
length-programmed m at bytes = length-changed_from (page_place bit_and at bytes) 0 m

-- a change that changes nothing
pub changed_from_none : (f : ℕ → ℕ → ℕ) → ((i x : ℕ) → f i x ≡ x) → (k : ℕ) (m : List ℕ) → changed_from f k m ≡ m
changed_from_none f h k [] = refl
changed_from_none f h k (x ∷ xs) = ap (λ y. y ∷ changed_from f (k + 1) xs) (h k x) ∙ ap (λ ys. x ∷ ys) (changed_from_none f h (k + 1) xs)

-- one more place that is written
pub changed_set : (f g : ℕ → ℕ → ℕ) (m : List ℕ) (p y : ℕ) → ((i x : ℕ) → (i ≡ p → ⊥) → g i x ≡ f i x) → (p < length m → g p (get_or m p 0) ≡ y) → set (changed f m) p y ≡ changed g m
changed_set f g m p y others here =
    let len : length (set (changed f m) p y) ≡ length m = length-set (changed f m) p y ∙ length-changed_from f 0 m in
    ext_get_or 0 (set (changed f m) p y) (changed g m) (len ∙ sym (length-changed_from g 0 m)) (λ i l.
    let low : i < length m = omega (arith, len) in
    elim (cases_eq i p) [
      | inl e ↦
          let within : p < length m = omega arith in
          let inner : p < length (changed f m) = omega (arith, length-changed_from f 0 m) in
          get_or-set_at (changed f m) p i y 0 e inner
          ∙ (sym (here within)
          ∙ (ap (λ j. g j (get_or m j 0)) (sym e)
          ∙ sym (get-changed g m i 0 low)))
      | inr ne ↦
          get_or-set_other (changed f m) p i y 0 ne
          ∙ (get-changed f m i 0 low
          ∙ (sym (others i (get_or m i 0) ne)
          ∙ sym (get-changed g m i 0 low)))
    ])

within_none : (a i : ℕ) → is_within a 0 i ≡ false
within_none a i = elim (cases_lt i a) [
  | inl low ↦ and_left _ _ (lt-leb _ _ low)
  | inr high ↦ (let h : a + 0 ≤ i = omega arith in and_right _ _ (le-ltb _ _ h))
]

within_more : (a n i : ℕ) → (i ≡ a + n → ⊥) → is_within a (n + 1) i ≡ is_within a n i
within_more a n i ne = elim (cases_lt i (a + n)) [
  | inl low ↦ (let h : i < a + (n + 1) = omega arith in ap (λ t. leb a i && t) (lt-ltb _ _ h ∙ sym (lt-ltb _ _ low)))
  | inr high ↦ (let h : a + (n + 1) ≤ i = omega arith in ap (λ t. leb a i && t) (le-ltb _ _ h ∙ sym (le-ltb _ _ high)))
]

within_last : (a n : ℕ) → is_within a (n + 1) (a + n) ≡ true
within_last a n = let h : a ≤ a + n = omega arith in let k : a + n < a + (n + 1) = omega arith in and_from _ _ (le-leb _ _ h) (lt-ltb _ _ k)

pub filled_none : (v : ℕ) (m : List ℕ) (a : ℕ) → m ≡ changed (fill_place v a 0) m
filled_none v m a = sym (changed_from_none (fill_place v a 0) (λ i x. cond-false _ _ _ (within_none a i)) 0 m)

pub filled_more : (v : ℕ) (m : List ℕ) (a n : ℕ) → set (changed (fill_place v a n) m) (a + n) v ≡ changed (fill_place v a (n + 1)) m
filled_more v m a n = changed_set (fill_place v a n) (fill_place v a (n + 1)) m (a + n) v
    (λ i x ne. ap (λ t. cond t v x) (within_more a n i ne))
    (λ h. cond-true _ _ _ (within_last a n))

-- what is filled with a byte is a torn erase
pub filled_torn : (v : ℕ) (m : List ℕ) (a n : ℕ) → v < 256 → a + n ≤ length m → TornErase m a n (changed (fill_place v a n) m)
filled_torn v m a n small fits =
    let len : length (changed (fill_place v a n) m) ≡ length m = length-changed_from (fill_place v a n) 0 m in
    record {
      same_length = len;
      outside = λ i h. elim (cases_lt i (length m)) [
        | inl low ↦ get-changed (fill_place v a n) m i 0 low ∙ cond-false _ _ _ h
        | inr high ↦ get_or_past (changed (fill_place v a n) m) i 0 (omega (arith, len)) ∙ sym (get_or_past m i 0 high)
      ];
      inside = λ i h.
          let low : i < length m = omega (arith, ltb-true i (a + n) (and_parts _ _ h).1) in
          subst (λ x. x < 256) (sym (get-changed (fill_place v a n) m i 0 low ∙ cond-true _ _ _ h)) small;
    }

pub erased_fill : (m : List ℕ) (a n : ℕ) → erased m a n ≡ changed (fill_place 255 a n) m
unfolding erased
erased_fill m a n = refl

pub programmed_page : (m : List ℕ) (at : ℕ) (bytes : List ℕ) → programmed m at bytes ≡ changed (page_place bit_and at bytes) m
unfolding programmed
programmed_page m at bytes = refl

pub paged_none : (op : ℕ → ℕ → ℕ) (m : List ℕ) (at : ℕ) → m ≡ changed (page_place op at []) m
paged_none op m at = sym (changed_from_none (page_place op at []) (λ i x. (let h : 0 ≤ offset_in_page at i = omega arith in cond-false _ _ _ (and_right _ _ (le-ltb _ _ h)))) 0 m)

paged_other : (op : ℕ → ℕ → ℕ) (at : ℕ) (bytes : List ℕ) (k : ℕ) → k < length bytes → k < 256 → (i x : ℕ) → (i ≡ at / 256 * 256 + (at % 256 + k) % 256 → ⊥)
    → page_place op at (take (k + 1) bytes) i x ≡ page_place op at (take k bytes) i x
paged_other op at bytes k h small i x ne =
    let one : length (take (k + 1) bytes) ≡ k + 1 = length-take-le (k + 1) bytes (omega arith) in
    let two : length (take k bytes) ≡ k = length-take-le k bytes (omega arith) in
    elim (cases_eq (i / 256) (at / 256)) [
      | inr other ↦
          let first : page_place op at (take (k + 1) bytes) i x ≡ x = cond-false _ _ _ (and_left _ _ (ne_eqb _ _ other)) in
          let second : page_place op at (take k bytes) i x ≡ x = cond-false _ _ _ (and_left _ _ (ne_eqb _ _ other)) in
          first ∙ sym second
      | inl page ↦ elim (cases_lt (offset_in_page at i) k) [
        | inl low ↦
            let a : offset_in_page at i < length (take (k + 1) bytes) = omega (arith, one) in
            let b : offset_in_page at i < length (take k bytes) = omega (arith, two) in
            let c : offset_in_page at i < k + 1 = omega arith in
            cond-true _ _ _ (and_from _ _ (eq-eqb _ _ page) (lt-ltb _ _ a))
            ∙ (ap (λ y. op x y) (get_or-take (k + 1) bytes (offset_in_page at i) 0 c ∙ sym (get_or-take k bytes (offset_in_page at i) 0 low))
            ∙ sym (cond-true _ _ _ (and_from _ _ (eq-eqb _ _ page) (lt-ltb _ _ b))))
        | inr high ↦
            let differs : offset_in_page at i ≡ k → ⊥ = λ e. ne (omega (arith, e)) in
            let a : length (take (k + 1) bytes) ≤ offset_in_page at i = omega (arith, one) in
            let b : length (take k bytes) ≤ offset_in_page at i = omega (arith, two) in
            let first : page_place op at (take (k + 1) bytes) i x ≡ x = cond-false _ _ _ (and_right _ _ (le-ltb _ _ a)) in
            let second : page_place op at (take k bytes) i x ≡ x = cond-false _ _ _ (and_right _ _ (le-ltb _ _ b)) in
            first ∙ sym second
      ]
    ]

pub paged_more : (op : ℕ → ℕ → ℕ) (m : List ℕ) (at : ℕ) (bytes : List ℕ) (k : ℕ) → k < length bytes → k < 256 → at / 256 * 256 + 256 ≤ length m
    → set (changed (page_place op at (take k bytes)) m) (at / 256 * 256 + (at % 256 + k) % 256)
    (op (get_or (changed (page_place op at (take k bytes)) m) (at / 256 * 256 + (at % 256 + k) % 256) 0) (get_or bytes k 0))
    ≡ changed (page_place op at (take (k + 1) bytes)) m
paged_more op m at bytes k h small fits =
    let p = at / 256 * 256 + (at % 256 + k) % 256 in
    let page : p / 256 ≡ at / 256 = omega arith in
    let off : offset_in_page at p ≡ k = omega arith in
    let within : p < length m = omega arith in
    let one : length (take (k + 1) bytes) ≡ k + 1 = length-take-le (k + 1) bytes (omega arith) in
    let two : length (take k bytes) ≡ k = length-take-le k bytes (omega arith) in
    let a : offset_in_page at p < length (take (k + 1) bytes) = omega (arith, one, off) in
    let b : length (take k bytes) ≤ offset_in_page at p = omega (arith, two, off) in
    let last : k < k + 1 = omega arith in
    changed_set (page_place op at (take k bytes)) (page_place op at (take (k + 1) bytes)) m p
    (op (get_or (changed (page_place op at (take k bytes)) m) p 0) (get_or bytes k 0))
    (paged_other op at bytes k h small)
    (λ w. cond-true _ _ _ (and_from _ _ (eq-eqb _ _ page) (lt-ltb _ _ a))
    ∙ (ap (λ q. op (get_or m p 0) (get_or (take (k + 1) bytes) q 0)) off
    ∙ (ap (λ y. op (get_or m p 0) y) (get_or-take (k + 1) bytes k 0 last)
    ∙ ap (λ y. op y (get_or bytes k 0)) (sym (get-changed (page_place op at (take k bytes)) m p 0 within ∙ cond-false _ _ _ (and_right _ _ (le-ltb _ _ b)))))))
