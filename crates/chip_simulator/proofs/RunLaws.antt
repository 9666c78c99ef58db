-- A page program as one write, or two: up to the end of the page, and from its first byte on.
use Rattle.std.proofs.Common.{◌≡◌, ℕ, ◌<◌, ◌≤◌, ◌+◌, ◌-◌, ◌*◌, ◌/◌, ◌%◌, ◌∙◌, List, [], ◌∷◌, ◌++◌, length, take, drop, sym, ap, arith, inl, inr, add-one}
use Rattle.std.specs.Prelude.{set, min}
use Rattle.std.proofs.lemmas.Bool.{cases_lt, cases_eq, cond-true, cond-false, and_left, and_right, and_from, ne_eqb, eq-eqb, lt-ltb, le-ltb}
use Rattle.std.proofs.lemmas.List.{get_or-take, get_or-drop, get_or-set_other, length-take-le, length-drop, length-set, take_all}
use Rattle.std.proofs.Math.Seq.{take-suc}
use Rattle.std.proofs.lemmas.Grind.{get_or-set_at, same_number_lists}
use Rattle.chip_model.specs.Memory.{byte, changed, placed, place_of}
use Rattle.chip_model.specs.Chip.{page_place, offset_in_page}
use Rattle.chip_model.proofs.MemoryLaws.{length-changed_from, get-changed, length-placed, get-placed, place-in, place-below, place-above, placed-append, placed-inside, placed-outside}

-- one place
one_placed : (op : ℕ → ℕ → ℕ) (m : List ℕ) (p v : ℕ) → p < length m → set m p (op (byte m p) v) ≡ placed op m p (v ∷ [])
one_placed op m p v within =
    let l = length-set m p (op (byte m p) v) in
    let l' = length-placed op m p (v ∷ []) in
    same_number_lists (set m p (op (byte m p) v)) (placed op m p (v ∷ [])) (l ∙ sym l') (λ i low. elim (cases_eq i p) [
      | inl e ↦
          let z : p + 0 ≡ p = omega arith in
          let there : byte (placed op m p (v ∷ [])) (p + 0) ≡ op (byte m (p + 0)) v = placed-inside op m p (v ∷ []) 0 (omega arith) (omega arith) in
          get_or-set_at m p i (op (byte m p) v) 0 e (omega arith)
          ∙ (sym (ap (λ k. op (byte m k) v) z) ∙ (sym there ∙ ap (λ k. byte (placed op m p (v ∷ [])) k) (z ∙ sym e)))
      | inr ne ↦ get_or-set_other m p i (op (byte m p) v) 0 ne ∙ sym (placed-outside op m p (v ∷ []) i (elim (cases_lt i p) [ inl low ↦ inl low | inr high ↦ inr (omega (arith, ne)) ]))
    ])

-- one byte more
more_taken : (xs : List ℕ) (k : ℕ) → k < length xs → take (k + 1) xs ≡ take k xs ++ (byte xs k ∷ [])
more_taken xs k low = ap (λ n. take n xs) (add-one k) ∙ take-suc xs k 0 low

pub placed_more : (op : ℕ → ℕ → ℕ) (m : List ℕ) (a : ℕ) (bytes : List ℕ) (k : ℕ) → k < length bytes → a + k < length m
    → set (placed op m a (take k bytes)) (a + k) (op (byte (placed op m a (take k bytes)) (a + k)) (byte bytes k)) ≡ placed op m a (take (k + 1) bytes)
placed_more op m a bytes k low fits =
    let l : length (take k bytes) ≡ k = length-take-le k bytes (omega arith) in
    let n = length-placed op m a (take k bytes) in
    one_placed op (placed op m a (take k bytes)) (a + k) (byte bytes k) (omega (arith, n))
    ∙ (ap (λ p. placed op (placed op m a (take k bytes)) (a + p) (byte bytes k ∷ [])) (sym l)
    ∙ (placed-append op m a (take k bytes) (byte bytes k ∷ [])
    ∙ ap (λ xs. placed op m a xs) (sym (more_taken bytes k low))))

-- the place of another page, of one where a byte falls, and of one where none does
page_other : (op : ℕ → ℕ → ℕ) (at : ℕ) (bytes : List ℕ) (i x : ℕ) → (i / 256 ≡ at / 256 → ⊥) → page_place op at bytes i x ≡ x
page_other op at bytes i x other = cond-false _ _ _ (and_left _ _ (ne_eqb _ _ other))

page_in : (op : ℕ → ℕ → ℕ) (at : ℕ) (bytes : List ℕ) (i x : ℕ) → i / 256 ≡ at / 256 → offset_in_page at i < length bytes → page_place op at bytes i x ≡ op x (byte bytes (offset_in_page at i))
page_in op at bytes i x here low = cond-true _ _ _ (and_from _ _ (eq-eqb _ _ here) (lt-ltb _ _ low))

page_past : (op : ℕ → ℕ → ℕ) (at : ℕ) (bytes : List ℕ) (i x : ℕ) → length bytes ≤ offset_in_page at i → page_place op at bytes i x ≡ x
page_past op at bytes i x high = cond-false _ _ _ (and_right _ _ (le-ltb _ _ high))

-- the place of the two runs that is that of the page
runs_place : (op : ℕ → ℕ → ℕ) (at : ℕ) (bytes : List ℕ) (n i x : ℕ) → length bytes ≤ 256 → n ≡ min (length bytes) (256 - at % 256)
    → place_of op (at / 256 * 256) (drop n bytes) i (place_of op at (take n bytes) i x) ≡ page_place op at bytes i x
runs_place op at bytes n i x few is =
    let page = at / 256 * 256 in
    let most : n ≤ length bytes = omega (arith, is) in
    let l : length (take n bytes) ≡ n = length-take-le n bytes most in
    let r : length (drop n bytes) ≡ length bytes - n = length-drop n bytes in
    elim (cases_lt i page) [
      | inl low ↦
          place-below op page (drop n bytes) i (place_of op at (take n bytes) i x) low
          ∙ (place-below op at (take n bytes) i x (omega arith)
          ∙ sym (page_other op at bytes i x (λ e. omega (arith, e))))
      | inr from ↦ elim (cases_lt i at) [
        | inl before ↦
            let here : i / 256 ≡ at / 256 = omega arith in
            let off : offset_in_page at i ≡ (i - page) + (256 - at % 256) = omega arith in
            let first = place-below op at (take n bytes) i x before in
            elim (cases_lt i (page + length (drop n bytes))) [
              | inl inner ↦
                  let k : offset_in_page at i < length bytes = omega (arith, off, is, r, inner) in
                  let j : n + (i - page) ≡ offset_in_page at i = omega (arith, off, is, r, inner) in
                  ap (λ y. place_of op page (drop n bytes) i y) first
                  ∙ (place-in op page (drop n bytes) i x from inner
                  ∙ (ap (λ b. op x b) (get_or-drop n bytes (i - page) 0 ∙ ap (λ q. byte bytes q) j)
                  ∙ sym (page_in op at bytes i x here k)))
              | inr past ↦
                  let k : length bytes ≤ offset_in_page at i = omega (arith, off, is, r, past) in
                  place-above op page (drop n bytes) i (place_of op at (take n bytes) i x) past
                  ∙ (first ∙ sym (page_past op at bytes i x k))
            ]
        | inr reached ↦ elim (cases_lt i (page + 256)) [
          | inl inside ↦
              let here : i / 256 ≡ at / 256 = omega arith in
              let off : offset_in_page at i ≡ i - at = omega arith in
              let past : page + length (drop n bytes) ≤ i = omega (arith, is, r) in
              let second = place-above op page (drop n bytes) i (place_of op at (take n bytes) i x) past in
              elim (cases_lt i (at + length (take n bytes))) [
                | inl inner ↦
                    let k : offset_in_page at i < length bytes = omega (arith, off, is, l, inner) in
                    let low : i - at < n = omega (arith, l, inner) in
                    second ∙ (place-in op at (take n bytes) i x reached inner
                    ∙ (ap (λ b. op x b) (get_or-take n bytes (i - at) 0 low ∙ ap (λ q. byte bytes q) (sym off))
                    ∙ sym (page_in op at bytes i x here k)))
                | inr above ↦
                    let k : length bytes ≤ offset_in_page at i = omega (arith, off, is, l, above) in
                    second ∙ (place-above op at (take n bytes) i x above ∙ sym (page_past op at bytes i x k))
              ]
          | inr outside ↦
              let past : page + length (drop n bytes) ≤ i = omega (arith, is, r) in
              let above : at + length (take n bytes) ≤ i = omega (arith, is, l) in
              place-above op page (drop n bytes) i (place_of op at (take n bytes) i x) past
              ∙ (place-above op at (take n bytes) i x above
              ∙ sym (page_other op at bytes i x (λ e. omega (arith, e))))
        ]
      ]
    ]

pub page_runs : (op : ℕ → ℕ → ℕ) (m : List ℕ) (at : ℕ) (bytes : List ℕ) (n : ℕ) → length bytes ≤ 256 → n ≡ min (length bytes) (256 - at % 256)
    → placed op (placed op m at (take n bytes)) (at / 256 * 256) (drop n bytes) ≡ changed (page_place op at bytes) m
page_runs op m at bytes n few is =
    let m1 = placed op m at (take n bytes) in
    let l1 = length-placed op m at (take n bytes) in
    let l2 = length-placed op m1 (at / 256 * 256) (drop n bytes) in
    let l3 = length-changed_from (page_place op at bytes) 0 m in
    same_number_lists (placed op m1 (at / 256 * 256) (drop n bytes)) (changed (page_place op at bytes) m) (l2 ∙ (l1 ∙ sym l3)) (λ i h.
    let low : i < length m = omega (arith, l1, l2, h) in
    let low1 : i < length m1 = omega (arith, l1, low) in
    get-placed op m1 (at / 256 * 256) (drop n bytes) i 0 low1
    ∙ (ap (λ y. place_of op (at / 256 * 256) (drop n bytes) i y) (get-placed op m at (take n bytes) i 0 low)
    ∙ (runs_place op at bytes n i (byte m i) few is
    ∙ sym (get-changed (page_place op at bytes) m i 0 low))))

-- the same of the two parts of a slice
pub sliced_runs : (op : ℕ → ℕ → ℕ) (m m1 m2 : List ℕ) (at : ℕ) (bytes : List ℕ) (n : ℕ) → length bytes ≤ 256 → n ≡ min (length bytes) (256 - at % 256)
    → m1 ≡ placed op m at (take n bytes) → m2 ≡ placed op m1 (at / 256 * 256) (take (length bytes - n) (drop n bytes)) → m2 ≡ changed (page_place op at bytes) m
sliced_runs op m m1 m2 at bytes n few is one two =
    let r : length (drop n bytes) ≡ length bytes - n = length-drop n bytes in
    let rest : take (length bytes - n) (drop n bytes) ≡ drop n bytes = take_all (length bytes - n) (drop n bytes) (omega (arith, r)) in
    two
    ∙ (ap (λ xs. placed op m1 (at / 256 * 256) xs) rest
    ∙ (ap (λ (y : List ℕ). placed op y (at / 256 * 256) (drop n bytes)) one
    ∙ page_runs op m at bytes n few is))
