-- Beginnings of one list, and what was told in them. Source: own.
use Rattle.std.proofs.Common.{◌≡◌, ℕ, zero, suc, ◌+◌, ◌<◌, ◌≤◌, ◌==◌, ◌⊎◌, inl, inr, true, false, Option, Some, None, List, [], ◌∷◌, ◌++◌, length, refl, ap, sym, ◌∙◌, arith, append_assoc, length-append}
use Rattle.std.proofs.lemmas.List.{append-nil}
use Rattle.std.proofs.lemmas.List.Elements.{filter-append}
use Rattle.std.specs.List.{filter}
use mathlib.Core.List.{IsPrefix}
use Rattle.nbd_history.specs.declared.note.Note.{Note}
use Rattle.nbd_history.specs.Notes.{put, entries_of, entries_by}
use Rattle.nbd_history.specs.Rules.{EndsWithPen}

pub prefix_self : {A : Type 0} (xs : List A) → IsPrefix xs xs
prefix_self xs = ([], append-nil xs)

pub prefix_trans : {A : Type 0} (xs ys zs : List A) → IsPrefix xs ys → IsPrefix ys zs → IsPrefix xs zs
prefix_trans xs ys zs p q = (p.0 ++ q.0, sym (append_assoc xs p.0 q.0) ∙ (ap (λ w. w ++ q.0) p.1 ∙ q.1))

none_longer : {A : Type 0} (front : List A) (n : A) (rest : List A) → [] ≡ front ++ n ∷ rest → ⊥
none_longer [] n rest e = cc
none_longer (f ∷ fs) n rest e = cc

-- one more at the end: two that follow one another did so before, or the second is the new one
pub snoc_cases : {A : Type 0} (front log : List A) (n m e : A) (rest : List A) → log ++ e ∷ [] ≡ front ++ n ∷ m ∷ rest
    → ((r : List A) × (log ≡ front ++ n ∷ m ∷ r)) ⊎ (log ≡ front ++ n ∷ [])
snoc_cases [] [] n m e rest q = absurd (cc (q))
snoc_cases [] (x ∷ []) n m e rest q = inr (cc (q))
snoc_cases [] (x ∷ y ∷ zs) n m e rest q = inl (zs, cc (q))
snoc_cases (f ∷ fs) [] n m e rest q = absurd (none_longer fs n (m ∷ rest) (cc (q)))
snoc_cases (f ∷ fs) (x ∷ xs) n m e rest q =
    let heads : x ≡ f = cc (q) in
    elim (snoc_cases fs xs n m e rest (cc (q))) [ inl s ↦ inl (s.0, cc (heads, s.1)) | inr s ↦ inr (cc (heads, s)) ]

pub last_same : {A : Type 0} (front other : List A) (n m : A) → front ++ n ∷ [] ≡ other ++ m ∷ [] → n ≡ m
last_same [] [] n m q = cc (q)
last_same [] (o ∷ os) n m q = absurd (none_longer os m [] (cc (q)))
last_same (f ∷ fs) [] n m q = absurd (none_longer fs n [] (cc (q)))
last_same (f ∷ fs) (o ∷ os) n m q = last_same fs os n m (cc (q))

put_append : {E : Type 0} (w : Option E) (es fs : List E) → put w es ++ fs ≡ put w (es ++ fs)
put_append None es fs = refl
put_append (Some e) es fs = refl

pub told_append : {E : Type 0} (xs ys : List (Note E)) → entries_of (xs ++ ys) ≡ entries_of xs ++ entries_of ys
told_append [] ys = refl
told_append (x ∷ xs) ys = ap (put x.what) (told_append xs ys) ∙ sym (put_append x.what (entries_of xs) (entries_of ys))

pub told_prefix : {E : Type 0} (xs ys : List (Note E)) → IsPrefix xs ys → IsPrefix (entries_of xs) (entries_of ys)
told_prefix xs ys p = (entries_of p.0, sym (told_append xs p.0) ∙ ap entries_of p.1)

none_left : {A : Type 0} (xs : List A) → length xs ≡ 0 → xs ≡ []
none_left [] h = refl
none_left (x ∷ xs) h = absurd (omega arith)

-- where a beginning has as many of one hand as the whole, it has the same of it
pub of_same : {E : Type 0} (by : E → ℕ) (c : ℕ) (xs ys : List E) → IsPrefix xs ys → length (entries_by by c ys) ≡ length (entries_by by c xs) → entries_by by c ys ≡ entries_by by c xs
of_same by c xs ys p h =
    let all : entries_by by c ys ≡ entries_by by c xs ++ entries_by by c p.0 = sym (ap (entries_by by c) p.1) ∙ filter-append (λ e. by e == c) xs p.0 in
    let none : length (entries_by by c p.0) ≡ 0 = omega (arith, h, ap length all, length-append (entries_by by c xs) (entries_by by c p.0)) in
    all ∙ (ap (λ w. entries_by by c xs ++ w) (none_left (entries_by by c p.0) none) ∙ append-nil (entries_by by c xs))
