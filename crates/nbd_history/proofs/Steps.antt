-- What the steps do. Source: own.
use Rattle.std.proofs.Common.{◌≡◌, ℕ, zero, suc, ◌+◌, ◌^◌, ◌<◌, ◌≤◌, ◌≢◌, ◌==◌, inl, inr, Bool, true, false, Option, Some, None, List, [], ◌∷◌, ◌++◌, length, refl, ap, sym, subst, ◌∙◌, arith, length-append}
use Rattle.std.proofs.lemmas.List.{append-nil, set-get_or, get_or-set_same, get_or-set_other}
use Rattle.std.proofs.lemmas.Bool.Decides.{nat_tests}
use Rattle.std.proofs.Math.ListN.{length-set}
use Rattle.std.specs.Prelude.{slice_set}
use mathlib.Core.List.{IsPrefix}
use prog.Atomic.{either}
use Rattle.logbook.specs.Pages.{Cell, cell, Nib, nib, no_nib, may_write, step, keeps, gives, adds, Moves, Goes}
use Rattle.nbd_history.specs.declared.note.Note.{Note}
use Rattle.nbd_history.specs.Notes.{put, entries_of, entries_by}
use Rattle.nbd_history.specs.Rules.{IsBook, EndsWithPen, IsWhole, CountsOwn, MakesPen, SeesAll, AddsFirst, AddsNote, started}
use Rattle.nbd_history.proofs.Beginnings.{prefix_trans}
use Rattle.nbd_history.proofs.Cells.{unchanged, home, kept_longer, whole, kept_add}

prefix_whole : {A : Type 0} (xs ys : List A) → IsPrefix xs ys → length ys ≤ length xs → xs ≡ ys
prefix_whole [] [] p le = refl
prefix_whole [] (y ∷ ys) p le = absurd (omega arith)
prefix_whole (x ∷ xs) [] p le = absurd (cc (p.1))
prefix_whole (x ∷ xs) (y ∷ ys) p le =
    let rest = prefix_whole xs ys (p.0, cc (p.1)) (omega arith) in cc (p.1, rest)

prefix_length : {A : Type 0} (xs ys : List A) → IsPrefix xs ys → length xs ≤ length ys
prefix_length xs ys p = omega (arith, sym (ap length p.1) ∙ length-append xs p.0)

squeezed : {A : Type 0} (xs v log : List A) → IsPrefix xs v → IsPrefix v log → log ≡ xs → v ≡ log
squeezed xs v log p q is = prefix_whole v log q (omega (arith, prefix_length xs v p, ap length is))

too_short : {A : Type 0} (front : List A) (a b : A) (rest : List A) (n : A) → n ∷ [] ≡ front ++ a ∷ b ∷ rest → ⊥
too_short [] a b rest n q = cc (q)
too_short (f ∷ []) a b rest n q = cc (q)
too_short (f ∷ g ∷ fs) a b rest n q = cc (q)

abbrev pub shown : {E : Type 0} → List (Note E) → List (Note E)
shown log = []

abbrev pub moved : {E : Type 0} → List (Note E) → List (Note E) → ℕ → Type 0
moved xs ys n = Unit {0}

module _ {E : Type 0} (by : E → ℕ) where
  kept_same : (cs other : List Cell) (log : List (Note E)) → IsBook by cs log → other ≡ cs → IsBook by other (log ++ [])
  kept_same cs other log kept is = subst (λ l. IsBook by other l) (sym (append-nil log)) (subst (λ c. IsBook by c log) (sym is) kept)

  pub grows_moves : (v : List (Note E)) (ask : Note E) (key : ℕ) → key < 2 ^ 62 + 1
      → Moves (IsBook by) shown moved key (v, (no_nib, None)) (λ n. either (n == 0) 0 n) (MakesPen (step key 0 0 ask) (v, (no_nib, None)))
  grows_moves v ask key lt cs log kept pre away =
      let h = home by cs log kept key lt in
      let size : 2 ^ 62 < length cs = kept.size in (
        omega arith,
        ap (λ (x : Cell). x.1) h.1,
        (
          adds,
          [],
          None,
          tt,
          kept_same (cs ++ (0, false) ∷ []) (slice_set cs key (either ((cell cs key).0 == 0) 0 (cell cs key).0, true) ++ (0, false) ∷ []) log (kept_longer by cs log kept) (ap (λ (c : List Cell). c ++ (0, false) ∷ []) (unchanged cs key 0 h.0 h.1)),
          inl (refl, refl),
          (length cs, refl),
        ),
      )

  is_whole : (cs : List Cell) (log v : List (Note E)) (p : ℕ) → IsBook by cs log → IsPrefix v log → (cell cs p).1 ≡ false → IsWhole v p
  is_whole cs log v p kept pre away xs q ends =
      let all : log ≡ xs = whole by cs log xs p kept (prefix_trans xs v log q pre) ends away in
      squeezed xs v log q pre all ∙ all

  counted : (cs : List Cell) (log v : List (Note E)) (key : ℕ) → IsBook by cs log → log ≡ v → CountsOwn by key v (cell cs key).0
  counted cs log v key kept is c lt at =
      ap (λ l. length (entries_by by c (entries_of l))) (sym is) ∙ (sym (ap (λ (x : Cell). x.0) (kept.counts c lt)) ∙ ap (λ k. (cell cs k).0) (sym at))

  pub looks_moves : (v : List (Note E)) (p : Nib) (ask : Note E) (key : ℕ) → key < 2 ^ 62 + 1 → p.right ≡ may_write → ((xs : List (Note E)) × IsPrefix xs v × EndsWithPen xs p.key)
      → Moves (IsBook by) shown moved key (v, (p, None)) (λ n. either (n == 0) 0 n) (SeesAll by (step key 0 0 ask) (v, (p, None)))
  looks_moves v p ask key lt right begins cs log kept pre away =
      let h = home by cs log kept key lt in
      let size : 2 ^ 62 < length cs = kept.size in
      let a = away right in
      let all : log ≡ begins.0 = whole by cs log begins.0 p.key kept (prefix_trans begins.0 v log begins.1 pre) begins.2 a.1 in
      let same : log ≡ v = sym (squeezed begins.0 v log begins.1 pre all) in (
        omega arith,
        ap (λ (x : Cell). x.1) h.1,
        (
          keeps,
          [],
          None,
          tt,
          kept_same cs (slice_set cs key (either ((cell cs key).0 == 0) 0 (cell cs key).0, true)) log kept (unchanged cs key 0 h.0 h.1),
          inl (refl, refl),
          (append-nil log ∙ same, refl, is_whole cs log v p.key kept pre a.1, counted cs log v key kept same),
        ),
      )

  -- what a step that adds a note does, where the number found is as expected, and where not
  adds_goes : (cs : List Cell) (log v : List (Note E)) (p : Nib) (c old : ℕ) (n : Note E) (e : E) → c < 2 ^ 62 → n.what ≡ Some e → by e ≡ c → p.right ≡ may_write → IsBook by cs log → IsPrefix v log
      → (p.key < length cs) × ((cell cs p.key).1 ≡ false) → EndsWithPen v p.key → log ≡ v
      → (b : Bool) → ((cell cs (c + 1)).0 == old) ≡ b
      → Goes (IsBook by) shown moved (c + 1) (v, (p, None)) (λ m. either (m == old) (old + 1) m) (AddsNote by (step (c + 1) old (old + 1) n) (v, (p, None))) cs log
  adds_goes cs log v p c old n e lt what own right kept pre away ends same true is =
      let eq : (cell cs (c + 1)).0 ≡ old = grind (arith, nat_tests) in
      let counted_is : length (entries_by by c (entries_of log)) ≡ old = sym (ap (λ (x : Cell). x.0) (kept.counts c lt)) ∙ eq in
      let new : either ((cell cs (c + 1)).0 == old) (old + 1) (cell cs (c + 1)).0 ≡ length (entries_by by c (entries_of log)) + 1 = rw is (ap (λ k. k + 1) (sym counted_is)) in
      let ends' : EndsWithPen log p.key = subst (λ l. EndsWithPen l p.key) (sym same) ends in (
        gives,
        n ∷ [],
        None,
        right,
        subst (λ k. IsBook by (slice_set (slice_set cs (c + 1) (k, true)) p.key (p.value, true)) (log ++ n ∷ [])) (sym new)
            (kept_add by cs log kept c lt n e what own p.key p.value ends' away.0 away.1),
        inl (refl, refl),
        rw is (ap (λ l. l ++ n ∷ []) same, is_whole cs log v p.key kept pre away.1, counted cs log v (c + 1) kept same),
      )
  adds_goes cs log v p c old n e lt what own right kept pre away ends same false is =
      let new : either ((cell cs (c + 1)).0 == old) (old + 1) (cell cs (c + 1)).0 ≡ (cell cs (c + 1)).0 = rw is refl in
      let here : ((cell cs (c + 1)).0, true) ≡ cell cs (c + 1) = ap (λ (b : Bool). ((cell cs (c + 1)).0, b)) (sym (ap (λ (x : Cell). x.1) (kept.counts c lt))) in
      let cells : slice_set cs (c + 1) (either ((cell cs (c + 1)).0 == old) (old + 1) (cell cs (c + 1)).0, true) ≡ cs =
      ap (λ (k : ℕ). slice_set cs (c + 1) (k, true)) new ∙ (ap (slice_set cs (c + 1)) here ∙ set-get_or cs (c + 1) (0, false)) in (
        keeps,
        [],
        None,
        tt,
        kept_same cs (slice_set cs (c + 1) (either ((cell cs (c + 1)).0 == old) (old + 1) (cell cs (c + 1)).0, true)) log kept cells,
        inl (refl, refl),
        rw is tt,
      )

  pub adds_moves : (v xs : List (Note E)) (p : Nib) (c old : ℕ) (n : Note E) (e : E) → c < 2 ^ 62 → n.what ≡ Some e → by e ≡ c → p.right ≡ may_write → IsPrefix xs v → EndsWithPen xs p.key
      → Moves (IsBook by) shown moved (c + 1) (v, (p, None)) (λ m. either (m == old) (old + 1) m) (AddsNote by (step (c + 1) old (old + 1) n) (v, (p, None)))
  adds_moves v xs p c old n e lt what own right begins ends cs log kept pre away =
      let size : 2 ^ 62 < length cs = kept.size in
      let a = away right in
      let all : log ≡ xs = whole by cs log xs p.key kept (prefix_trans xs v log begins pre) ends a.1 in
      let same : v ≡ log = squeezed xs v log begins pre all in
      let ends' : EndsWithPen v p.key = subst (λ l. EndsWithPen l p.key) (sym all ∙ sym same) ends in (
        omega arith,
        ap (λ (x : Cell). x.1) (kept.counts c lt),
        adds_goes cs log v p c old n e lt what own right kept pre a ends' (sym same) ((cell cs (c + 1)).0 == old) refl,
      )

  none_before : (log : List (Note E)) → started log ≡ 0 → log ≡ []
  none_before [] h = refl
  none_before (x ∷ xs) h = absurd (omega arith)

  kept_begin : (cs : List Cell) (n : Note E) → n.what ≡ None → IsBook by cs [] → IsBook by (slice_set cs 0 (1, true)) (n ∷ [])
  kept_begin cs n what kept =
      let size : 2 ^ 62 < length cs = kept.size in
      record {
        size = omega (arith, length-set cs 0 (1, true));
        start = get_or-set_same cs 0 (1, true) (0, false) (omega arith);
        counts = λ c lt.
            get_or-set_other cs 0 (c + 1) (1, true) (0, false) (λ q. omega arith)
            ∙ (kept.counts c lt ∙ ap (λ (w : Option E). (length (entries_by by c (put w [])), true)) (sym what));
        chain = λ front a b rest q. absurd (too_short front a b rest n q);
      }

  begins_goes : (cs : List Cell) (log : List (Note E)) (n : Note E) → n.what ≡ None → IsBook by cs log
      → (b : Bool) → ((cell cs 0).0 == 0) ≡ b
      → Goes (IsBook by) shown moved 0 ([], (no_nib, None)) (λ m. either (m == 0) 1 m) (AddsFirst (step 0 0 1 n) ([], (no_nib, None))) cs log
  begins_goes cs log n what kept true is =
      let eq : (cell cs 0).0 ≡ 0 = grind (arith, nat_tests) in
      let none : log ≡ [] = none_before log (sym (ap (λ (x : Cell). x.0) kept.start) ∙ eq) in
      let new : either ((cell cs 0).0 == 0) 1 (cell cs 0).0 ≡ 1 = rw is refl in (
        keeps,
        n ∷ [],
        None,
        tt,
        subst (λ k. IsBook by (slice_set cs 0 (k, true)) (log ++ n ∷ [])) (sym new)
            (subst (λ l. IsBook by (slice_set cs 0 (1, true)) (l ++ n ∷ [])) (sym none) (kept_begin cs n what (subst (IsBook by cs) none kept))),
        inl (refl, refl),
        rw is (ap (λ l. l ++ n ∷ []) none),
      )
  begins_goes cs log n what kept false is =
      let new : either ((cell cs 0).0 == 0) 1 (cell cs 0).0 ≡ (cell cs 0).0 = rw is refl in
      let here : ((cell cs 0).0, true) ≡ cell cs 0 = ap (λ (b : Bool). ((cell cs 0).0, b)) (sym (ap (λ (x : Cell). x.1) kept.start)) in
      let cells : slice_set cs 0 (either ((cell cs 0).0 == 0) 1 (cell cs 0).0, true) ≡ cs =
      ap (λ (k : ℕ). slice_set cs 0 (k, true)) new ∙ (ap (slice_set cs 0) here ∙ set-get_or cs 0 (0, false)) in (
        keeps,
        [],
        None,
        tt,
        kept_same cs (slice_set cs 0 (either ((cell cs 0).0 == 0) 1 (cell cs 0).0, true)) log kept cells,
        inl (refl, refl),
        rw is tt,
      )

  pub begins_moves : (n : Note E) → n.what ≡ None
      → Moves (IsBook by) shown moved 0 ([], (no_nib, None)) (λ m. either (m == 0) 1 m) (AddsFirst (step 0 0 1 n) ([], (no_nib, None)))
  begins_moves n what cs log kept pre away =
      let size : 2 ^ 62 < length cs = kept.size in (
        omega arith,
        ap (λ (x : Cell). x.1) kept.start,
        begins_goes cs log n what kept ((cell cs 0).0 == 0) refl,
      )
