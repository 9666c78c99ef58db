-- The rule, and how its cells may change. Source: own.
use Rattle.std.proofs.Common.{◌≡◌, ℕ, zero, suc, ◌+◌, ◌^◌, ◌<◌, ◌≤◌, ◌≢◌, ◌==◌, ◌⊎◌, inl, inr, Bool, true, false, Option, Some, None, List, [], ◌∷◌, ◌++◌, length, refl, ap, sym, subst, ◌∙◌, arith, eqb, eq-eqb, ne_eqb, append_assoc, length-append, replicate}
use Rattle.std.proofs.lemmas.List.{append-nil, set-get_or, get_or-set_same, get_or-set_other}
use Rattle.std.proofs.lemmas.List.Elements.{filter-append}
use Rattle.std.proofs.lemmas.Bool.Decides.{nat_tests}
use Rattle.std.proofs.Math.ListN.{length-set, length-replicate}
use Rattle.std.specs.Prelude.{slice_set}
use mathlib.Core.List.{IsPrefix}
use mathlib.Core.Logic.{dite}
use native.Mathlib.Decide.{ℕ_discrete}
use prog.Atomic.{either}
use Rattle.logbook.proofs.Lists.{exchanged}
use Rattle.logbook.specs.Pages.{Cell, cell}
use Rattle.nbd_history.specs.declared.note.Note.{Note}
use Rattle.nbd_history.specs.Notes.{put, entries_of, entries_by}
use Rattle.nbd_history.specs.Rules.{IsBook, started, EndsWithPen}
use Rattle.nbd_history.proofs.Beginnings.{snoc_cases, last_same, told_append}

-- a cell that is exchanged for itself
pub unchanged : (cs : List Cell) (k a n : ℕ) → cell cs k ≡ (n, true) → slice_set cs k (either ((cell cs k).0 == a) a (cell cs k).0, true) ≡ cs
unchanged cs k a n is =
    let same : either (n == a) a n ≡ n = exchanged n a a (λ m. m ≡ n) (λ e. sym e) (λ e. refl) in
    let here : (either ((cell cs k).0 == a) a (cell cs k).0, true) ≡ cell cs k = subst (λ (c : Cell). (either (c.0 == a) a c.0, true) ≡ c) (sym is) (ap (λ (m : ℕ). (m, true)) same) in
    ap (slice_set cs k) here ∙ set-get_or cs k (0, false)

pub cell_longer : (cs xs : List Cell) (k : ℕ) → k < length cs → cell (cs ++ xs) k ≡ cell cs k
cell_longer [] xs k lt = absurd (omega arith)
cell_longer (c ∷ cs) xs zero lt = refl
cell_longer (c ∷ cs) xs (suc k) lt = cell_longer cs xs k (omega arith)

pub home_inside : (cs : List Cell) (k : ℕ) → (cell cs k).1 ≡ true → k < length cs
home_inside [] k h = absurd (cc (h))
home_inside (c ∷ cs) zero h = omega arith
home_inside (c ∷ cs) (suc k) h = let r = home_inside cs k h in omega arith

cell_row : (n k : ℕ) → k < n → cell (replicate n (0, true)) k ≡ (0, true)
cell_row zero k lt = absurd (omega arith)
cell_row (suc n) zero lt = refl
cell_row (suc n) (suc k) lt = cell_row n k (omega arith)

snoc_started : {E : Type 0} (log : List (Note E)) (n : Note E) → started (log ++ n ∷ []) ≡ 1
snoc_started [] n = refl
snoc_started (x ∷ xs) n = refl

ends_started : {E : Type 0} (log : List (Note E)) (key : ℕ) → EndsWithPen log key → started log ≡ 1
ends_started log key ends = ap started ends.2 ∙ snoc_started ends.0 ends.1

pub one_own : {E : Type 0} (by : E → ℕ) (c : ℕ) (e : E) → by e ≡ c → entries_by by c (e ∷ []) ≡ e ∷ []
one_own by c e is = rw (eq-eqb (by e) c is) refl

one_other : {E : Type 0} (by : E → ℕ) (c : ℕ) (e : E) → by e ≢ c → entries_by by c (e ∷ []) ≡ []
one_other by c e is = rw (ne_eqb (by e) c is) refl

-- a note more
pub told_more : {E : Type 0} (log : List (Note E)) (n : Note E) (e : E) → n.what ≡ Some e → entries_of (log ++ n ∷ []) ≡ entries_of log ++ e ∷ []
told_more log n e what = told_append log (n ∷ []) ∙ ap (λ w. entries_of log ++ put w []) what

module _ {E : Type 0} (by : E → ℕ) where
  -- a row of words that hold 0
  pub kept_row : (n : ℕ) → 2 ^ 62 < n → IsBook by (replicate n (0, true)) []
  kept_row n lt =
      let at : (k : ℕ) → k < n → cell (replicate n (0, true)) k ≡ (0, true) = λ k h. cell_row n k h in
      record {
        size = omega (arith, length-replicate {A = Cell} n (0, true));
        start = at 0 (omega arith);
        counts = λ c h. at (c + 1) (omega arith);
        chain = λ front n m rest e. absurd (elim front as (λ f. [] ≡ f ++ n ∷ m ∷ rest → ⊥) [ [] ↦ λ q. cc (q) | x ∷ xs ↦ λ q. cc (q) ] e);
      }

  -- the words of hands, and the first, are home
  pub home : (cs : List Cell) (log : List (Note E)) → IsBook by cs log → (k : ℕ) → k < 2 ^ 62 + 1 → (n : ℕ) × (cell cs k ≡ (n, true))
  home cs log kept zero lt = (started log, kept.start)
  home cs log kept (suc c) lt =
      let is : c + 1 ≡ suc c = omega arith in
      (length (entries_by by c (entries_of log)), subst (λ k. cell cs k ≡ (length (entries_by by c (entries_of log)), true)) is (kept.counts c (omega arith)))

  -- what is home stays as it is
  pub kept_by : (cs other : List Cell) (log : List (Note E)) → IsBook by cs log → length cs ≤ length other → ((k n : ℕ) → cell cs k ≡ (n, true) → cell other k ≡ (n, true)) → IsBook by other log
  kept_by cs other log kept le stays =
      record {
        size = let s = kept.size in omega arith;
        start = stays 0 (started log) kept.start;
        counts = λ c lt. stays (c + 1) (length (entries_by by c (entries_of log))) (kept.counts c lt);
        chain = λ front n m rest e. ap (λ (x : Cell). x.1) (stays n.next (cell cs n.next).0 (ap (λ (b : Bool). ((cell cs n.next).0, b)) (kept.chain front n m rest e)));
      }

  pub kept_longer : (cs : List Cell) (log : List (Note E)) → IsBook by cs log → IsBook by (cs ++ (0, false) ∷ []) log
  kept_longer cs log kept =
      kept_by cs (cs ++ (0, false) ∷ []) log kept (omega (arith, length-append cs ((0, false) ∷ [])))
      (λ k n is. cell_longer cs ((0, false) ∷ []) k (home_inside cs k (ap (λ (x : Cell). x.1) is)) ∙ is)

  -- a beginning that ends with a pen that is away is all
  pub whole : (cs : List Cell) (log xs : List (Note E)) (key : ℕ) → IsBook by cs log → IsPrefix xs log → EndsWithPen xs key → (cell cs key).1 ≡ false → log ≡ xs
  whole cs log xs key kept ([], eq) ends away = sym eq ∙ append-nil xs
  whole cs log xs key kept (m ∷ rest, eq) ends away =
      let n = ends.1 in
      let is : log ≡ ends.0 ++ n ∷ m ∷ rest = sym eq ∙ (ap (λ w. w ++ m ∷ rest) ends.2 ∙ append_assoc ends.0 (n ∷ []) (m ∷ rest)) in
      let h : (cell cs n.next).1 ≡ true = kept.chain ends.0 n m rest is in
      let k : n.next ≡ key = ends.3 in
      absurd (cc (h, away, ap (cell cs) k))

  counts_more : (cs : List Cell) (log : List (Note E)) → IsBook by cs log → (c : ℕ) → (n : Note E) (e : E) → n.what ≡ Some e → by e ≡ c → (next : List Cell)
      → ((k m : ℕ) → cell cs k ≡ (m, true) → k ≢ c + 1 → cell next k ≡ (m, true)) → cell next (c + 1) ≡ (length (entries_by by c (entries_of log)) + 1, true)
      → (d : ℕ) → d < 2 ^ 62 → cell next (d + 1) ≡ (length (entries_by by d (entries_of (log ++ n ∷ []))), true)
  counts_more cs log kept c n e what own next stays here d less =
      let all : entries_by by d (entries_of (log ++ n ∷ [])) ≡ entries_by by d (entries_of log) ++ entries_by by d (e ∷ []) = ap (entries_by by d) (told_more log n e what) ∙ filter-append (λ x. by x == d) (entries_of log) (e ∷ []) in
      let sum : length (entries_by by d (entries_of (log ++ n ∷ []))) ≡ length (entries_by by d (entries_of log)) + length (entries_by by d (e ∷ [])) = ap length all ∙ length-append (entries_by by d (entries_of log)) (entries_by by d (e ∷ [])) in
      dite (ℕ_discrete d c)
      (λ q.
      let one : length (entries_by by d (e ∷ [])) ≡ 1 = ap length (one_own by d e (own ∙ sym q)) in
      let grown : length (entries_by by d (entries_of log)) + 1 ≡ length (entries_by by d (entries_of (log ++ n ∷ []))) = omega arith in
      ap (λ k. cell next (k + 1)) q ∙ (here ∙ ap (λ (k : ℕ). (k, true)) (ap (λ k. length (entries_by by k (entries_of log)) + 1) (sym q) ∙ grown)))
      (λ ne.
      let none : length (entries_by by d (e ∷ [])) ≡ 0 = ap length (one_other by d e (λ q. ne (sym q ∙ own))) in
      let same : length (entries_by by d (entries_of log)) ≡ length (entries_by by d (entries_of (log ++ n ∷ []))) = omega arith in
      stays (d + 1) (length (entries_by by d (entries_of log))) (kept.counts d less) (λ q. ne (omega arith)) ∙ ap (λ (k : ℕ). (k, true)) same)

  pub kept_add : (cs : List Cell) (log : List (Note E)) → IsBook by cs log → (c : ℕ) → c < 2 ^ 62 → (n : Note E) (e : E) → n.what ≡ Some e → by e ≡ c → (p value : ℕ) → EndsWithPen log p → p < length cs → (cell cs p).1 ≡ false
      → IsBook by (slice_set (slice_set cs (c + 1) (length (entries_by by c (entries_of log)) + 1, true)) p (value, true)) (log ++ n ∷ [])
  kept_add cs log kept c lt n e what own p value ends inside away =
      let mid : List Cell = slice_set cs (c + 1) (length (entries_by by c (entries_of log)) + 1, true) in
      let next : List Cell = slice_set mid p (value, true) in
      let size : 2 ^ 62 < length cs = kept.size in
      let long : length next ≡ length cs = length-set mid p (value, true) ∙ length-set cs (c + 1) (length (entries_by by c (entries_of log)) + 1, true) in
      let far : (k m : ℕ) → cell cs k ≡ (m, true) → k ≢ p = λ k m is q. absurd (cc (is, away, ap (cell cs) q)) in
      let stays : (k m : ℕ) → cell cs k ≡ (m, true) → k ≢ c + 1 → cell next k ≡ (m, true) =
      λ k m is ne. get_or-set_other mid p k (value, true) (0, false) (far k m is) ∙ (get_or-set_other cs (c + 1) k (length (entries_by by c (entries_of log)) + 1, true) (0, false) ne ∙ is) in
      let here : cell next (c + 1) ≡ (length (entries_by by c (entries_of log)) + 1, true) =
      get_or-set_other mid p (c + 1) (value, true) (0, false) (far (c + 1) (length (entries_by by c (entries_of log))) (kept.counts c lt))
      ∙ get_or-set_same cs (c + 1) (length (entries_by by c (entries_of log)) + 1, true) (0, false) (omega arith) in
      let pen : (cell next p).1 ≡ true = ap (λ (x : Cell). x.1) (get_or-set_same mid p (value, true) (0, false) (omega (arith, length-set cs (c + 1) (length (entries_by by c (entries_of log)) + 1, true)))) in
      let homes : (k : ℕ) → (cell cs k).1 ≡ true → (cell next k).1 ≡ true =
      λ k h. dite (ℕ_discrete k (c + 1))
      (λ q. ap (λ (x : Cell). x.1) (ap (cell next) q ∙ here))
      (λ ne. ap (λ (x : Cell). x.1) (stays k (cell cs k).0 (ap (λ (b : Bool). ((cell cs k).0, b)) h) ne)) in
      record {
        size = omega arith;
        start = stays 0 (started log) kept.start (λ q. omega arith) ∙ ap (λ (m : ℕ). (m, true)) (ends_started log p ends ∙ sym (snoc_started log n));
        counts = λ d less. counts_more cs log kept c n e what own next stays here d less;
        chain = λ front m o rest q. elim (snoc_cases front log m o n rest q) [
          | inl s ↦ homes m.next (kept.chain front m o s.0 s.1)
          | inr s ↦ subst (λ k. (cell next k).1 ≡ true) (sym (ap (λ (x : Note E). x.next) (last_same front ends.0 m ends.1 (sym s ∙ ends.2)) ∙ ends.3)) pen
        ];
      }
