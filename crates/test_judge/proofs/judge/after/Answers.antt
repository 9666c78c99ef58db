use Rattle.std.proofs.Common.{◌≡◌, ℕ, List, ◌++◌, ◌∙◌, ap, drop, length, sym, take}
use Rattle.std.proofs.lemmas.Bool.Decides.{Decides-eqb}
use Rattle.std.proofs.lemmas.List.{take-append-drop}
use Rattle.std.proofs.lemmas.Slice.Eq.{slice_eq-Decides}
use Rattle.test_judge.proofs.judge.after.Goals as goal

-- two parts make the whole, where the first is these bytes
parts_make_whole : (told front beginning rest : List ℕ) → beginning ≡ take (length front) told → rest ≡ drop (length front) told
    → beginning ≡ front → told ≡ front ++ rest
parts_make_whole told front beginning rest first second same =
    sym (take-append-drop (length front) told) ∙ ap (λ xs. xs ++ drop (length front) told) (sym first ∙ same) ∙ ap (λ xs. front ++ xs) (sym second)

pub returns-then-eq : goal.returns-then-eq
returns-then-eq c =
    let parts = c.in_ok-beginning.ensures.cases in
    parts_make_whole _ _ _ _ parts.1 parts.2 ((slice_eq-Decides Decides-eqb _ _ _ c.eq.ensures).0 c.if-eq.true)
