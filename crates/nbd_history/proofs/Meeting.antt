-- What a keeper and a hand know of one another. Source: own.
use Rattle.std.proofs.Common.{◌≡◌, ℕ, ◌+◌, ◌^◌, ◌<◌, ◌==◌, Option, Some, List, [], ◌∷◌, ◌++◌, length, refl, ap, sym, subst, ◌∙◌, arith, eq-eqb, length-append}
use Rattle.std.specs.Prelude.{MatchBool}
use Rattle.std.proofs.lemmas.List.Elements.{filter-append}
use mathlib.Core.List.{IsPrefix}
use Rattle.nbd_history.specs.declared.note.Note.{Note}
use Rattle.nbd_history.specs.Notes.{entries_of, entries_by}
use Rattle.nbd_history.specs.Rules.{EndsWithPen, IsWhole, CountsOwn}
use Rattle.nbd_history.proofs.Beginnings.{told_prefix, of_same}
use Rattle.nbd_history.proofs.Cells.{told_more, one_own}

pub record Meets {E : Type 0} (by : E → ℕ) (c : ℕ) (hand keep both : List (Note E)) : Type 0 where
  pub whole : both ≡ keep
  pub before : IsPrefix (entries_of hand) (entries_of keep)
  pub own : entries_by by c (entries_of keep) ≡ entries_by by c (entries_of hand)

pub meets : {E : Type 0} (by : E → ℕ) (c : ℕ) (hand keep both : List (Note E)) (key word found : ℕ)
    → IsPrefix keep both → IsPrefix hand both → IsWhole both key → EndsWithPen keep key → CountsOwn by word both found → word ≡ c + 1 → c < 2 ^ 62 → found ≡ length (entries_by by c (entries_of hand))
    → Meets by c hand keep both
meets by c hand keep both key word found kp hp whole ends counts at lt is =
    let all : both ≡ keep = whole keep kp ends in
    let pre : IsPrefix (entries_of hand) (entries_of keep) = told_prefix hand keep (subst (IsPrefix hand) all hp) in
    let long : length (entries_by by c (entries_of keep)) ≡ length (entries_by by c (entries_of hand)) = ap (λ l. length (entries_by by c (entries_of l))) (sym all) ∙ (counts c lt at ∙ is) in
    record { whole = all; before = pre; own = of_same by c (entries_of hand) (entries_of keep) pre long }

pub record Added {E : Type 0} (by : E → ℕ) (c : ℕ) (hand keep both log : List (Note E)) (e : E) (old : ℕ) : Type 0 where
  pub met : Meets by c hand keep both
  pub more : entries_of log ≡ entries_of keep ++ e ∷ []
  pub long : old + 1 ≡ length (entries_by by c (entries_of log))

hit : (A B : Type 0) (found old : ℕ) → found ≡ old → MatchBool (found == old) A B → A
hit A B found old is m = subst (λ b. MatchBool b A B) (eq-eqb found old is) m

pub added : {E : Type 0} (by : E → ℕ) (c : ℕ) (hand keep both log : List (Note E)) (n : Note E) (e : E) (key word found old : ℕ)
    → IsPrefix keep both → IsPrefix hand both → EndsWithPen keep key → word ≡ c + 1 → c < 2 ^ 62 → found ≡ old → old ≡ length (entries_by by c (entries_of hand)) → n.what ≡ Some e → by e ≡ c
    → MatchBool (found == old) ((log ≡ both ++ n ∷ []) × IsWhole both key × CountsOwn by word both found) (Unit {0})
    → Added by c hand keep both log e old
added by c hand keep both log n e key word found old kp hp ends at lt is counted what own tells =
    let t = hit ((log ≡ both ++ n ∷ []) × IsWhole both key × CountsOwn by word both found) (Unit {0}) found old is tells in
    let m = meets by c hand keep both key word found kp hp t.1 ends t.2 at lt (is ∙ counted) in
    let more : entries_of log ≡ entries_of keep ++ e ∷ [] = ap entries_of t.0 ∙ (told_more both n e what ∙ ap (λ l. entries_of l ++ e ∷ []) m.whole) in
    let split : entries_by by c (entries_of log) ≡ entries_by by c (entries_of keep) ++ e ∷ [] = ap (entries_by by c) more ∙ (filter-append (λ x. by x == c) (entries_of keep) (e ∷ []) ∙ ap (λ l. entries_by by c (entries_of keep) ++ l) (one_own by c e own)) in
    let long : old + 1 ≡ length (entries_by by c (entries_of log)) = omega (arith, ap length split, length-append (entries_by by c (entries_of keep)) (e ∷ []), ap length m.own) in
    record { met = m; more = more; long = long }
