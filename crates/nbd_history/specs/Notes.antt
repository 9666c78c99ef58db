-- What stands in a history. Source: own.
use Rattle.std.specs.Prelude.{◌≡◌, ℕ, ◌==◌, List, [], ◌∷◌, ◌++◌, Option, Some, None}
use Rattle.std.specs.List.{filter}
use Rattle.nbd_history.specs.declared.note.Note.{Note}

-- what a hand knows: its number, and a beginning of the history
pub record Sight (E : Type 0) : Type 0 where
  pub by : ℕ
  pub seen : List E

-- the first of these, if there is one
abbrev pub first_noted : {A : Type 0} → List A → Option A
first_noted [] = None
first_noted (x ∷ xs) = Some x

abbrev pub put : {E : Type 0} → Option E → List E → List E
put None es = es
put (Some e) es = e ∷ es

-- the entries of these notes
abbrev pub entries_of : {E : Type 0} → List (Note E) → List E
entries_of [] = []
entries_of (n ∷ ns) = put n.what (entries_of ns)

-- the entries of one hand
abbrev pub entries_by : {E : Type 0} → (E → ℕ) → ℕ → List E → List E
entries_by by c es = filter (λ e. by e == c) es
