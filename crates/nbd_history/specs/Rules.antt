-- The rule of the book, and what its steps tell. Source: own.
use Rattle.std.specs.Prelude.{◌≡◌, ℕ, ◌+◌, ◌^◌, ◌<◌, ◌==◌, true, List, [], ◌∷◌, ◌++◌, length}
use Rattle.std.specs.Prelude.{MatchBool}
use mathlib.Core.List.{IsPrefix}
use Rattle.logbook.specs.Pages.{Cell, cell, Nib, nib, may_make, Step, View, Book, Named}
use Rattle.nbd_history.specs.declared.note.Note.{Note}
use Rattle.nbd_history.specs.Notes.{entries_of, entries_by}

abbrev pub started : {E : Type 0} → List (Note E) → ℕ
started [] = 0
started (n ∷ ns) = 1

-- The first word says whether there is a note. The word of each hand counts its entries. The pens
-- of all notes but the last are home.
pub record IsBook {E : Type 0} (by : E → ℕ) (cells : List Cell) (log : List (Note E)) : Type 0 where
  pub size : 2 ^ 62 < length cells
  pub start : cell cells 0 ≡ (started log, true)
  pub counts : (c : ℕ) → c < 2 ^ 62
      → cell cells (c + 1) ≡ (length (entries_by by c (entries_of log)), true)
  pub chain : (front : List (Note E)) (n m : Note E) (rest : List (Note E))
      → log ≡ front ++ n ∷ m ∷ rest → (cell cells n.next).1 ≡ true

-- the word of a hand, or for 0 the first
abbrev pub word_of : ℕ → Book → Named
word_of key b = record { tracked = true; key = key; book = b }

-- the last note names this pen
abbrev pub EndsWithPen : {E : Type 0} → List (Note E) → ℕ → Type 0
EndsWithPen {E = E} log key =
    (front : List (Note E)) × (n : Note E) × (log ≡ front ++ n ∷ []) × (n.next ≡ key)

-- a beginning of these notes that ends with this pen is all of them
abbrev pub IsWhole : {E : Type 0} → List (Note E) → ℕ → Type 0
IsWhole {E = E} log key =
    (xs : List (Note E)) → IsPrefix xs log → EndsWithPen xs key → log ≡ xs

-- ---- what a step tells

-- a pen was made
abbrev pub MakesPen : {E : Type 0} → Step (Note E) → View (Note E) ℕ → ℕ → View (Note E) ℕ → Type 0
MakesPen s v found w = (key : ℕ) × (w.1.0 ≡ nib may_make key 0)

-- where 0 was found, the note is the first
abbrev pub AddsFirst : {E : Type 0} → Step (Note E) → View (Note E) ℕ → ℕ → View (Note E) ℕ → Type 0
AddsFirst s v found w = MatchBool (found == s.old) (w.0 ≡ s.ask ∷ []) (Unit {0})

-- so many entries of the word's hand were found
abbrev pub CountsOwn : {E : Type 0} → (E → ℕ) → ℕ → List (Note E) → ℕ → Type 0
CountsOwn by key log found =
    (c : ℕ) → c < 2 ^ 62 → key ≡ c + 1 → length (entries_by by c (entries_of log)) ≡ found

-- what was seen is all that there is
abbrev pub SeesAll : {E : Type 0} → (E → ℕ) → Step (Note E) → View (Note E) ℕ → ℕ
    → View (Note E) ℕ → Type 0
SeesAll by s v found w = (w.0 ≡ v.0) × (w.1.0 ≡ v.1.0) × IsWhole v.0 v.1.0.key
    × CountsOwn by s.key v.0 found

-- where the expected number was found, what was seen was all that there was, and the note was added
abbrev pub AddsNote : {E : Type 0} → (E → ℕ) → Step (Note E) → View (Note E) ℕ → ℕ
    → View (Note E) ℕ → Type 0
AddsNote by s v found w = MatchBool (found == s.old)
    ((w.0 ≡ v.0 ++ s.ask ∷ []) × IsWhole v.0 v.1.0.key × CountsOwn by s.key v.0 found) (Unit {0})
