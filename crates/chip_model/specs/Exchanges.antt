-- The frames that were exchanged with a chip. Source: own.
use Rattle.std.specs.Prelude.{◌≡◌, ℕ, List, [], ◌∷◌, ◌++◌, length, Option, Some}
use Rattle.chip_model.specs.declared.programmer.Turn.{Turn}

-- one frame: the bytes that were sent, and those that were received
pub record Exchange : Type 0 where
  pub sent : List ℕ
  pub received : List ℕ

-- where it is known which frames were exchanged, it is these more now
abbrev pub Exchanged : Option (List Exchange) → Option (List Exchange) → List Exchange → Type 0
Exchanged old new more = (log : List Exchange) → old ≡ Some log → new ≡ Some (log ++ more)

-- the frames of a list of turns
abbrev pub turned : List Turn → List Exchange
turned [] = []
turned (t ∷ ts) = record { sent = t.send.items; received = t.recv.items } ∷ turned ts

-- the bytes that each turn sends
abbrev pub sends_of : List Turn → List (List ℕ)
sends_of [] = []
sends_of (t ∷ ts) = t.send.items ∷ sends_of ts

-- how many bytes each turn receives
abbrev pub sizes_of : List Turn → List ℕ
sizes_of [] = []
sizes_of (t ∷ ts) = length t.recv.items ∷ sizes_of ts
