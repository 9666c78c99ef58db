-- Transcripts: what a plain world writes of a list of events. Source: own.
use Rattle.std.specs.Prelude.{◌≡◌, ◌⊎◌, ℕ, List, [], ◌∷◌, ◌++◌, ◌<◌, ◌≤◌}
use Rattle.nbd_station.specs.declared.event.Event.{Event}
use Rattle.nbd_station.specs.World.{World, Step, Loss}

-- One event, with the count of losses of power before and after it: a step, or a loss, which is
-- only where the count rose.
abbrev pub Move : ℕ → World → Event → List ℕ → ℕ → World → Type 0
Move cuts w event out cuts' w' = (Step w event out w' × (cuts ≤ cuts'))
    ⊎ (Loss w event out w' × (cuts < cuts'))

-- a list of events, one after another
abbrev pub Transcript : ℕ → World → List Event → List ℕ → ℕ → World → Type 0
Transcript cuts w [] out cuts' w' = (out ≡ []) × (cuts' ≡ cuts) × (w' ≡ w)
Transcript cuts w (event ∷ events) out cuts' w' =
    (first : List ℕ) × (rest : List ℕ) × (between : ℕ) × (mid : World)
    × (out ≡ first ++ rest) × Move cuts w event first between mid
    × Transcript between mid events rest cuts' w'

-- the same where the power never goes: steps alone
abbrev pub Plain : World → List Event → List ℕ → World → Type 0
Plain w [] out w' = (out ≡ []) × (w' ≡ w)
Plain w (event ∷ events) out w' =
    (first : List ℕ) × (rest : List ℕ) × (mid : World) × (out ≡ first ++ rest)
    × Step w event first mid × Plain mid events rest w'

-- where no loss of power was counted a transcript is a plain one
abbrev pub PlainWithoutLoss : Type 0
PlainWithoutLoss = (cuts cuts' : ℕ) (w w' : World) (events : List Event) (out : List ℕ)
    → Transcript cuts w events out cuts' w' → cuts' ≡ cuts → Plain w events out w'

-- and of those there is one alone: what is written is a function of the world and the events
abbrev pub OnePlain : Type 0
OnePlain = (w v v' : World) (events : List Event) (out out' : List ℕ) → Plain w events out v
    → Plain w events out' v' → (out ≡ out') × (v ≡ v')
