-- What is told of losses and of slow operations, whatever disk it is. Source: own.
use Rattle.std.specs.Prelude.{◌≡◌, ◌⊎◌, ◌<◌, ℕ, true, false, List, [], ◌∷◌, ◌++◌, Option}
use Rattle.std.specs.Prelude.{if◌then◌else◌}
use Rattle.std.specs.Io.KnownBytes.{Appends}
use Rattle.block_device.specs.Facts.{Facts}
use Rattle.nbd_station.specs.declared.event.Event.{Event}
use Rattle.nbd_station.specs.declared.event.Event.TheVariants.{Open, Piece, Gone, Tidy, Restore}
use Rattle.nbd_station.specs.StationState.{StationState}
use Rattle.nbd_station.specs.Records.{DONE, LOST, STUCK, NO_ONE, entry}

-- how a Tidy or a Restore ends: by a loss where a Cut is latched in the disk then, as stuck where a
-- Slow does, and else as done
abbrev pub ending_of : Facts → ℕ
ending_of disk = if disk.cut then LOST else if disk.slow then STUCK else DONE

-- a latched Slow is one that stood, or a slow operation was counted
abbrev pub SlowComes : Facts → Facts → Type 0
SlowComes old new = new.slow ≡ true → (old.slow ≡ true) ⊎ (old.slows < new.slows)

-- a Tidy that ends as done made the work less, or found none
abbrev pub WorkFalls : StationState → StationState → Type 0
WorkFalls old new = old.power ≡ true → new.disk.cut ≡ false → new.disk.slow ≡ false
    → (new.disk.work < old.disk.work) ⊎ (old.disk.work ≡ 0)

-- what an event writes of them; the records of a connection are another matter (`Step`, `Loss`)
abbrev pub EventTells : StationState → Event → List ℕ → StationState → Type 0
EventTells old (Open who) out new = Unit {0}
EventTells old (Piece who bytes) out new = Unit {0}
EventTells old (Gone who) out new = Unit {0}
EventTells old Tidy out new =
    (out ≡ entry NO_ONE (if old.power then ending_of new.disk else LOST) []) × WorkFalls old new
EventTells old Restore out new = out ≡ entry NO_ONE (ending_of new.disk) []

-- an event, by the bytes that it added
abbrev pub EventTold : StationState → Event → Option (List ℕ) → Option (List ℕ) → StationState
    → Type 0
EventTold old event was is new = (out : List ℕ) × Appends was is out × EventTells old event out new
    × SlowComes old.disk new.disk

-- events, one after another
abbrev pub AllTell : StationState → List Event → List ℕ → StationState → Type 0
AllTell old [] out new = (out ≡ []) × (new ≡ old)
AllTell old (event ∷ events) out new =
    (first : List ℕ) × (rest : List ℕ) × (mid : StationState)
    × (out ≡ first ++ rest) × EventTells old event first mid × SlowComes old.disk mid.disk
    × AllTell mid events rest new

abbrev pub AllTold : StationState → List Event → Option (List ℕ) → Option (List ℕ) → StationState
    → Type 0
AllTold old events was is new = (out : List ℕ) × Appends was is out × AllTell old events out new
