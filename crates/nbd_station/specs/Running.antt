-- What a run of a station says. Source: own.
use Rattle.std.specs.Prelude.{◌≡◌, ℕ, ◌<◌, List, Option, Result, Ok, Err}
use Rattle.std.specs.Io.KnownBytes.{Appends}
use Rattle.nbd_station.specs.declared.event.Event.{Event}
use Rattle.nbd_station.specs.World.{World}
use Rattle.nbd_station.specs.Transcript.{Transcript}
use Rattle.nbd_station.specs.StationState.{StationState, StationRepresents}
use Rattle.nbd_station.specs.Broken.{Stops}

-- The headline. Where no operation was slow: from each world that the station represented, what was
-- written is a transcript to one that it represents now.
abbrev pub Runs : StationState → StationState → List Event → Option (List ℕ) → Option (List ℕ)
    → Type 0
Runs old new events was is = new.disk.slows ≡ old.disk.slows → (w : World) → StationRepresents old w
    → (w' : World) × (out : List ℕ) × Appends was is out
    × Transcript old.disk.cuts w events out new.disk.cuts w' × StationRepresents new w'

-- The same of a list of events: what was taken is a beginning of a transcript, and the station
-- represents the world that is left.
abbrev pub Ends : StationState → StationState → List Event → Option (List ℕ) → Option (List ℕ)
    → Type 0
Ends old new events was is = new.disk.slows ≡ old.disk.slows → (w : World) → StationRepresents old w
    → (w' : World) × (out : List ℕ) × Appends was is out
    × Stops old.disk.cuts w events out new.disk.cuts w' × StationRepresents new w'

-- the count of failed writes: it rises where the answer is an error, and only there
abbrev pub FailsOnly : {T E : Type 0} → ℕ → Result T E → ℕ → Type 0
FailsOnly old (Ok _) new = new ≡ old
FailsOnly old (Err _) new = old < new
