-- What a step of a station says of one event. Words of private functions: no claim rests on them.
-- Source: own.
use Rattle.std.specs.Prelude.{◌≡◌, ℕ, List, Option, Result, Ok, Err}
use Rattle.std.specs.Io.KnownBytes.{Appends}
use Rattle.nbd_station.specs.declared.event.Event.{Event}
use Rattle.nbd_station.specs.World.{World}
use Rattle.nbd_station.specs.Transcript.{Move}
use Rattle.nbd_station.specs.StationState.{StationState, DiskRepresents, StationRepresents}
use Rattle.nbd_station.specs.Broken.{Breaks}

-- Where no operation was slow: from each world that the station represented, what was written is a
-- move to one that it represents now.
abbrev pub Moves : StationState → StationState → Event → Option (List ℕ) → Option (List ℕ) → Type 0
Moves old new event was is = new.disk.slows ≡ old.disk.slows → (w : World) → StationRepresents old w
    → (w' : World) × (out : List ℕ) × Appends was is out
    × Move old.disk.cuts w event out new.disk.cuts w' × StationRepresents new w'

-- The output failed in an event: from each world what was taken is a beginning of a move.
abbrev pub Halts : StationState → StationState → Event → Option (List ℕ) → Option (List ℕ) → Type 0
Halts old new event was is = new.disk.slows ≡ old.disk.slows → (w : World) → StationRepresents old w
    → (w' : World) × (out : List ℕ) × Appends was is out
    × Breaks old.disk.cuts w event out new.disk.cuts w' × DiskRepresents new w'

-- the same, and the station represents the world that is left, in which every connection is closed
abbrev pub HangsUp : StationState → StationState → Event → Option (List ℕ) → Option (List ℕ)
    → Type 0
HangsUp old new event was is = new.disk.slows ≡ old.disk.slows → (w : World)
    → StationRepresents old w
    → (w' : World) × (out : List ℕ) × Appends was is out
    × Breaks old.disk.cuts w event out new.disk.cuts w' × StationRepresents new w'

-- what one event says, by its answer
abbrev pub Does : {T E : Type 0} → StationState → StationState → Event → Option (List ℕ)
    → Result T E
    → Option (List ℕ) → Type 0
Does old new event was (Ok _) is = Moves old new event was is
Does old new event was (Err _) is = Halts old new event was is
