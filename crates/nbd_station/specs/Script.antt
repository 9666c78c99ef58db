-- Scripts: events, and arming, as records of bytes. Source: own.
use Rattle.std.specs.Prelude.{◌≡◌, ◌≢◌, ◌⊎◌, ℕ, ◌<◌, ◌≤◌, ◌+◌, ◌^◌, List, [], ◌∷◌, ◌++◌, length}
use Rattle.std.specs.Prelude.{Option, Some, Result, Ok, Err}
use Rattle.std.specs.Int.{to_be_bytes, w32}
use Rattle.std.specs.Io.KnownBytes.{Consumes, IsAtEnd}
use Rattle.nbd_station.specs.declared.event.Event.{Event}
use Rattle.nbd_station.specs.declared.event.Event.TheVariants.{Open, Piece, Gone, Tidy, Restore}
use Rattle.nbd_station.specs.declared.event.ScriptError.{ScriptError}
use Rattle.nbd_station.specs.declared.event.ScriptError.TheVariants.{Input, BadRecord}
use Rattle.nbd_station.specs.declared.event.ScriptError.TheVariants.{Output as OutputFailed}
use Rattle.nbd_station.specs.StationState.{StationState}
use Rattle.nbd_station.specs.Records.{NO_ONE}
use Rattle.nbd_station.specs.Running.{Runs, Ends}

-- what a record of a script asks for
pub data Item : Type 0 where
  -- an event
  Happens : Event → Item
  -- a loss of power is armed: which one from now, what counts, the mask
  Arms : ℕ → ℕ → ℕ → Item

-- a record of a script: the kind, the connection's number, the length of the bytes (32 bits,
-- big-endian), and the bytes
abbrev pub line : ℕ → ℕ → List ℕ → List ℕ
line kind who bytes = (kind ∷ who ∷ []) ++ to_be_bytes w32 (length bytes) ++ bytes

-- the record of an item: O, P, G, T, R and C
abbrev pub line_of : Item → List ℕ
line_of (Happens (Open who)) = line 79 who []
line_of (Happens (Piece who bytes)) = line 80 who bytes.now
line_of (Happens (Gone who)) = line 71 who []
line_of (Happens Tidy) = line 84 NO_ONE []
line_of (Happens Restore) = line 82 NO_ONE []
line_of (Arms count kind mask) = line 67 NO_ONE (to_be_bytes w32 count ++ kind ∷ mask ∷ [])

-- the largest piece in a script, in bytes
abbrev pub PIECE_LEN : ℕ
PIECE_LEN = 65536

-- the items that a script may have
abbrev pub IsAllowed : Item → Type 0
IsAllowed (Happens (Open who)) = who < 8
IsAllowed (Happens (Piece who bytes)) = (who < 8) × (length bytes.now ≤ PIECE_LEN)
IsAllowed (Happens (Gone who)) = who < 8
IsAllowed (Happens Tidy) = Unit {0}
IsAllowed (Happens Restore) = Unit {0}
IsAllowed (Arms count kind mask) = kind < 2

-- a script of these items, and the events among them
abbrev pub script_of : List Item → List ℕ
script_of [] = []
script_of (item ∷ items) = line_of item ++ script_of items

abbrev pub events_in : Item → List Event
events_in (Happens event) = event ∷ []
events_in (Arms count kind mask) = []

abbrev pub events_of : List Item → List Event
events_of [] = []
events_of (item ∷ items) = events_in item ++ events_of items

abbrev pub AreAllowed : List Item → Type 0
AreAllowed [] = Unit {0}
AreAllowed (item ∷ items) = IsAllowed item × AreAllowed items

-- no record of an allowed item stands at the beginning of these bytes
abbrev pub NoRecord : List ℕ → Type 0
NoRecord bytes = (item : Item) → IsAllowed item → (tail : List ℕ) → bytes ≢ line_of item ++ tail

-- These bytes, and what is left of the input behind them, begin with no record of an allowed item:
-- they are of none, or the input ends inside them.
abbrev pub IsBad : List ℕ → Option (List ℕ) → Type 0
IsBad bytes input = (0 < length bytes)
    × ((left : List ℕ) → input ≡ Some left → NoRecord (bytes ++ left))

abbrev pub FailsToWrite : {T : Type 0} → ℕ → Result T ScriptError → ℕ → Type 0
FailsToWrite old (Ok _) new = new ≡ old
FailsToWrite old (Err Input) new = new ≡ old
FailsToWrite old (Err BadRecord) new = new ≡ old
FailsToWrite old (Err OutputFailed) new = old < new

-- of a whole script: the input fails also where it has no end in 2^64 - 1 bytes
abbrev pub FailsToReadAll : {T : Type 0} → Option (List ℕ) → ℕ → Result T ScriptError → ℕ → Type 0
FailsToReadAll input old (Ok _) new = new ≡ old
FailsToReadAll input old (Err Input) new = (old < new)
    ⊎ ((new ≡ old) × ((bytes : List ℕ) → input ≡ Some bytes → 2 ^ 64 ≤ length bytes + 1))
FailsToReadAll input old (Err BadRecord) new = new ≡ old
FailsToReadAll input old (Err OutputFailed) new = new ≡ old

-- where the run of a script stands: the station, what is left of the input, and what the output
-- took
pub record ScriptState : Type 0 where
  pub station : StationState
  pub left : Option (List ℕ)
  pub written : Option (List ℕ)

abbrev pub script_state : StationState → Option (List ℕ) → Option (List ℕ) → ScriptState
script_state station left written = record { station = station; left = left; written = written }

-- What a run of a script says. Ok: the input is a script of allowed items, and their events were
-- run. A bad record: the input begins with a script of allowed items, the events of these were run,
-- and behind them stands no record of an allowed item. Where the input fails: the same, and what
-- was read behind them holds no whole record. Where the output fails: it does so in the last event
-- that was read.
abbrev pub ScriptSays : StationState → StationState → Option (List ℕ) → Option (List ℕ)
    → Result (Unit {0}) ScriptError → Option (List ℕ) → Option (List ℕ) → Type 0
ScriptSays old new r was (Ok _) r' is =
    (items : List Item) × AreAllowed items × Consumes r r' (script_of items) × IsAtEnd r'
    × Runs old new (events_of items) was is
ScriptSays old new r was (Err Input) r' is =
    (items : List Item) × (rest : List ℕ) × AreAllowed items
    × Consumes r r' (script_of items ++ rest) × Runs old new (events_of items) was is
    × NoRecord rest
ScriptSays old new r was (Err BadRecord) r' is =
    (items : List Item) × (rest : List ℕ) × AreAllowed items
    × Consumes r r' (script_of items ++ rest) × Runs old new (events_of items) was is
    × IsBad rest r'
ScriptSays old new r was (Err OutputFailed) r' is =
    (items : List Item) × AreAllowed items × Consumes r r' (script_of items)
    × Ends old new (events_of items) was is
