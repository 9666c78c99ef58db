-- What the steps of a run of a script do. Words of private functions: no claim rests on them.
-- Source: own.
use Rattle.std.specs.Prelude.{◌≡◌, ◌≢◌, ◌⊎◌, ℕ, ◌<◌, ◌≤◌, List, [], ◌∷◌, ◌++◌, length, take, Option}
use Rattle.std.specs.Prelude.{Some, None, Result, Ok, Err}
use Rattle.std.specs.Borrow.{Bor}
use Rattle.std.specs.Int.{to_be_bytes, w32}
use Rattle.std.specs.Io.KnownBytes.{Consumes, IsAtEnd}
use Rattle.nbd_station.specs.declared.event.Event.TheVariants.{Piece}
use Rattle.nbd_station.specs.declared.event.ScriptError.{ScriptError}
use Rattle.nbd_station.specs.declared.event.ScriptError.TheVariants.{Input, BadRecord}
use Rattle.nbd_station.specs.declared.event.ScriptError.TheVariants.{Output as OutputFailed}
use Rattle.nbd_station.specs.declared.script.Form.{Form}
use Rattle.nbd_station.specs.declared.script.Form.TheVariants.{Open as OpenForm, Piece as PieceForm}
use Rattle.nbd_station.specs.declared.script.Form.TheVariants.{Gone as GoneForm, Tidy as TidyForm}
use Rattle.nbd_station.specs.declared.script.Form.TheVariants.{Restore as RestoreForm}
use Rattle.nbd_station.specs.declared.script.Form.TheVariants.{Arm as ArmForm}
use Rattle.nbd_station.specs.StationState.{StationState}
use Rattle.nbd_station.specs.Records.{NO_ONE}
use Rattle.nbd_station.specs.Moving.{Moves, HangsUp}
use Rattle.nbd_station.specs.Script.{Item, line_of, PIECE_LEN, IsAllowed, NoRecord, IsBad}
use Rattle.nbd_station.specs.Script.{ScriptState, Happens, Arms}

-- the counts of failed reads and of failed writes: each rises with its own error, and only there
abbrev pub FailsToRead : {T : Type 0} → ℕ → Result T ScriptError → ℕ → Type 0
FailsToRead old (Ok _) new = new ≡ old
FailsToRead old (Err Input) new = old < new
FailsToRead old (Err BadRecord) new = new ≡ old
FailsToRead old (Err OutputFailed) new = new ≡ old

-- The head of a record is of this form: its first six bytes are.
abbrev pub record_head : Form → List ℕ
record_head (OpenForm who) = 79 ∷ who ∷ to_be_bytes w32 0
record_head (PieceForm who n) = 80 ∷ who ∷ to_be_bytes w32 n
record_head (GoneForm who) = 71 ∷ who ∷ to_be_bytes w32 0
record_head TidyForm = 84 ∷ NO_ONE ∷ to_be_bytes w32 0
record_head RestoreForm = 82 ∷ NO_ONE ∷ to_be_bytes w32 0
record_head ArmForm = 67 ∷ NO_ONE ∷ to_be_bytes w32 6

abbrev pub IsForm : Form → Type 0
IsForm (OpenForm who) = who < 8
IsForm (PieceForm who n) = (who < 8) × (n ≤ PIECE_LEN)
IsForm (GoneForm who) = who < 8
IsForm TidyForm = Unit {0}
IsForm RestoreForm = Unit {0}
IsForm ArmForm = Unit {0}

-- a reader's known bytes lost those that came to the front of the room, which is full but at the
-- end of the input; fewer than fill it where a read failed
abbrev pub Fills : {E : Type 0} → Option (List ℕ) → Result ℕ E → List ℕ → Option (List ℕ) → Type 0
Fills old (Ok n) bytes new = Consumes old new (take n bytes) × (n ≤ length bytes)
    × (n < length bytes → IsAtEnd new)
Fills old (Err _) bytes new = (taken : List ℕ) × Consumes old new taken
    × (length taken < length bytes)

-- what the reading of a head says: a form, or None at the end of the input
abbrev pub ReadsForm : Option (List ℕ) → Result (Option Form) ScriptError → Option (List ℕ) → Type 0
ReadsForm old (Ok None) new = Consumes old new [] × IsAtEnd new
ReadsForm old (Ok (Some form)) new = Consumes old new (record_head form) × IsForm form
ReadsForm old (Err Input) new = (taken : List ℕ) × Consumes old new taken × NoRecord taken
ReadsForm old (Err BadRecord) new = (taken : List ℕ) × Consumes old new taken × IsBad taken new
ReadsForm old (Err OutputFailed) new = ⊥

-- what an item says, done
abbrev pub ItemMoves : Item → StationState → StationState → Option (List ℕ) → Option (List ℕ)
    → Type 0
ItemMoves (Happens event) old new was is = Moves old new event was is
ItemMoves (Arms count kind mask) old new was is = (new ≡ old) × (is ≡ was)

-- what an item says in which the output fails
abbrev pub ItemHangs : Item → StationState → StationState → Option (List ℕ) → Option (List ℕ)
    → Type 0
ItemHangs (Happens event) old new was is = HangsUp old new event was is
ItemHangs (Arms count kind mask) old new was is = ⊥

-- the rest of a record behind a head, and what its item does
abbrev pub FormDoes : Form → StationState → StationState → Option (List ℕ) → Option (List ℕ)
    → Result (Unit {0}) ScriptError → Option (List ℕ) → Option (List ℕ) → Type 0
FormDoes form old new r was (Ok _) r' is =
    (item : Item) × (rest : List ℕ) × IsAllowed item × (line_of item ≡ record_head form ++ rest)
    × Consumes r r' rest × ItemMoves item old new was is
FormDoes form old new r was (Err Input) r' is =
    (taken : List ℕ) × Consumes r r' taken × (new ≡ old) × (is ≡ was)
    × NoRecord (record_head form ++ taken)
FormDoes form old new r was (Err BadRecord) r' is =
    (taken : List ℕ) × Consumes r r' taken × (new ≡ old) × (is ≡ was)
    × IsBad (record_head form ++ taken) r'
FormDoes form old new r was (Err OutputFailed) r' is =
    (item : Item) × (rest : List ℕ) × IsAllowed item × (line_of item ≡ record_head form ++ rest)
    × Consumes r r' rest × ItemHangs item old new was is

-- what the record of a piece of so many bytes does behind its head
abbrev pub PieceDoes : ℕ → ℕ → ScriptState → Result (Unit {0}) ScriptError → ScriptState → Type 0
PieceDoes who len old (Ok _) new =
    (bytes : Bor (List ℕ)) × (length bytes.now ≡ len) × Consumes old.left new.left bytes.now
    × Moves old.station new.station (Piece who bytes) old.written new.written
PieceDoes who len old (Err Input) new =
    (taken : List ℕ) × Consumes old.left new.left taken × (new.station ≡ old.station)
    × (new.written ≡ old.written) × (length taken < len)
PieceDoes who len old (Err BadRecord) new =
    (taken : List ℕ) × Consumes old.left new.left taken × (new.station ≡ old.station)
    × (new.written ≡ old.written) × (length taken < len) × IsAtEnd new.left
PieceDoes who len old (Err OutputFailed) new =
    (bytes : Bor (List ℕ)) × (length bytes.now ≡ len) × Consumes old.left new.left bytes.now
    × HangsUp old.station new.station (Piece who bytes) old.written new.written

-- bytes that say of no arming what it is
abbrev pub ArmsNothing : List ℕ → Type 0
ArmsNothing bytes = (count kind mask : ℕ) → kind < 2
    → bytes ≢ to_be_bytes w32 count ++ kind ∷ mask ∷ []

-- what the record of an arming does behind its head
abbrev pub ArmDoes : Option (List ℕ) → Result (Unit {0}) ScriptError → Option (List ℕ) → Type 0
ArmDoes r (Ok _) r' = (count : ℕ) × (kind : ℕ) × (mask : ℕ) × (kind < 2)
    × Consumes r r' (to_be_bytes w32 count ++ kind ∷ mask ∷ [])
ArmDoes r (Err Input) r' = (taken : List ℕ) × Consumes r r' taken × (length taken < 6)
ArmDoes r (Err BadRecord) r' = (taken : List ℕ) × Consumes r r' taken
    × (((length taken < 6) × IsAtEnd r') ⊎ ((length taken ≡ 6) × ArmsNothing taken))
ArmDoes r (Err OutputFailed) r' = ⊥
