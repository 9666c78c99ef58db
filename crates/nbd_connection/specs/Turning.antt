-- What a turn and a piece of a connection do, over a peer, by what its two calls do. Source: own.
use Rattle.std.specs.Prelude.{◌≡◌, ◌⊎◌, ℕ, Bool, true, false, List, [], ◌∷◌, ◌++◌}
use Rattle.std.specs.Prelude.{take, drop}
use Rattle.nbd_wire.specs.declared.command.Command.{Command}
use Rattle.nbd_wire.specs.declared.phase.Phase.{Phase}
use Rattle.nbd_wire.specs.Lent.{payload_in}
use Rattle.nbd_session.specs.Sessions.{SessionState, SessionRepresents, is_closed}
use Rattle.nbd_session.specs.Parts.{Part, Told, ForDisk, Last, Gains, closed, closes}
use Rattle.nbd_connection.specs.declared.piece.Fate.{Fate}
use Rattle.nbd_connection.specs.declared.piece.Fate.TheVariants.{Replied, Untaken, Lost}
use Rattle.nbd_connection.specs.declared.piece.PieceOutcome.{PieceOutcome}
use Rattle.nbd_connection.specs.declared.piece.PieceOutcome.TheVariants.{Open, Closed, OutputFailed}
use Rattle.nbd_connection.specs.declared.piece.PieceOutcome.TheVariants.{Lost as LostPiece}

-- A command was answered over lent bytes with this payload.
pub record CommandBy {P : Type 0} (answers : P → P → Command → List ℕ → Fate → Type 0) (a b : P)
    (command : Command) (payload : List ℕ) (fate : Fate) : Type 0 where
  pub bytes : List ℕ
  pub payload_is : payload_in command bytes ≡ payload
  pub run : answers a b command bytes fate

-- how a command's reply was taken
abbrev pub fate_of : Bool → Fate
fate_of true = Replied
fate_of false = Untaken

-- One part is answered: a command by `answers`, all else by `tells`.
abbrev pub PartBy : {P : Type 0} → (P → P → Command → List ℕ → Fate → Type 0)
    → (P → P → List ℕ → Bool → Type 0) → P → P → Part → Bool → Type 0
PartBy answers tells a b (Told reply) taken = tells a b reply taken
PartBy answers tells a b (ForDisk command payload) taken =
    CommandBy answers a b command payload (fate_of taken)
PartBy answers tells a b (Last reply) taken = tells a b reply taken

-- a command is lost
abbrev pub LosesPart : {P : Type 0} → (P → P → Command → List ℕ → Fate → Type 0) → P → P → Part
    → Type 0
LosesPart answers a b (Told reply) = ⊥
LosesPart answers a b (ForDisk command payload) = CommandBy answers a b command payload Lost
LosesPart answers a b (Last reply) = ⊥

-- one part is answered whole, and it closes the connection or doesn't
abbrev pub OnePart : {P : Type 0} → (P → P → Command → List ℕ → Fate → Type 0)
    → (P → P → List ℕ → Bool → Type 0) → P → P → List Part → Bool → Type 0
OnePart answers tells a b added last = (part : Part) × (added ≡ part ∷ [])
    × (closes part ≡ last) × PartBy answers tells a b part true

-- What became of the parts that a turn added, which left these bytes. Where the connection stays
-- open all bytes are used and no unit is complete, or one unit is answered.
abbrev pub TurnBy : {P : Type 0} → (P → P → Command → List ℕ → Fate → Type 0)
    → (P → P → List ℕ → Bool → Type 0) → P → P → List Part → List ℕ → PieceOutcome → Type 0
TurnBy answers tells a b added left Open =
    ((added ≡ []) × (b ≡ a) × (left ≡ [])) ⊎ OnePart answers tells a b added false
TurnBy answers tells a b added left Closed = OnePart answers tells a b added true
TurnBy answers tells a b added left OutputFailed = (part : Part) × (added ≡ part ∷ [])
    × PartBy answers tells a b part false
TurnBy answers tells a b added left LostPiece = (part : Part) × (added ≡ part ∷ [])
    × LosesPart answers a b part

-- a session's text grows by these bytes and gains these parts
abbrev pub GrowsBy : SessionState → SessionState → List ℕ → List Part → Type 0
GrowsBy old new bytes added =
    (start : Phase) (text : List ℕ) → is_closed old ≡ false → SessionRepresents start old text
    → Gains start old.export text (text ++ bytes) added
    × SessionRepresents start new (text ++ bytes)

-- a turn after which the connection goes on
abbrev pub goes_on : PieceOutcome → Bool
goes_on Open = true
goes_on Closed = false
goes_on OutputFailed = false
goes_on LostPiece = false

-- what one turn does with these bytes, by how many it took and how far the connection came
pub record TurnTaken {P : Type 0} (answers : P → P → Command → List ℕ → Fate → Type 0)
    (tells : P → P → List ℕ → Bool → Type 0) (a b : P) (old new : SessionState) (bytes : List ℕ)
    (result : ℕ × PieceOutcome) : Type 0 where
  pub added : List Part
  pub grows : GrowsBy old new (take result.0 bytes) added
  pub does : TurnBy answers tells a b added (drop result.0 bytes) result.1

-- Parts are answered one after another, each whole.
abbrev pub PartsBy : {P : Type 0} → (P → P → Command → List ℕ → Fate → Type 0)
    → (P → P → List ℕ → Bool → Type 0) → P → P → List Part → Type 0
PartsBy answers tells a b [] = b ≡ a
PartsBy {P = P} answers tells a b (part ∷ more) =
    (mid : P) × PartBy answers tells a mid part true × PartsBy answers tells mid b more

-- how far a piece came: the bytes of the parts that were answered whole, these parts, the peer
-- behind them, and the other bytes
pub record Reached (P : Type 0) : Type 0 where
  pub done : List ℕ
  pub parts : List Part
  pub peer : P
  pub ahead : List ℕ

-- what a session's text gains by these bytes
abbrev pub GainsBy : SessionState → List ℕ → List Part → Type 0
GainsBy old bytes added = (start : Phase) (text : List ℕ) → is_closed old ≡ false
    → SessionRepresents start old text → Gains start old.export text (text ++ bytes) added

-- the part behind those that were answered whole, in which the connection ends
pub record EndsIn {P : Type 0} (old : SessionState) (reached : Reached P)
    (last : Part → Type 0) : Type 0 where
  pub unit : List ℕ
  pub others : List ℕ
  pub part : Part
  pub ahead_is : reached.ahead ≡ unit ++ others
  pub gains : (start : Phase) (text : List ℕ) → is_closed old ≡ false
      → SessionRepresents start old text
      → Gains start old.export (text ++ reached.done) ((text ++ reached.done) ++ unit) (part ∷ [])
  pub ends : last part

-- What each progress says of where a piece stops: where the connection stays open all bytes are
-- used, and the session represents the longer text.
abbrev pub OutcomeBy : {P : Type 0} → (P → P → Command → List ℕ → Fate → Type 0)
    → (P → P → List ℕ → Bool → Type 0) → Reached P → P → SessionState → SessionState → PieceOutcome
    → Type 0
OutcomeBy answers tells reached b old new Open =
    (closed reached.parts ≡ false) × (b ≡ reached.peer) × (reached.ahead ≡ [])
    × ((start : Phase) (text : List ℕ) → is_closed old ≡ false → SessionRepresents start old text
    → SessionRepresents start new (text ++ reached.done))
OutcomeBy answers tells reached b old new Closed =
    (closed reached.parts ≡ true) × (b ≡ reached.peer)
OutcomeBy answers tells reached b old new OutputFailed = (closed reached.parts ≡ false)
    × EndsIn old reached (λ part. PartBy answers tells reached.peer b part false)
OutcomeBy answers tells reached b old new LostPiece = (closed reached.parts ≡ false)
    × EndsIn old reached (λ part. LosesPart answers reached.peer b part)

-- What a piece does: the parts of its first bytes are answered whole, one after another.
pub record PieceTaken {P : Type 0} (answers : P → P → Command → List ℕ → Fate → Type 0)
    (tells : P → P → List ℕ → Bool → Type 0) (a b : P) (old new : SessionState) (bytes : List ℕ)
    (progress : PieceOutcome) : Type 0 where
  pub reached : Reached P
  pub bytes_are : bytes ≡ reached.done ++ reached.ahead
  pub gains : GainsBy old reached.done reached.parts
  pub runs : PartsBy answers tells a reached.peer reached.parts
  pub ends : OutcomeBy answers tells reached b old new progress
