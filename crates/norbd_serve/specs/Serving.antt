-- What came of the connections that were served. Source: own.
use Rattle.std.specs.Prelude.{◌≡◌, ℕ, List, [], ◌∷◌, ◌++◌, Bool, true, false, if◌then◌else◌}
use Rattle.std.specs.Prelude.{MatchBool, Option, Some, None, Result, vec_len}
use Rattle.block_device.specs.declared.disk.DiskError.{DiskError}
use Rattle.nbd_history.specs.Notes.{Sight}
use Rattle.nbd_wire.specs.declared.export.Export.{Export}
use Rattle.nbd_wire.specs.declared.phase.Phase.TheVariants.{AwaitingFlags}
use Rattle.nbd_share.specs.declared.recorder.Row.{Row}
use Rattle.nbd_share.specs.declared.door.Point.{Point}
use Rattle.nbd_share.specs.History.{IsLegal}
use Rattle.nbd_share.specs.Locking.{ExecutesLocked, Start, TidiesLocked}
use Rattle.nbd_share.specs.PassState.{PassState}
use Rattle.nbd_worker.specs.declared.attending.End.{End}
use Rattle.nbd_worker.specs.declared.attending.End.TheVariants.{Closed, EndOfInput, Input, Output}
use Rattle.nbd_worker.specs.declared.attending.End.TheVariants.{Lost}
use Rattle.nbd_worker.specs.declared.attending.End.TheVariants.{OutOfMemory}
use Rattle.nbd_worker.specs.Connection.{Connection}
use Rattle.nbd_worker.specs.ConnectionState.{ConnectionState, Reading, setting, state_at, through}
use Rattle.nbd_worker.specs.Sweeping.{KeeperRun}
use Rattle.nbd_worker.specs.ToldRows.{HasRows}
use Rattle.norbd_serve.specs.declared.kept.Served.{Served}

-- the connection ended since a command was lost
abbrev pub is_lost : End → Bool
is_lost Closed = false
is_lost EndOfInput = false
is_lost Input = false
is_lost Output = false
is_lost Lost = true
is_lost OutOfMemory = false

-- one of them did
abbrev pub has_lost : List End → Bool
has_lost [] = false
has_lost (end ∷ more) = if is_lost end then true else has_lost more

-- a connection that is to begin: its pass, and its hand
pub record Entitled : Type 0 where
  pub pass : PassState
  pub hand : Sight Row

-- a connection that ended: its pass, how it ended, what its hand knows of the history, its gate,
-- and the bytes that its socket took
pub record Attended (G : Type 0) : Type 0 where
  pub pass : PassState
  pub end : End
  pub hand : Sight Row
  pub gate : G
  pub sent : List ℕ

-- a connection before its first byte, and one after its end, where so many writes failed
abbrev pub state_before : {G : Type 0} → Entitled → G → ConnectionState (Sight Row) G
state_before rights gate = state_at rights.hand rights.pass gate (Some []) 0

abbrev pub state_after : {G : Type 0} → Attended G → ℕ → ConnectionState (Sight Row) G
state_after a failures = state_at a.hand a.pass a.gate (Some a.sent) failures

-- How a connection was served, of whose text it is said that it was read: its commands went through
-- the lock, what its socket took is the opening and the replies, or a beginning of these, and its
-- hand has the rows of the answered parts.
pub record Attends {G : Type 0} (start : Start) (passes : G → G → List Point → Type 0)
    (rights : Entitled) (gate : G) (result : Attended G) : Type 0 where
  pub failures : ℕ
  pub read : Reading
  pub says : Connection (through (ExecutesLocked start) start.keeps) passes
      (setting AwaitingFlags start.export) (state_before rights gate)
      (state_after result failures) read result.end
  pub rows : HasRows start rights.hand says.over.last.door says.over.parts says.over.out

-- what each of these hands has seen is a legal history of this export of a disk that held these
-- contents
abbrev pub AreLegal : Export → List ℕ → List (Sight Row) → Type 0
AreLegal export base [] = Unit {0}
AreLegal export base (hand ∷ hands) =
    IsLegal export base false hand.seen × AreLegal export base hands

-- How the keeper ended: each of its steps was one under the lock. It was stopped, or hands out the
-- error of its last step.
abbrev pub KeeperEnds : Start → Result (Unit {0}) DiskError → Type 0
KeeperEnds start result = KeeperRun (λ (old new : Unit {0}) answer. TidiesLocked start answer)
    (λ (old new : Unit {0}) points. Unit {0}) tt tt tt tt result

-- what is kept of the connections that ended: their passes, their ends and what their hands know,
-- whether all are kept, and whether a command was lost
pub record Keeping : Type 0 where
  pub passes : List PassState
  pub ends : List End
  pub hands : List (Sight Row)
  pub is_whole : Bool
  pub is_lost : Bool

-- One more is kept; where there is no memory for it not all are.
pub record KeepsOne (old new : Keeping) (pass : PassState) (end : End) (hand : Sight Row) : Type 0
  where
    pub lost : new.is_lost ≡ old.is_lost
    pub whole : new.is_whole ≡ true → old.is_whole ≡ true
    pub passes : new.is_whole ≡ true → new.passes ≡ old.passes ++ pass ∷ []
    pub ends : new.is_whole ≡ true → new.ends ≡ old.ends ++ end ∷ []
    pub hands : new.is_whole ≡ true → new.hands ≡ old.hands ++ hand ∷ []

-- A connection that ended is kept where all are; of one that ended by a lost command, that alone.
abbrev pub SettlesConnection : {G : Type 0} → Bool → Keeping → Attended G → Keeping → Type 0
SettlesConnection keeps old a new = MatchBool (is_lost a.end) (new ≡ record old { is_lost = true })
    (MatchBool keeps (KeepsOne old new a.pass a.end a.hand) (new ≡ old))

-- So many connections were served: the pass of each came back, how it ended, and what its hand
-- knows of the server's history; none ended by a lost command.
pub record Returns {L : Type 0} (sound : Bool) (export : Export) (base : List ℕ) (count : ℕ)
    (served : Served L) : Type 0 where
  pub passes : vec_len served.passes ≡ count
  pub ends : vec_len served.ends ≡ count
  pub hands : vec_len served.hands ≡ count
  pub none_lost : has_lost served.ends.items ≡ false
  pub legal : sound ≡ true → AreLegal export base served.hands.items

-- As many as were asked for were served. Where no number was, serving never ends well.
abbrev pub ReturnsAsked : {L : Type 0} → Bool → Export → List ℕ → Option ℕ → Served L → Type 0
ReturnsAsked sound export base None served = ⊥
ReturnsAsked sound export base (Some count) served = Returns sound export base count served
