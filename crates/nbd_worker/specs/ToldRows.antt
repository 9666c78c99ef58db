-- The rows of one connection in the history of its server. Source: own.
use Rattle.std.specs.Prelude.{◌≡◌, ◌⊎◌, ℕ, List, [], ◌∷◌, ◌++◌, true, false}
use mathlib.Core.List.{IsPrefix}
use Rattle.nbd_history.specs.Notes.{Sight, entries_by}
use Rattle.nbd_wire.specs.declared.command.Command.{Command}
use Rattle.nbd_wire.specs.Numbers.{ENOMEM}
use Rattle.nbd_session.specs.Parts.{Part, Told, ForDisk, Last}
use Rattle.nbd_share.specs.declared.recorder.Row.{Row}
use Rattle.nbd_worker.specs.Connection.{PartsAnsweredBy, answer_bytes}
use Rattle.nbd_share.specs.History.{row_of, IsLegal}
use Rattle.nbd_share.specs.Locking.{ExecutesLocked, Start, connection_of}
use Rattle.nbd_worker.specs.ConnectionState.{DoorState, through}
use Rattle.nbd_share.specs.State.{Reply}

-- The row of a command that was answered with these bytes; none where there was no memory for it.
pub record IsRowOf (by : ℕ) (command : Command) (out : List ℕ) (rows : List Row) : Type 0 where
  pub reply : Reply
  pub out_is : out ≡ answer_bytes reply
  pub command_is : reply.command ≡ command
  pub rows_are : ((reply.error ≡ ENOMEM) × (rows ≡ []))
      ⊎ (rows ≡ row_of by command reply.error reply.bytes ∷ [])

-- The rows of the commands among these parts, in order, with exactly the replies that were written.
abbrev pub IsRowsOf : ℕ → List Part → List ℕ → List Row → Type 0
IsRowsOf by [] out rows = (out ≡ []) × (rows ≡ [])
IsRowsOf by (Told reply ∷ parts) out rows =
    (others : List ℕ) × (out ≡ reply ++ others) × IsRowsOf by parts others rows
IsRowsOf by (ForDisk command payload ∷ parts) out rows =
    (first : List ℕ) × (others : List ℕ) × (mine : List Row) × (more : List Row)
    × (out ≡ first ++ others) × (rows ≡ mine ++ more) × IsRowOf by command first mine
    × IsRowsOf by parts others more
IsRowsOf by (Last reply ∷ parts) out rows =
    (others : List ℕ) × (out ≡ reply ++ others) × IsRowsOf by parts others rows

-- From one sight of the history to a later one, over parts that were answered with these bytes: the
-- later begins with the earlier, and its rows of this connection are those of before and then those
-- of the parts, no more and no less. It is a legal history of what the disk held at its start.
pub record HasRows (start : Start) (v w : Sight Row) (parts : List Part)
    (out : List ℕ) : Type 0 where
  pub rows : List Row
  pub rows_are : IsRowsOf v.by parts out rows
  pub by : w.by ≡ v.by
  pub before : IsPrefix v.seen w.seen
  pub own : entries_by connection_of v.by w.seen ≡ entries_by connection_of v.by v.seen ++ rows
  pub legal : start.sound ≡ true → IsLegal start.export start.base false v.seen
      → IsLegal start.export start.base false w.seen

-- so it is with all parts of a connection that go through a door with a lock
abbrev pub PartsAreTold : Type 0
PartsAreTold =
    (start : Start) (a b : DoorState (Sight Row)) (parts : List Part) (out : List ℕ)
    → PartsAnsweredBy (through (ExecutesLocked start) start.keeps) a parts out b
    → HasRows start a.door b.door parts out
