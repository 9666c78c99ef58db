-- The state of a connection: its door, its pass, its gate and its writer. Source: own.
use Rattle.std.specs.Prelude.{ℕ, ◌+◌, List, [], ◌∷◌, ◌++◌, Bool, Option}
use Rattle.nbd_wire.specs.declared.export.Export.{Export}
use Rattle.nbd_wire.specs.declared.command.Command.{Command}
use Rattle.nbd_wire.specs.declared.phase.Phase.{Phase}
use Rattle.nbd_session.specs.Parts.{Part, Told, ForDisk, Last}
use Rattle.nbd_share.specs.declared.door.Point.{Point}
use Rattle.nbd_share.specs.declared.door.Point.TheVariants.{Read, Execute, Tidy}
use Rattle.nbd_share.specs.declared.shared.Done.{Done}
use Rattle.nbd_share.specs.Promise.{Promise}
use Rattle.nbd_share.specs.PassState.{PassState}

-- a door, and what the pass at it shows
pub record DoorState (S : Type 0) : Type 0 where
  pub door : S
  pub pass : PassState

-- a door and its pass, the gate before it, what the writer has taken, and how many of its calls
-- failed
pub record ConnectionState (S G : Type 0) : Type 0 where
  pub place : DoorState S
  pub gate : G
  pub written : Option (List ℕ)
  pub failures : ℕ

abbrev pub state_at : {S G : Type 0} → S → PassState → G → Option (List ℕ) → ℕ → ConnectionState S G
state_at door pass gate written failures =
    record {
      place = record { door = door; pass = pass };
      gate = gate;
      written = written;
      failures = failures;
    }

-- the phase in which a connection begins, and its export
pub record Setting : Type 0 where
  pub start : Phase
  pub export : Export

abbrev pub setting : Phase → Export → Setting
setting start export = record { start = start; export = export }

-- what a reader had and has left, and how many of its calls had and have failed
pub record Reading : Type 0 where
  pub had : Option (List ℕ)
  pub left : Option (List ℕ)
  pub failed : ℕ
  pub fails : ℕ

abbrev pub reading : Option (List ℕ) → Option (List ℕ) → ℕ → ℕ → Reading
reading had left failed fails = record { had = had; left = left; failed = failed; fails = fails }

-- one command through a door, by what the door's `execute` does and by what every door promises
abbrev pub through : {S : Type 0}
    → (S → S → PassState → PassState → Command → List ℕ → Done → Type 0) → Bool
    → DoorState S → DoorState S → Command → List ℕ → Done → Type 0
through executes keeps a b command bytes done =
    executes a.door b.door a.pass b.pass command bytes done
    × Promise keeps a.pass b.pass command bytes done

-- ---- points

abbrev pub read_count : Point → ℕ
read_count Read = 1
read_count Execute = 0
read_count Tidy = 0

abbrev pub execute_count : Point → ℕ
execute_count Read = 0
execute_count Execute = 1
execute_count Tidy = 0

-- how often Read was passed
abbrev pub reads : List Point → ℕ
reads [] = 0
reads (point ∷ points) = read_count point + reads points

-- how often Execute was passed
abbrev pub executions : List Point → ℕ
executions [] = 0
executions (point ∷ points) = execute_count point + executions points

-- how many of the parts are commands
abbrev pub asks : List Part → ℕ
asks [] = 0
asks (Told reply ∷ parts) = asks parts
asks (ForDisk command payload ∷ parts) = 1 + asks parts
asks (Last reply ∷ parts) = asks parts

-- these points more were passed
abbrev pub PassesMore : {G : Type 0} → (G → G → List Point → Type 0) → G → G → List Point → Type 0
PassesMore {G = G} passes old new more =
    (first : G) (points : List Point) → passes first old points → passes first new (points ++ more)
