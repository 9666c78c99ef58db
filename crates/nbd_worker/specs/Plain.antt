-- The replies that a plain array of sectors gives to the parts of a connection's text. Source: own.
use Rattle.std.specs.Prelude.{◌≡◌, ◌⊎◌, ◌↔◌, ℕ, List, [], ◌∷◌, ◌++◌, Bool, true, false, Option}
use Rattle.std.specs.Io.KnownBytes.{Appends}
use Rattle.nbd_wire.specs.declared.export.Export.{Export}
use Rattle.nbd_wire.specs.declared.command.Command.{Command}
use Rattle.nbd_wire.specs.Numbers.{ENOMEM}
use Rattle.nbd_wire.specs.declared.phase.Phase.{Phase}
use Rattle.nbd_wire.specs.declared.phase.Phase.TheVariants.{Transmitting}
use Rattle.nbd_wire.specs.Units.{Splits}
use Rattle.nbd_transmission.specs.Apply.{after_units, changed_by, data_of, head_of, unit_replies}
use Rattle.nbd_session.specs.Sessions.{opening}
use Rattle.nbd_session.specs.Parts.{Part, Told, ForDisk, Last, IsPartsOf, closed, parts_from}
use Rattle.nbd_worker.specs.declared.attending.End.{End}
use Rattle.nbd_worker.specs.declared.attending.End.TheVariants.{Closed as ClosedEnd, EndOfInput}
use Rattle.nbd_worker.specs.declared.attending.End.TheVariants.{Input}
use Rattle.nbd_worker.specs.declared.attending.End.TheVariants.{Output, Lost, OutOfMemory}
use Rattle.nbd_share.specs.declared.shared.Done.{Done}
use Rattle.nbd_share.specs.Doing.{Executes}
use Rattle.nbd_worker.specs.ConnectionState.{DoorState, Setting, through}
use Rattle.nbd_share.specs.State.{Served}

-- one command through a server that no other connection shares
abbrev pub of_server : Bool → DoorState Served → DoorState Served → Command → List ℕ → Done → Type 0
of_server keeps a b command bytes done =
    through (λ old new pass pass' command bytes done.
    Executes keeps old new pass pass' command bytes done) keeps a b command bytes done

-- a server whose disk is sound, and in which neither a Cut nor a Slow is latched
pub record IsServerQuiet (s : Served) : Type 0 where
  pub sound : s.disk.sound ≡ true
  pub cut : s.disk.cut ≡ false
  pub slow : s.disk.slow ≡ false

-- What the array makes of a command: its data, and its contents after it. Where rows are kept,
-- there may be no memory for the row: the command is answered ENOMEM and changes nothing.
abbrev pub RunsPlainly : Bool → List ℕ → Command → List ℕ → List ℕ → List ℕ → Type 0
RunsPlainly keeps contents command payload out contents' =
    ((out ≡ head_of command 0 ++ data_of contents command)
    × (contents' ≡ changed_by contents command payload))
    ⊎ ((keeps ≡ true) × (out ≡ head_of command ENOMEM) × (contents' ≡ contents))

-- One part is answered so: what the connection answers alone leaves the contents.
abbrev pub RepliesToPart : Bool → List ℕ → Part → List ℕ → List ℕ → Type 0
RepliesToPart keeps contents (Told reply) out contents' = (out ≡ reply) × (contents' ≡ contents)
RepliesToPart keeps contents (ForDisk command payload) out contents' =
    RunsPlainly keeps contents command payload out contents'
RepliesToPart keeps contents (Last reply) out contents' = (out ≡ reply) × (contents' ≡ contents)

-- The parts, one after another, are answered so.
abbrev pub RepliesToParts : Bool → List ℕ → List Part → List ℕ → List ℕ → Type 0
RepliesToParts keeps contents [] out contents' = (out ≡ []) × (contents' ≡ contents)
RepliesToParts keeps contents (part ∷ more) out contents' =
    (first : List ℕ) × (others : List ℕ) × (mid : List ℕ) × (out ≡ first ++ others)
    × RepliesToPart keeps contents part first mid × RepliesToParts keeps mid more others contents'

-- All parts of the input are answered, up to one that closes, and all replies are written after the
-- opening.
pub record AnswersAll (keeps : Bool) (setting : Setting) (contents contents' input : List ℕ)
    (old new : Option (List ℕ)) (closes : Bool) : Type 0 where
  pub parts : List Part
  pub out : List ℕ
  pub parts_are : IsPartsOf setting.start setting.export input parts
  pub closes_is : closed parts ≡ closes
  pub replies : RepliesToParts keeps contents parts out contents'
  pub wrote : Appends old new (opening setting.start ++ out)

-- Some first parts of the input are answered, and a beginning of the opening and their replies is
-- written.
pub record AnswersSome (keeps : Bool) (setting : Setting) (contents contents' input : List ℕ)
    (old new : Option (List ℕ)) : Type 0 where
  pub cut : List ℕ
  pub parts : List Part
  pub others : List ℕ
  pub out : List ℕ
  pub sent : List ℕ
  pub unsent : List ℕ
  pub input_is : input ≡ cut ++ others
  pub parts_are : IsPartsOf setting.start setting.export cut parts
  pub replies : RepliesToParts keeps contents parts out contents'
  pub out_is : opening setting.start ++ out ≡ sent ++ unsent
  pub wrote : Appends old new sent

-- What a connection to a plain array says of an input, by its end. Lost is none, and want of memory
-- for the buffers comes before anything is read or written.
abbrev pub PlainBy : Bool → Setting → List ℕ → List ℕ → List ℕ → Option (List ℕ) → Option (List ℕ)
    → End → Type 0
PlainBy keeps setting contents contents' input old new ClosedEnd =
    AnswersAll keeps setting contents contents' input old new true
PlainBy keeps setting contents contents' input old new EndOfInput =
    AnswersAll keeps setting contents contents' input old new false
PlainBy keeps setting contents contents' input old new Input =
    AnswersSome keeps setting contents contents' input old new
PlainBy keeps setting contents contents' input old new Output =
    AnswersSome keeps setting contents contents' input old new
PlainBy keeps setting contents contents' input old new Lost = ⊥
PlainBy keeps setting contents contents' input old new OutOfMemory =
    (contents' ≡ contents) × Appends old new []

-- Where no rows are kept, the replies to the parts of a connection that begins with its requests
-- are those that the definitions of `nbd_transmission` give to its units, and so are the contents
-- after them.
abbrev pub RepliesAreOfUnits : Type 0
RepliesAreOfUnits =
    (export : Export) (text : List ℕ) (units : List (List ℕ)) (rest : List ℕ) (end : Phase)
    → Splits Transmitting text units rest end → (contents out contents' : List ℕ)
    → RepliesToParts false contents (parts_from export Transmitting units) out contents'
    ↔ ((out ≡ unit_replies export contents units)
    × (contents' ≡ after_units export contents units))
