-- The plain world: an array of sectors, its power and eight connections; what an event does to it,
-- and what a loss of power in an event may. Nothing of a chip is said here. Source: own.
use Rattle.std.specs.Prelude.{◌≡◌, ◌≢◌, ◌⊎◌, ℕ, Bool, true, false, List, [], ◌∷◌, ◌++◌, ◌<◌, ◌≤◌}
use Rattle.std.specs.Prelude.{Option, None, Some, MatchOption, MatchBool, replicate, slice_set}
use Rattle.std.specs.Prelude.{if◌then◌else◌}
use Rattle.std.proofs.Common.{get_or}
use Rattle.nbd_wire.specs.declared.export.Export.{Export}
use Rattle.block_device.specs.Contents.{Outcome}
use Rattle.nbd_wire.specs.declared.command.Command.{Command}
use Rattle.nbd_wire.specs.Commands.{touches_chip}
use Rattle.nbd_handshake.specs.Greeting.{greeting_bytes}
use Rattle.nbd_transmission.specs.Apply.{applied}
use Rattle.nbd_wire.specs.declared.phase.Phase.TheVariants.{AwaitingFlags}
use Rattle.nbd_session.specs.Parts.{Part, ForDisk, Gains, closed}
use Rattle.nbd_station.specs.declared.event.Event.{Event}
use Rattle.nbd_station.specs.declared.event.Event.TheVariants.{Open, Piece, Gone, Tidy, Restore}
use Rattle.nbd_station.specs.Answers.{after_parts, replies}
use Rattle.nbd_station.specs.Records.{DONE, SHUT, LOST, ABSENT, NO_ONE, entry, replied}

-- an export, the contents of its disk, whether the power is on, and for each of eight
-- connections its whole text so far where it is open
pub record World : Type 0 where
  pub export : Export
  pub disk : List ℕ
  pub power : Bool
  pub texts : List (Option (List ℕ))

-- the text of a connection, None where it is closed or there is none of this number
abbrev pub text_at : World → ℕ → Option (List ℕ)
text_at w who = get_or w.texts who None

abbrev pub with_text : World → ℕ → Option (List ℕ) → World
with_text w who text = record w { texts = slice_set w.texts who text }

-- the same disk with every connection closed
abbrev pub hung_up : World → World
hung_up w = record w { texts = replicate 8 None }

-- these contents without power, and every connection closed
abbrev pub dark : World → List ℕ → World
dark w disk = record { export = w.export; disk = disk; power = false; texts = replicate 8 None }

-- an event that is answered so, and changes nothing
abbrev pub Ignores : World → ℕ → ℕ → List ℕ → World → Type 0
Ignores w who kind out w' = (out ≡ entry who kind []) × (w' ≡ w)

-- these are the parts that a text lacked and has with these bytes behind it
abbrev pub Lacked : Export → List ℕ → List ℕ → List Part → Type 0
Lacked export text bytes more = Gains AwaitingFlags export text (text ++ bytes) more

-- A piece on a connection that is open: the parts that its text lacked are answered in order, and
-- after one that closes the connection is closed.
pub record AnswersPiece (w : World) (who : ℕ) (text bytes out : List ℕ) (w' : World) : Type 0 where
  pub more : List Part
  pub lacked : Lacked w.export text bytes more
  pub wrote : out ≡ replies w.export who w.disk more
      ++ entry who (if closed more then SHUT else DONE) []
  pub world : w' ≡ record {
    export = w.export;
    disk = after_parts w.export w.disk more;
    power = true;
    texts = slice_set w.texts who (if closed more then None else Some (text ++ bytes));
  }

-- an event with power on
abbrev pub Powered : World → Event → List ℕ → World → Type 0
Powered w (Open who) out w' =
    ((who < 8) × (text_at w who ≡ None) × (out ≡ replied who greeting_bytes ++ entry who DONE [])
    × (w' ≡ with_text w who (Some [])))
    ⊎ (((8 ≤ who) ⊎ (text_at w who ≢ None)) × Ignores w who ABSENT out w')
Powered w (Piece who bytes) out w' =
    MatchOption (text_at w who) (Ignores w who ABSENT out w')
    (λ text. AnswersPiece w who text bytes.now out w')
Powered w (Gone who) out w' = MatchOption (text_at w who) (Ignores w who ABSENT out w')
    (λ text. (out ≡ entry who DONE []) × (w' ≡ with_text w who None))
Powered w Tidy out w' = Ignores w NO_ONE DONE out w'
Powered w Restore out w' = Ignores w NO_ONE DONE out w'

-- an event without power: Restore turns it on
abbrev pub Unpowered : World → Event → List ℕ → World → Type 0
Unpowered w (Open who) out w' = Ignores w who LOST out w'
Unpowered w (Piece who bytes) out w' = Ignores w who LOST out w'
Unpowered w (Gone who) out w' = Ignores w who LOST out w'
Unpowered w Tidy out w' = Ignores w NO_ONE LOST out w'
Unpowered w Restore out w' = (out ≡ entry NO_ONE DONE []) × (w' ≡ record w { power = true })

-- what an event writes and what it makes of a world, where the power doesn't go in it
abbrev pub Step : World → Event → List ℕ → World → Type 0
Step w event out w' = MatchBool w.power (Powered w event out w') (Unpowered w event out w')

-- A piece in which the power goes: the parts before an accepted READ, WRITE, TRIM or WRITE_ZEROES
-- are answered and applied, and of it each sector is wholly old or wholly new.
pub record PieceInterrupted (w : World) (who : ℕ) (text bytes out : List ℕ)
    (w' : World) : Type 0 where
  pub before : List Part
  pub command : Command
  pub payload : List ℕ
  pub rest : List Part
  pub disk : List ℕ
  pub lacked : Lacked w.export text bytes (before ++ ForDisk command payload ∷ rest)
  pub touches : touches_chip command.kind ≡ true
  pub outcome : Outcome (after_parts w.export w.disk before)
      (applied w.export (after_parts w.export w.disk before) command payload) disk
  pub wrote : out ≡ replies w.export who w.disk before ++ entry who LOST []
  pub world : w' ≡ dark w disk

-- What an event writes and what it makes of a world, where the power goes in it. Every connection
-- is closed then. A tidying and a restore change no sector, a Restore may be lost whether or not
-- there was power, an Open and a Gone never are.
abbrev pub Loss : World → Event → List ℕ → World → Type 0
Loss w (Open who) out w' = ⊥
Loss w (Piece who bytes) out w' = (w.power ≡ true)
    × MatchOption (text_at w who) ⊥ (λ text. PieceInterrupted w who text bytes.now out w')
Loss w (Gone who) out w' = ⊥
Loss w Tidy out w' = (w.power ≡ true) × (out ≡ entry NO_ONE LOST []) × (w' ≡ dark w w.disk)
Loss w Restore out w' = (out ≡ entry NO_ONE LOST []) × (w' ≡ dark w w.disk)
