-- What a session is after its buffer was written to. Source: own.
use Rattle.std.specs.Prelude.{◌≡◌, ℕ, List, ◌++◌, length, take, drop}
use Rattle.std.specs.Borrow.{Lends, MutBor, Fml, u8, Array}
use Rattle.nbd_wire.specs.Numbers.{REPLY_LEN}
use Rattle.nbd_wire.specs.declared.phase.Phase.{Phase}
use Rattle.nbd_session.specs.Sessions.{SessionState, SessionRepresents, room_of}
use Rattle.nbd_session.specs.contracts.session.Session.{the_row}

-- Bytes with others written over them behind the room for a reply's head. They keep their length.
abbrev pub written_over : List ℕ → List ℕ → List ℕ
written_over old bytes =
    let whole = take REPLY_LEN old ++ (bytes ++ drop (length bytes) (drop REPLY_LEN old)) in
    take (length old) (whole ++ drop (length whole) old)

-- a session with other bytes in the part that is lent
abbrev pub given_back : SessionState → List ℕ → SessionState
given_back line bytes = record line { bytes = written_over line.bytes bytes }

abbrev pub LendsRoom : MutBor SessionState → MutBor (List ℕ) → Fml
LendsRoom line room = Lends the_row (Array u8 0) line room (given_back line.now)

-- What a session is after its buffer was lent to a command and these bytes, as many, were left
-- there: they are in its buffer, and it represents the texts that it represented.
pub record IsGivenBack (line : SessionState) (bytes : List ℕ) : Type 0 where
  pub room : length bytes ≡ length (room_of line) → room_of (given_back line bytes) ≡ bytes
  pub represents : (start : Phase) (text : List ℕ) → SessionRepresents start line text
      → SessionRepresents start (given_back line bytes) text
