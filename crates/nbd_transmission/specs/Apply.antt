-- What a command does to the contents of a disk, and what it is answered. Source: NBD proto.md,
-- simple replies; own is the list of bytes. Contents are one list of bytes, 512 for each sector.
use Rattle.std.specs.Prelude.{ℕ, ◌+◌, List, [], ◌∷◌, ◌++◌, length, take, drop, Option, Some, None}
use Rattle.std.specs.Prelude.{replicate, if◌then◌else◌}
use Rattle.nbd_wire.specs.declared.export.Export.{Export}
use Rattle.nbd_wire.specs.Numbers.{REQUEST_LEN}
use Rattle.nbd_wire.specs.declared.command.Command.{Command}
use Rattle.nbd_wire.specs.declared.command.CommandKind.{CommandKind}
use Rattle.nbd_wire.specs.declared.command.Request.{Request}
use Rattle.nbd_wire.specs.Heads.{reply_bytes, request_at}
use Rattle.nbd_wire.specs.Commands.{command_in, is_disconnect, is_read, is_write, judge_of}
use Rattle.nbd_wire.specs.Commands.{command_kind, is_zeroing}
use Rattle.nbd_wire.specs.Lent.{reply_in}

-- the data of an accepted command's reply: the bytes of a READ's range
abbrev pub data_of_kind : CommandKind → List ℕ → Command → List ℕ
data_of_kind kind contents c =
    if is_read kind then take c.length (drop c.offset contents) else []

abbrev pub data_of : List ℕ → Command → List ℕ
data_of contents c = data_of_kind c.kind contents c

-- the contents with these bytes from a place on, in place of as many others
abbrev pub with_bytes : List ℕ → ℕ → List ℕ → List ℕ
with_bytes contents at bytes = take at contents ++ bytes ++ drop (at + length bytes) contents

-- The contents after an accepted command: in its range a WRITE puts its payload, a TRIM and a
-- WRITE_ZEROES put zeros.
abbrev pub changed_kind : CommandKind → List ℕ → Command → List ℕ → List ℕ
changed_kind kind contents c payload = if is_write kind then with_bytes contents c.offset payload
    else if is_zeroing kind then with_bytes contents c.offset (replicate c.length 0) else contents

abbrev pub changed_by : List ℕ → Command → List ℕ → List ℕ
changed_by contents c payload = changed_kind c.kind contents c payload

-- a reply's head
abbrev pub head_of : Command → ℕ → List ℕ
head_of c error = reply_bytes record { error = error; cookie = c.cookie }

-- the reply to a command that ran with this error over these lent bytes: data follow only where it
-- met none
abbrev pub reply_with : Command → ℕ → List ℕ → List ℕ
reply_with c error bytes = head_of c error ++ reply_in c error bytes

-- A command applied to contents: a refused one changes nothing.
abbrev pub applied_unless : Option ℕ → List ℕ → Command → List ℕ → List ℕ
applied_unless None contents c payload = changed_by contents c payload
applied_unless (Some error) contents c payload = contents

abbrev pub applied : Export → List ℕ → Command → List ℕ → List ℕ
applied export contents c payload = applied_unless (judge_of c export) contents c payload

-- The reply to a command: a refused one is answered its error and no data.
abbrev pub reply_unless : Option ℕ → List ℕ → Command → List ℕ
reply_unless None contents c = head_of c 0 ++ data_of contents c
reply_unless (Some error) contents c = head_of c error

abbrev pub reply_to : Export → List ℕ → Command → List ℕ
reply_to export contents c = reply_unless (judge_of c export) contents c

-- The same of a unit of the transmission phase. One that closes the connection is answered nothing
-- and changes nothing.
abbrev pub request_applied : Export → List ℕ → Option Request → List ℕ → List ℕ
request_applied export contents None payload = contents
request_applied export contents (Some r) payload =
    if is_disconnect (command_kind r.kind) then contents
    else applied export contents (command_in r) payload

abbrev pub unit_applied : Export → List ℕ → List ℕ → List ℕ
unit_applied export contents unit =
    request_applied export contents (request_at unit) (drop REQUEST_LEN unit)

abbrev pub request_reply : Export → List ℕ → Option Request → List ℕ
request_reply export contents None = []
request_reply export contents (Some r) =
    if is_disconnect (command_kind r.kind) then [] else reply_to export contents (command_in r)

abbrev pub unit_reply : Export → List ℕ → List ℕ → List ℕ
unit_reply export contents unit = request_reply export contents (request_at unit)

-- The replies to the units of a transmission, one after another, and the contents after them.
abbrev pub unit_replies : Export → List ℕ → List (List ℕ) → List ℕ
unit_replies export contents [] = []
unit_replies export contents (unit ∷ units) =
    unit_reply export contents unit
    ++ unit_replies export (unit_applied export contents unit) units

abbrev pub after_units : Export → List ℕ → List (List ℕ) → List ℕ
after_units export contents [] = contents
after_units export contents (unit ∷ units) =
    after_units export (unit_applied export contents unit) units
