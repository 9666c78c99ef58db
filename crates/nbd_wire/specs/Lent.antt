-- The bytes that are lent to a command: a WRITE's payload, or the room for a READ's data.
-- Source: own.
use Rattle.std.specs.Prelude.{ℕ, ◌==◌, List, [], if◌then◌else◌}
use Rattle.nbd_wire.specs.declared.command.Command.{Command}
use Rattle.nbd_wire.specs.declared.command.CommandKind.{CommandKind}
use Rattle.nbd_wire.specs.Commands.{is_read, is_write, lends_data}

-- how many they are
abbrev pub lent_len_of : CommandKind → Command → ℕ
lent_len_of kind c = if lends_data kind then c.length else 0

abbrev pub lent_len : Command → ℕ
lent_len c = lent_len_of c.kind c

-- the payload among them, and how long it is
abbrev pub payload_in_of : CommandKind → List ℕ → List ℕ
payload_in_of kind bytes = if is_write kind then bytes else []

abbrev pub payload_in : Command → List ℕ → List ℕ
payload_in c bytes = payload_in_of c.kind bytes

abbrev pub payload_len_of : CommandKind → Command → ℕ
payload_len_of kind c = if is_write kind then c.length else 0

-- the data among them, and how long they are
abbrev pub data_in_of : CommandKind → List ℕ → List ℕ
data_in_of kind bytes = if is_read kind then bytes else []

abbrev pub data_len_of : CommandKind → Command → ℕ
data_len_of kind c = if is_read kind then c.length else 0

-- the data behind the head of a reply with this error, and how long they are: none behind an error
abbrev pub reply_in : Command → ℕ → List ℕ → List ℕ
reply_in c error bytes = if error == 0 then data_in_of c.kind bytes else []

abbrev pub data_len : Command → ℕ → ℕ
data_len c error = if error == 0 then data_len_of c.kind c else 0
