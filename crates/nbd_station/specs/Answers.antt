-- How the parts of a connection's text are answered by a plain array of sectors, and what they make
-- of it. Source: own, over the commands and replies of NBD proto.md.
use Rattle.std.specs.Prelude.{ℕ, List, [], ◌∷◌, ◌++◌}
use Rattle.nbd_wire.specs.declared.export.Export.{Export}
use Rattle.nbd_session.specs.Parts.{Part, Told, ForDisk, Last}
use Rattle.nbd_transmission.specs.Apply.{applied, reply_to}
use Rattle.nbd_station.specs.Records.{replied}

-- the reply to a part, over the disk of this export with these contents
abbrev pub reply_of_part : Export → List ℕ → Part → List ℕ
reply_of_part export disk (Told reply) = reply
reply_of_part export disk (ForDisk command payload) = reply_to export disk command
reply_of_part export disk (Last reply) = reply

-- the contents after it
abbrev pub after_part : Export → List ℕ → Part → List ℕ
after_part export disk (Told reply) = disk
after_part export disk (ForDisk command payload) = applied export disk command payload
after_part export disk (Last reply) = disk

-- the contents after these parts, one after another
abbrev pub after_parts : Export → List ℕ → List Part → List ℕ
after_parts export disk [] = disk
after_parts export disk (part ∷ more) = after_parts export (after_part export disk part) more

-- the records of their replies, in order
abbrev pub replies : Export → ℕ → List ℕ → List Part → List ℕ
replies export who disk [] = []
replies export who disk (part ∷ more) = replied who (reply_of_part export disk part)
    ++ replies export who (after_part export disk part) more
