use Rattle.nbd_wire.specs.Commands.{default_export}
use Rattle.std.proofs.Common.{false, []}
use Rattle.test_serve.proofs.server.a_keeper_tidies_until_it_is_stopped.Given as goal

-- the server of this test's blank
abbrev pub ghosts-keep_two-L-Ledger : goal.ghosts-keep_two-L-Ledger
ghosts-keep_two-L-Ledger g a = record { name = a.blank.name; parts = a.blank.parts }

-- and its number of sectors
abbrev pub ghosts-keep_two-L-OneServer : goal.ghosts-keep_two-L-OneServer
ghosts-keep_two-L-OneServer g a = record { export = default_export a.sectors; sound = false; base = [] }

-- the book of its history
abbrev pub ghosts-keep_two-L-Naming : goal.ghosts-keep_two-L-Naming
ghosts-keep_two-L-Naming g a = record { book = a.opened }
