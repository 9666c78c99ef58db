use Rattle.nbd_wire.specs.Commands.{default_export}
use Rattle.std.proofs.Common.{false, []}
use Rattle.test_serve.proofs.server.a_whole_connection_is_answered.Given as goal

-- the server of this test's blank
abbrev pub ghosts-work-L-Ledger : goal.ghosts-work-L-Ledger
ghosts-work-L-Ledger g a = record { name = a.blank.name; parts = a.blank.parts }

-- and its number of sectors
abbrev pub ghosts-work-L-OneServer : goal.ghosts-work-L-OneServer
ghosts-work-L-OneServer g a = record { export = default_export a.sectors; sound = false; base = [] }

-- the ledger of a stream: that of its blank
abbrev pub ghosts-work-M-Ledger : goal.ghosts-work-M-Ledger
ghosts-work-M-Ledger g a = record { name = a.tally.name; parts = a.tally.parts }
