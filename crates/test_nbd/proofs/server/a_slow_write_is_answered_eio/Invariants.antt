use Rattle.nbd_wire.specs.Commands.{default_export}
use Rattle.std.proofs.Common.{false, []}
use Rattle.test_nbd.proofs.server.a_slow_write_is_answered_eio.Given as goal

-- the server of this test's blank, and its number of sectors
abbrev pub ghosts-write_slowly-L-Ledger : goal.ghosts-write_slowly-L-Ledger
ghosts-write_slowly-L-Ledger g a = record { name = a.blank.name; parts = a.blank.parts }

abbrev pub ghosts-write_slowly-L-OneServer : goal.ghosts-write_slowly-L-OneServer
ghosts-write_slowly-L-OneServer g a = record { export = default_export a.sectors; sound = false; base = [] }

-- the ledger of its tally
abbrev pub ghosts-write_slowly-M-Ledger : goal.ghosts-write_slowly-M-Ledger
ghosts-write_slowly-M-Ledger g a = record { name = a.tally.name; parts = a.tally.parts }
