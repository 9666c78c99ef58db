use Rattle.nbd_wire.specs.Commands.{default_export}
use Rattle.std.proofs.Common.{false, []}
use Rattle.test_serve.proofs.server.a_failing_stream_ends_its_own_connection.Given as goal

-- the server of this test's blank
abbrev pub ghosts-fail_at-L-Ledger : goal.ghosts-fail_at-L-Ledger
ghosts-fail_at-L-Ledger g a = record { name = a.blank.name; parts = a.blank.parts }

-- and its number of sectors
abbrev pub ghosts-fail_at-L-OneServer : goal.ghosts-fail_at-L-OneServer
ghosts-fail_at-L-OneServer g a = record { export = default_export a.sectors; sound = false; base = [] }

-- the ledger of a stream: that of its blank
abbrev pub ghosts-fail_at-M-Ledger : goal.ghosts-fail_at-M-Ledger
ghosts-fail_at-M-Ledger g a = record { name = a.reads.name; parts = a.reads.parts }

-- the ledger of a stream: that of its blank
abbrev pub ghosts-fail_at-N-Ledger : goal.ghosts-fail_at-N-Ledger
ghosts-fail_at-N-Ledger g a = record { name = a.writes.name; parts = a.writes.parts }
