use Rattle.nbd_wire.specs.Commands.{default_export}
use Rattle.std.proofs.Common.{false, []}
use Rattle.test_hostile.proofs.rows.a_row_without_memory_is_answered_enomem.Given as goal

-- the servers of this test's blanks, and their number of sectors
abbrev pub ghosts-keep_rows-K-Ledger : goal.ghosts-keep_rows-K-Ledger
ghosts-keep_rows-K-Ledger g a = record { name = a.first.name; parts = a.first.parts }

abbrev pub ghosts-keep_rows-K-OneServer : goal.ghosts-keep_rows-K-OneServer
ghosts-keep_rows-K-OneServer g a = record { export = default_export a.sectors; sound = false; base = [] }

abbrev pub ghosts-keep_rows-L-Ledger : goal.ghosts-keep_rows-L-Ledger
ghosts-keep_rows-L-Ledger g a = record { name = a.blank.name; parts = a.blank.parts }

abbrev pub ghosts-keep_rows-L-OneServer : goal.ghosts-keep_rows-L-OneServer
ghosts-keep_rows-L-OneServer g a = record { export = default_export a.sectors; sound = false; base = [] }
