use Rattle.std.proofs.Common.{false, []}
use Rattle.nbd_wire.specs.Commands.{default_export}
use Rattle.norbd_run.proofs.run.run_line.Given as goal

-- the ledger of the server: that of its blank
abbrev pub ghosts-run_plain-L-Ledger : goal.ghosts-run_plain-L-Ledger
ghosts-run_plain-L-Ledger g a = record { name = a.blank.name; parts = a.blank.parts }

-- the server's export: that of its line's sectors
abbrev pub ghosts-run_plain-L-OneServer : goal.ghosts-run_plain-L-OneServer
ghosts-run_plain-L-OneServer g a = record { export = default_export a.sectors; sound = false; base = [] }
