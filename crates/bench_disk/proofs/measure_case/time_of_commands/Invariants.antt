use Rattle.nbd_wire.specs.Commands.{default_export}
use Rattle.std.proofs.Common.{false, []}
use Rattle.bench_disk.proofs.measure_case.time_of_commands.Given as goal

-- the server of this go's blank
abbrev pub ghosts-time_over-L-Ledger : goal.ghosts-time_over-L-Ledger
ghosts-time_over-L-Ledger g a = record { name = a.blank.name; parts = a.blank.parts }

-- and its number of sectors
abbrev pub ghosts-time_over-L-OneServer : goal.ghosts-time_over-L-OneServer
ghosts-time_over-L-OneServer g a = record { export = default_export a.sectors; sound = false; base = [] }
