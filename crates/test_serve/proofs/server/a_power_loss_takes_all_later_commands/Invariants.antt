use Rattle.nbd_wire.specs.Commands.{default_export}
use Rattle.std.proofs.Common.{false, []}
use Rattle.test_serve.proofs.server.a_power_loss_takes_all_later_commands.Given as goal

-- the server of this test's blank
abbrev pub ghosts-lose-L-Ledger : goal.ghosts-lose-L-Ledger
ghosts-lose-L-Ledger g a = record { name = a.blank.name; parts = a.blank.parts }

-- and its number of sectors
abbrev pub ghosts-lose-L-OneServer : goal.ghosts-lose-L-OneServer
ghosts-lose-L-OneServer g a = record { export = default_export a.sectors; sound = false; base = [] }

-- the book of its history
abbrev pub ghosts-lose-L-Naming : goal.ghosts-lose-L-Naming
ghosts-lose-L-Naming g a = record { book = a.opened }
