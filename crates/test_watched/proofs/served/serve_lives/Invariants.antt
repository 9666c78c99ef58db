use Rattle.nbd_wire.specs.Commands.{default_export}
use Rattle.std.proofs.Common.{false, []}
use Rattle.test_watched.proofs.served.serve_lives.Given as goal

-- the server of this life's blank, and its number of sectors
abbrev pub ghosts-serve_clients-L-Ledger : goal.ghosts-serve_clients-L-Ledger
ghosts-serve_clients-L-Ledger g a = record { name = a.blank.name; parts = a.blank.parts }

abbrev pub ghosts-serve_clients-L-OneServer : goal.ghosts-serve_clients-L-OneServer
ghosts-serve_clients-L-OneServer g a = record { export = default_export a.sectors; sound = false; base = [] }

-- the book of its history
abbrev pub ghosts-serve_clients-L-Naming : goal.ghosts-serve_clients-L-Naming
ghosts-serve_clients-L-Naming g a = record { book = a.opened }
