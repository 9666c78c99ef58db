use Rattle.std.proofs.Common.{true}
use Rattle.norbd_run.proofs.serve.serve_opened.Given as goal

-- the ledger of the server: that of its blank
abbrev pub ghosts-serve_disk-L-Ledger : goal.ghosts-serve_disk-L-Ledger
ghosts-serve_disk-L-Ledger g a = record { name = a.unnamed.blank.name; parts = a.unnamed.blank.parts }

-- the server's export, and what it holds: the contents of its disk, which is sound
abbrev pub ghosts-serve_disk-L-OneServer : goal.ghosts-serve_disk-L-OneServer
ghosts-serve_disk-L-OneServer g a = record { export = a.export; sound = true; base = (g.D.Disk.facts a.disk).contents }

-- the book of its history: the one that was opened
abbrev pub ghosts-serve_disk-L-Naming : goal.ghosts-serve_disk-L-Naming
ghosts-serve_disk-L-Naming g a = record { book = a.unnamed.opened }
