use Rattle.std.proofs.Common.{false}
use Rattle.norbd_run.proofs.serve_chip.serve_steady.Given as goal

-- the ledger of the disk: that of its blank
abbrev pub ghosts-serve_lives-L-Ledger : goal.ghosts-serve_lives-L-Ledger
ghosts-serve_lives-L-Ledger g a = record { name = a.blank.name; parts = a.blank.parts }

-- of a chip that is met here nothing is known
abbrev pub ghosts-serve_lives-L-Provenance : goal.ghosts-serve_lives-L-Provenance
ghosts-serve_lives-L-Provenance g a = record { sound = false; slows = g.B.SpiBus.slows a.bus.bus; firm = false; cuts = 0 }
