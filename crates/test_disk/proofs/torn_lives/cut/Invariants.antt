use Rattle.std.specs.Prelude.{false}
use Rattle.chip_simulator.specs.Sim.{slows_of}
use Rattle.test_disk.proofs.torn_lives.cut.Given as goal

-- a chip of which nothing is known, and the ledgers of this call's blanks
abbrev pub ghosts-cut_again-L-Ledger : goal.ghosts-cut_again-L-Ledger
ghosts-cut_again-L-Ledger a = record { name = a.blank.name; parts = a.blank.parts }

abbrev pub ghosts-cut_again-L-Provenance : goal.ghosts-cut_again-L-Provenance
ghosts-cut_again-L-Provenance a = record { sound = false; slows = slows_of a.chip; firm = false; cuts = 0 }

abbrev pub ghosts-cut_again-O-Ledger : goal.ghosts-cut_again-O-Ledger
ghosts-cut_again-O-Ledger a = record { name = a.told.name; parts = a.told.parts }
