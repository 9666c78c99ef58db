use Rattle.std.specs.Prelude.{true}
use Rattle.chip_simulator.specs.Sim.{slows_of}
use Rattle.test_disk.proofs.restored_lives.write_and_restore.Given as goal

-- the ledger of this call's blank, and a chip that is mounted firmly
abbrev pub ghosts-written-L-Ledger : goal.ghosts-written-L-Ledger
ghosts-written-L-Ledger a = record { name = a.blank.name; parts = a.blank.parts }

abbrev pub ghosts-written-L-Provenance : goal.ghosts-written-L-Provenance
ghosts-written-L-Provenance a = record { sound = true; slows = slows_of a.chip; firm = true; cuts = 0 }
