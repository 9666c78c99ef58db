use Rattle.std.specs.Prelude.{true, false}
use Rattle.chip_simulator.specs.Sim.{slows_of}
use Rattle.test_disk.proofs.torn_lives.waver.Given as goal

-- lives that begin with this chip, and the ledgers of this call's blanks
abbrev pub ghosts-lived-L-Ledger : goal.ghosts-lived-L-Ledger
ghosts-lived-L-Ledger a = record { name = a.blank.name; parts = a.blank.parts }

abbrev pub ghosts-lived-L-Provenance : goal.ghosts-lived-L-Provenance
ghosts-lived-L-Provenance a = record { sound = false; slows = slows_of a.bus.life.bus; firm = true; cuts = 0 }

abbrev pub ghosts-lived-O-Ledger : goal.ghosts-lived-O-Ledger
ghosts-lived-O-Ledger a = record { name = a.told.name; parts = a.told.parts }
