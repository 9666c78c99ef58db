use Rattle.test_disk.proofs.host_power.live.Given as goal

-- the ledger is that of the blank
abbrev pub ghosts-serve : goal.ghosts-serve
ghosts-serve g a = record { name = a.blank.name; parts = a.blank.parts }
