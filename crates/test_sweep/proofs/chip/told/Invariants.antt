use Rattle.test_sweep.proofs.chip.told.Given as goal

-- the ledger of this call's blank
abbrev pub ghosts-told_to : goal.ghosts-told_to
ghosts-told_to a = record { name = a.blank.name; parts = a.blank.parts }
