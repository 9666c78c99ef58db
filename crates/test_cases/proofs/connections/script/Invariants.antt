use Rattle.test_cases.proofs.connections.script.Given as goal

-- the ledger of this call's blank
abbrev pub ghosts-ended : goal.ghosts-ended
ghosts-ended a = record { name = a.blank.name; parts = a.blank.parts }
