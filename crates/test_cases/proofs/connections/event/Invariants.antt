use Rattle.test_cases.proofs.connections.event.Given as goal

-- the ledger of this call's blank
abbrev pub ghosts-answered : goal.ghosts-answered
ghosts-answered a = record { name = a.blank.name; parts = a.blank.parts }
