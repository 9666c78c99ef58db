use Rattle.test_nbd.proofs.streams.a_full_room_keeps_what_it_took.Given as goal

-- the ledger of this test's blank
abbrev pub ghosts-fill : goal.ghosts-fill
ghosts-fill g a = record { name = a.writes.name; parts = a.writes.parts }
