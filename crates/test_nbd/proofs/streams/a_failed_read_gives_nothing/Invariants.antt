use Rattle.test_nbd.proofs.streams.a_failed_read_gives_nothing.Given as goal

-- the ledger of this test's blank
abbrev pub ghosts-read_flakily : goal.ghosts-read_flakily
ghosts-read_flakily g a = record { name = a.reads.name; parts = a.reads.parts }
