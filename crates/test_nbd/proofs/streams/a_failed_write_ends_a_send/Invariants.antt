use Rattle.test_nbd.proofs.streams.a_failed_write_ends_a_send.Given as goal

-- the ledger of this test's blank
abbrev pub ghosts-send_flakily : goal.ghosts-send_flakily
ghosts-send_flakily g a = record { name = a.writes.name; parts = a.writes.parts }
