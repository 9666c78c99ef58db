use Rattle.norbd_image.proofs.both.settle_records.Given as goal

-- the ledger is that of the blank
abbrev pub ghosts-settle_disk : goal.ghosts-settle_disk
ghosts-settle_disk g a = record { name = a.blank.name; parts = a.blank.parts }
