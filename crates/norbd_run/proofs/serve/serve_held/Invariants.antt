use Rattle.norbd_run.proofs.serve.serve_held.Given as goal

-- the ledger is that of the blank
abbrev pub ghosts-serve_logged : goal.ghosts-serve_logged
ghosts-serve_logged g a = record { name = a.unlost.name; parts = a.unlost.parts }
