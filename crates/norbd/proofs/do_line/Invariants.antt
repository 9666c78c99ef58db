use Rattle.norbd.proofs.do_line.Given as goal

-- the ledgers of standard input and standard output: those of their blanks
abbrev pub ghosts-run_streams-I-Ledger : goal.ghosts-run_streams-I-Ledger
ghosts-run_streams-I-Ledger g a = record { name = a.input.name; parts = a.input.parts }

abbrev pub ghosts-run_streams-O-Ledger : goal.ghosts-run_streams-O-Ledger
ghosts-run_streams-O-Ledger g a = record { name = a.output.name; parts = a.output.parts }
