use Rattle.nbd_wire.specs.Commands.{default_export}
use Rattle.std.proofs.Common.{false, []}
use Rattle.test_nbd.proofs.order.gates_are_passed_after_a_piece_and_before_each_command.Given as goal

-- the server of this test's blank, and its number of sectors
abbrev pub ghosts-answer_three-L-Ledger : goal.ghosts-answer_three-L-Ledger
ghosts-answer_three-L-Ledger g a = record { name = a.blank.name; parts = a.blank.parts }

abbrev pub ghosts-answer_three-L-OneServer : goal.ghosts-answer_three-L-OneServer
ghosts-answer_three-L-OneServer g a = record { export = default_export a.sectors; sound = false; base = [] }

-- the book of its history
abbrev pub ghosts-answer_three-L-Naming : goal.ghosts-answer_three-L-Naming
ghosts-answer_three-L-Naming g a = record { book = a.opened }

-- the ledger of its tally
abbrev pub ghosts-answer_three-M-Ledger : goal.ghosts-answer_three-M-Ledger
ghosts-answer_three-M-Ledger g a = record { name = a.tally.name; parts = a.tally.parts }
