use Rattle.std.proofs.Common.{◌≡◌, ◌≤◌}
use Rattle.erase_journal.specs.Scans.{open_blocks_in}
use Rattle.erase_journal.proofs.scan.count_open.Given as goal

abbrev pub invariant-loop-entry : goal.invariant-loop-entry
invariant-loop-entry l = (l.opened ≡ open_blocks_in l.bytes l.blocks l.entry) × (l.opened ≤ l.entry)
