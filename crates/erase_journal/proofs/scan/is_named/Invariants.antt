use Rattle.std.proofs.Common.{◌≡◌}
use Rattle.erase_journal.specs.Scans.{named_in}
use Rattle.erase_journal.proofs.scan.is_named.Given as goal

abbrev pub invariant-loop-entry : goal.invariant-loop-entry
invariant-loop-entry l = named_in l.bytes l.blocks l.entry l.block ≡ 0
