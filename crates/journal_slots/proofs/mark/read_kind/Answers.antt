use Rattle.std.proofs.Common.{◌+◌, ◌∙◌}
use Rattle.erase_journal.specs.Blocks.{block}
use Rattle.journal_slots.proofs.Marks.{kind-read}
use Rattle.journal_slots.proofs.mark.read_kind.Goals as goal

pub returns-clause-ok : goal.returns-clause-ok
returns-clause-ok g c = c.block_kind.ensures.exact ∙ kind-read (block c.args.journal.now.memory (c.args.block + 4)) c.read.new.into c.in_ok-read.ensures.ok
