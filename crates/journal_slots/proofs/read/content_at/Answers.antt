use Rattle.std.proofs.Common.{◌∙◌, ◌/◌, ◌%◌, sym}
use Rattle.sector_slots.specs.Slots.{data_block}
use Rattle.journal_slots.proofs.Places.{slot-content}
use Rattle.journal_slots.proofs.read.content_at.Goals as goal

pub returns-clause-ok : goal.returns-clause-ok
returns-clause-ok g c tag content live = c.in_ok-read_content.ensures.ok ∙ sym (slot-content (data_block c.args.journal.now.memory (c.args.slot / 7)) (c.args.slot % 7) tag content live)
