use Rattle.sector_slots.specs.Slots.{data_block}
use Rattle.journal_slots.proofs.Reading.{content-read}
use Rattle.journal_slots.proofs.read.read_content.Goals as goal

pub returns-clause-ok : goal.returns-clause-ok
returns-clause-ok g c = content-read (data_block c.args.journal.now.memory c.args.block) c.read.new.into c.args.place c.content_place.result _ c.content_place.ensures c.requires.room c.in_ok-read.ensures.ok
