use Rattle.sector_slots.specs.Slots.{data_block}
use Rattle.journal_slots.proofs.Killing.{begun-holds, none-begun}
use Rattle.journal_slots.proofs.firm.has_begun.Goals as goal

pub returns-clause-begun : goal.returns-clause-begun
returns-clause-begun g c is = begun-holds (data_block c.args.journal.now.memory c.args.block) c.read.new.into c.in_ok-read.ensures.ok (c.is_begun.ensures.slots is) (c.is_begun.ensures.begun is)

pub returns-clause-not_begun : goal.returns-clause-not_begun
returns-clause-not_begun g c is = none-begun (data_block c.args.journal.now.memory c.args.block) c.read.new.into c.in_ok-read.ensures.ok (c.is_begun.ensures.not_begun is)
