use Rattle.std.proofs.Common.{◌∙◌, ap}
use Rattle.sector_slots.specs.Slots.{data_block, read_header}
use Rattle.journal_slots.proofs.Reading.{head-kind, head-place}
use Rattle.journal_slots.proofs.head.read_head.Goals as goal

pub returns-clause-slots : goal.returns-clause-slots
returns-clause-slots g c i low =
    ap (λ x. read_header x i) c.copy_from_slice.ensures.after
    ∙ (c.head_of-head.ensures.places i low ∙ head-place (data_block c.args.journal.now.memory c.args.block) c.read.new.into i c.in_ok-read.ensures.ok low)

pub returns-clause-ok : goal.returns-clause-ok
returns-clause-ok g c = c.head_of-head.ensures.kind ∙ head-kind (data_block c.args.journal.now.memory c.args.block) c.read.new.into c.in_ok-read.ensures.ok
