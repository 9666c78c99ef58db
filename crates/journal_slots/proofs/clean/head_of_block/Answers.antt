use Rattle.std.proofs.Common.{◌∙◌}
use Rattle.journal_slots.proofs.Reading.{head-kind, head-place}
use Rattle.journal_slots.proofs.clean.head_of_block.Goals as goal

pub returns-clause-places : goal.returns-clause-places
returns-clause-places c i low = c.head_of.ensures.places i low ∙ head-place c.args.bytes.now c.copy_from_slice.new.self i c.copy_from_slice.ensures.after low

pub returns-clause-kind : goal.returns-clause-kind
returns-clause-kind c = c.head_of.ensures.kind ∙ head-kind c.args.bytes.now c.copy_from_slice.new.self c.copy_from_slice.ensures.after
