use Rattle.erase_journal.proofs.BlockLaws.{length-block}
use Rattle.erase_journal.proofs.laws.blocks_have_one_size.Goals as goal

pub returns : goal.returns
returns c = length-block
