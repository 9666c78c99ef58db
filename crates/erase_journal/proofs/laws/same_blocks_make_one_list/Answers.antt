use Rattle.erase_journal.proofs.Blocks.{blocks-same}
use Rattle.erase_journal.proofs.laws.same_blocks_make_one_list.Goals as goal

pub returns : goal.returns
returns c = blocks-same
