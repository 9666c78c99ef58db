use Rattle.erase_journal.proofs.Opened.{any-two, same-block}
use Rattle.erase_journal.proofs.laws.open_entries_name_one_block.Goals as goal

pub returns : goal.returns
returns c = λ m. (λ one i k low small opened also. same-block m i k one low small opened also, any-two m)
