use Rattle.erase_journal.proofs.Erased.{erased-settled, erased-blocks}
use Rattle.erase_journal.proofs.laws.erased_chips_are_settled.Goals as goal

pub returns : goal.returns
returns c = λ m size ff. (erased-settled m size ff, erased-blocks m size ff)
