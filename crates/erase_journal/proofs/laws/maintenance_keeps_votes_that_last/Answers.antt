use Rattle.erase_journal.proofs.Lasting.{Last-erased}
use Rattle.erase_journal.proofs.laws.maintenance_keeps_votes_that_last.Goals as goal

pub returns : goal.returns
returns c = Last-erased
