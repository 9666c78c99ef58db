use Rattle.erase_journal.proofs.Faulty.{sound_has_no_fault}
use Rattle.erase_journal.proofs.laws.sound_journals_have_no_fault.Goals as goal

pub returns : goal.returns
returns c = sound_has_no_fault
