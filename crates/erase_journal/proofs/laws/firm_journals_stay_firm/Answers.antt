use Rattle.nor_driver.specs.State.{bits_in}
use Rattle.erase_journal.proofs.FirmJournals.{firm-journals-stay}
use Rattle.erase_journal.proofs.laws.firm_journals_stay_firm.Goals as goal

pub returns : goal.returns
returns c = λ a b before done h. firm-journals-stay (bits_in a) (bits_in b) done.kept.bits before done.settled h
