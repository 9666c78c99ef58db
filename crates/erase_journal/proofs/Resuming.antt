-- What a recovery spends: what an erase of a journal that went on still owes, and perhaps an entry or a vote of its own.
use Rattle.std.proofs.Common.{List, ℕ}
use Rattle.erase_journal.specs.declared.firmness.Firmness.{Firmness}
use Rattle.erase_journal.specs.declared.phase.ErasePhase.{ErasePhase}
use Rattle.erase_journal.specs.declared.unused.Unused.{Unused}
use Rattle.erase_journal.specs.Journals.{AreJournalsSound, settled, unused}
use Rattle.erase_journal.specs.Spending.{Continues, SpendsOne}
use Rattle.erase_journal.specs.Journals.{begun}
use Rattle.erase_journal.proofs.Lasting.{same-on}
use Rattle.erase_journal.specs.Steps.{SameNumbers}

module _ (firmness : Firmness) (u : Unused) (m m1 m2 : List ℕ) where
  pub continued : (p : ErasePhase) → AreJournalsSound p m → SpendsOne firmness p m u → SameNumbers (settled p u) (settled (begun p) (unused m1)) → SameNumbers (settled (begun p) (unused m1)) (unused m2)
      → Continues firmness m m2
  continued p h s n k = record { phase = p; sound = h; left = u; spends = s; numbers = same-on (settled p u) (settled (begun p) (unused m1)) (unused m2) n k }
