-- The erase of all three journals. Source: own.
use Rattle.nor_layout.specs.declared.journal.JournalId.TheVariants.{J0, J1, J2}
use Rattle.erase_journal.specs.declared.unused.Unused.{Unused}
use Rattle.erase_journal.specs.Votes.{once_erased}
use Rattle.erase_journal.specs.Spending.{Maintains}

-- Each journal is erased, J0 first, and maintenance comes before and after each: from the numbers u
-- to the numbers v.
pub record RenewsAll (u v : Unused) : Type 0 where
  pub rest : Unused
  pub after_j0 : Unused
  pub after_j1 : Unused
  pub maintains : Maintains rest u
  pub j0 : Maintains after_j0 (once_erased J0 rest)
  pub j1 : Maintains after_j1 (once_erased J1 after_j0)
  pub j2 : Maintains v (once_erased J2 after_j1)
