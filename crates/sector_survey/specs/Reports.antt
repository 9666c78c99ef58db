-- What a report says of an image. Source: own.
use Rattle.std.specs.Prelude.{◌≡◌, ℕ, List, MatchOption, Option, Some, None}
use Rattle.erase_journal.specs.Journals.{IsHealthy, tally_of}
use Rattle.sector_survey.specs.Cleanness.{IsCleannessOf}
use Rattle.sector_survey.specs.Summaries.{AreSummaries}
use Rattle.sector_survey.specs.Verdicts.{Tells}
use Rattle.sector_survey.specs.declared.clean.Cleanness.{Cleanness}
use Rattle.sector_survey.specs.declared.image.Report.{Report}
use Rattle.sector_survey.specs.declared.verdict.Verdict.{Verdict}
use Rattle.sector_survey.specs.declared.verdict.Verdict.TheVariants.{NotFormatted, Corrupt}
use Rattle.sector_survey.specs.declared.verdict.Verdict.TheVariants.{Mountable}

-- whether what reads as free is erased, said exactly where a mount would accept the memory
abbrev pub CleannessTells : Verdict → Option Cleanness → List ℕ → Type 0
CleannessTells NotFormatted says m = says ≡ None
CleannessTells (Corrupt finding) says m = says ≡ None
CleannessTells (Mountable layout) None m = ⊥
CleannessTells (Mountable layout) (Some says) m = IsCleannessOf layout says m

-- The verdict is a mount's; the counts are those of the journals; the summaries are those of the
-- data blocks, and there are none exactly where the journals are corrupt.
pub record IsReportOf (report : Report) (m : List ℕ) : Type 0 where
  pub verdict : Tells report.verdict m
  pub counts : report.counts ≡ tally_of m
  pub blocks : MatchOption report.blocks (IsHealthy m → ⊥) (λ all. AreSummaries all.items m)
  pub cleanness : CleannessTells report.verdict report.cleanness m
