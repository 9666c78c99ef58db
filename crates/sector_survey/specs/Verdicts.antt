-- What a verdict says of a memory: what a mount of it would answer. Source: own.
use Rattle.std.specs.Prelude.{◌≡◌, ◌≢◌, ◌⊎◌, ℕ, ◌<◌, true, false, List, length, Ok, Err}
use Rattle.nor_driver.specs.State.{NorState}
use Rattle.nor_layout.specs.Layouts.{layout_of}
use Rattle.nor_layout.specs.declared.layout.Layout.{Layout}
use Rattle.nor_layout.specs.declared.superblock.SuperError.TheVariants as refusals
use Rattle.sector_slots.specs.Sectors.{IsSoundMap}
use Rattle.sector_map.specs.Maps.{IsMountable, geometry_of}
use Rattle.sector_survey.specs.Findings.{Explains}
use Rattle.sector_survey.specs.declared.finding.Finding.{Finding}
use Rattle.sector_survey.specs.declared.verdict.Verdict.{Verdict}
use Rattle.sector_survey.specs.declared.verdict.Verdict.TheVariants.{NotFormatted, Corrupt}
use Rattle.sector_survey.specs.declared.verdict.Verdict.TheVariants.{Mountable}
use Rattle.sector_survey.specs.declared.verdict.Unexamined.{Unexamined}
use Rattle.sector_survey.specs.declared.verdict.Unexamined.TheVariants as reasons

-- A mount refuses it as corrupt, and this is why. Its superblock's name is there, and its seal.
pub record IsCorruptFor (finding : Finding) (m : List ℕ) : Type 0 where
  pub refused : IsMountable m → ⊥
  pub formatted : layout_of m (geometry_of (length m)) ≢ Err refusals.NotFormatted
  pub why : Explains finding m

-- It would be mounted, and its superblock says this layout.
pub record IsMountableAs (said : Layout) (m : List ℕ) : Type 0 where
  pub mountable : IsMountable m
  pub layout : layout_of m (geometry_of (length m)) ≡ Ok said

abbrev pub Tells : Verdict → List ℕ → Type 0
Tells NotFormatted m = layout_of m (geometry_of (length m)) ≡ Err refusals.NotFormatted
Tells (Corrupt finding) m = IsCorruptFor finding m
Tells (Mountable layout) m = IsMountableAs layout m

-- the same of a memory whose journals were recovered
abbrev pub TellsBehind : Verdict → Layout → List ℕ → Type 0
TellsBehind NotFormatted layout m = ⊥
TellsBehind (Corrupt finding) layout m = Explains finding m
TellsBehind (Mountable said) layout m = (said ≡ layout) × IsSoundMap m

-- Why nothing is known: the memory wasn't there or failed, for a loss of power or a slow operation
-- that came in the call or was met by it.
abbrev pub ExaminationFails : Unexamined → NorState → NorState → Type 0
ExaminationFails reasons.OutOfMemory old new = Unit {0}
ExaminationFails reasons.Cut old new = (old.cuts < new.cuts) ⊎ (old.powered ≡ false)
ExaminationFails reasons.Slow old new = (old.slows < new.slows) ⊎ (old.is_slow ≡ true)
ExaminationFails (reasons.Probe e) old new = ⊥
