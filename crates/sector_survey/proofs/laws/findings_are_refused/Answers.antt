use Rattle.sector_survey.proofs.Faults.{finding-refused}
use Rattle.sector_survey.proofs.laws.findings_are_refused.Goals as goal

pub returns : goal.returns
returns c = finding-refused
