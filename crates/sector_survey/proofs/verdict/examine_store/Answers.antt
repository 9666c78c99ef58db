use Rattle.std.proofs.Common.{subst}
use Rattle.std.specs.Prelude.{IfOk}
use Rattle.sector_survey.specs.Verdicts.{TellsBehind}
use Rattle.sector_survey.proofs.Verdicts.{told-back-if}
use Rattle.sector_survey.proofs.verdict.examine_store.Goals as goal

pub returns-in-Ok-recover-clause-told : goal.returns-in-Ok-recover-clause-told
returns-in-Ok-recover-clause-told g c =
    told-back-if c.examine_slots.result.1 c.args.layout (g.N.Nor.state c.args.nor) c.in-Ok-recover.journal c.requires c.in-Ok-recover.ensures.ok
    (subst (λ j. IfOk c.examine_slots.result.1 (λ v. TellsBehind v c.args.layout j.memory)) c.new.ensures c.examine_slots.ensures.told)
