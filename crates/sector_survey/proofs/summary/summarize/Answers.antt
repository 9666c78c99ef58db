use Rattle.std.proofs.Common.{subst}
use Rattle.std.specs.Prelude.{IfOk, MatchOption}
use Rattle.sector_survey.specs.Summaries.{AreSummaries}
use Rattle.sector_survey.proofs.Counting.{summaries-if}
use Rattle.sector_survey.proofs.summary.summarize.Goals as goal

pub returns-in-Ok-clause-told : goal.returns-in-Ok-clause-told
returns-in-Ok-clause-told g c =
    summaries-if (λ all. all.items) c.summarize_slots.result.1 (g.N.Nor.state c.args.nor).memory c.in-Ok.journal.memory c.in-Ok.ensures.ok.blocks
    (subst (λ j. IfOk c.summarize_slots.result.1 (λ says. MatchOption says ⊥ (λ all. AreSummaries all.items j.memory))) c.new.ensures c.summarize_slots.ensures.told)
