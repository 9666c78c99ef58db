use Rattle.sector_survey.proofs.Cleaning.{cleanness-back}
use Rattle.sector_survey.proofs.clean.examine_clean.Goals as goal

pub returns-in-Ok-examine_journal : goal.returns-in-Ok-examine_journal
returns-in-Ok-examine_journal g c =
    cleanness-back c.args.layout c.in-Ok-examine_journal.cleanness (g.N.Nor.state c.args.nor).memory c.in-Ok.journal.memory c.in-Ok.ensures.ok.blocks c.in-Ok-examine_journal.ensures
