use Rattle.sector_survey.proofs.Voting.{none-last, fault-none}
use Rattle.sector_survey.proofs.journals.journal_fault.Goals as goal

pub returns : goal.returns
returns c = none-last c.args.counts.now c.requires.corrupt
    (c.vote_fault.ensures.none (fault-none c.vote_fault.result c.in_default.not-Some))
    (c.vote_fault-2.ensures.none (fault-none c.vote_fault-2.result c.in_default-vote_fault.not-Some))
    (c.vote_fault-3.ensures.none (fault-none c.vote_fault-3.result c.in_default-vote_fault-2.not-Some))
