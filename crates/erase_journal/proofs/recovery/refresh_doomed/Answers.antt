use Rattle.std.proofs.Common.{◌∙◌, ap, refl, inl, inr}
use Rattle.erase_journal.specs.Journals.{unused_of}
use Rattle.erase_journal.specs.Spending.{a_vote}
use Rattle.erase_journal.specs.Votes.{first_spent}
use Rattle.erase_journal.proofs.recovery.refresh_doomed.Goals as goal

pub returns-then-is_vote_due-clause-spends : goal.returns-then-is_vote_due-clause-spends
returns-then-is_vote_due-clause-spends g c =
    a_vote c.args.journal (c.if-is_vote_due.ensures refl).0 (inr (inl refl)) (c.once_first_spent-spent.ensures ∙ ap (λ u. first_spent c.args.journal u) (c.unused-unused.ensures ∙ ap (λ s. unused_of s) c.requires.tally))
