use Rattle.std.proofs.Common.{◌∙◌, ap, refl, sym, subst, inr}
use Rattle.std.proofs.lemmas.Result.{err_from_is_err_and}
use Rattle.erase_journal.specs.declared.phase.ErasePhase.TheVariants.{Closing}
use Rattle.erase_journal.specs.declared.unused.Unused.{Unused}
use Rattle.erase_journal.specs.Journals.{unused, unused_of}
use Rattle.erase_journal.specs.Spending.{a_vote}
use Rattle.erase_journal.specs.Steps.{SameNumbers}
use Rattle.erase_journal.specs.Votes.{Last, first_spent}
use Rattle.erase_journal.proofs.Renewal.{closing-none, first-given-up, first-given-cut}
use Rattle.erase_journal.proofs.recovery.refresh_closing.Goals as goal

pub returns-in_err-give_up_vote-clause-cut : goal.returns-in_err-give_up_vote-clause-cut
returns-in_err-give_up_vote-clause-cut g c is =
    let x = c.args.journal in
    let a = (g.N.Nor.state c.args.nor.now).memory in
    let e = c.once_first_spent-spent.ensures ∙ ap (λ u. first_spent x u) (c.unused-unused.ensures ∙ ap (λ s. unused_of s) c.requires.tally) in
    let p = err_from_is_err_and c.from_residual.result c.from_residual.ensures.1 in
    first-given-cut x (Closing x) a (g.N.Nor.state c.give_up_vote.new.nor).memory c.requires.closing (closing-none x a c.requires.closing)
    (subst (λ (u : Unused). Last u) e (c.if-is_vote_due.ensures refl).1) (rw c.first_votes.ensures at (c.in_err-give_up_vote.ensures.cut (cc (p.1, p.2))))

pub returns-then-is_vote_due-clause-sound : goal.returns-then-is_vote_due-clause-sound
returns-then-is_vote_due-clause-sound g c =
    let x = c.args.journal in
    let a = (g.N.Nor.state c.args.nor.now).memory in
    let e = c.once_first_spent-spent.ensures ∙ ap (λ u. first_spent x u) (c.unused-unused.ensures ∙ ap (λ s. unused_of s) c.requires.tally) in
    (first-given-up x (Closing x) a (g.N.Nor.state c.give_up_vote.new.nor).memory c.requires.closing (closing-none x a c.requires.closing)
    (subst (λ (u : Unused). Last u) e (c.if-is_vote_due.ensures refl).1) (rw c.first_votes.ensures at c.in_ok-give_up_vote.ensures.ok)).0.sound

pub returns-then-is_vote_due-clause-numbers : goal.returns-then-is_vote_due-clause-numbers
returns-then-is_vote_due-clause-numbers g c =
    let x = c.args.journal in
    let a = (g.N.Nor.state c.args.nor.now).memory in
    let b = (g.N.Nor.state c.give_up_vote.new.nor).memory in
    let e = c.once_first_spent-spent.ensures ∙ ap (λ u. first_spent x u) (c.unused-unused.ensures ∙ ap (λ s. unused_of s) c.requires.tally) in
    subst (λ (u : Unused). SameNumbers u (unused b)) (sym e) (first-given-up x (Closing x) a b c.requires.closing (closing-none x a c.requires.closing)
    (subst (λ (u : Unused). Last u) e (c.if-is_vote_due.ensures refl).1) (rw c.first_votes.ensures at c.in_ok-give_up_vote.ensures.ok)).0.numbers

pub returns-then-is_vote_due-clause-spends : goal.returns-then-is_vote_due-clause-spends
returns-then-is_vote_due-clause-spends g c =
    a_vote c.args.journal (c.if-is_vote_due.ensures refl).0 (inr (inr refl)) (c.once_first_spent-spent.ensures ∙ ap (λ u. first_spent c.args.journal u) (c.unused-unused.ensures ∙ ap (λ s. unused_of s) c.requires.tally))

pub returns-then-is_vote_due-clause-blocks : goal.returns-then-is_vote_due-clause-blocks
returns-then-is_vote_due-clause-blocks g c =
    let x = c.args.journal in
    let a = (g.N.Nor.state c.args.nor.now).memory in
    let e = c.once_first_spent-spent.ensures ∙ ap (λ u. first_spent x u) (c.unused-unused.ensures ∙ ap (λ s. unused_of s) c.requires.tally) in
    (first-given-up x (Closing x) a (g.N.Nor.state c.give_up_vote.new.nor).memory c.requires.closing (closing-none x a c.requires.closing)
    (subst (λ (u : Unused). Last u) e (c.if-is_vote_due.ensures refl).1) (rw c.first_votes.ensures at c.in_ok-give_up_vote.ensures.ok)).1
