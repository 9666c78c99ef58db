use Rattle.std.proofs.Common.{◌∙◌, ap, refl, sym, subst}
use Rattle.std.proofs.lemmas.Result.{err_from_is_err_and}
use Rattle.erase_journal.specs.declared.phase.ErasePhase.TheVariants.{Idle}
use Rattle.erase_journal.specs.declared.unused.Unused.{Unused}
use Rattle.erase_journal.specs.Journals.{unused}
use Rattle.erase_journal.specs.Spending.{given}
use Rattle.erase_journal.specs.Steps.{SameNumbers}
use Rattle.erase_journal.specs.Votes.{Last, first_spent}
use Rattle.erase_journal.proofs.Lasting.{same-unused}
use Rattle.erase_journal.proofs.Renewal.{first-given-up, first-given-cut}
use Rattle.erase_journal.proofs.giving_up.give_up_first.Goals as goal

pub returns-in_err-give_up_vote-clause-cut : goal.returns-in_err-give_up_vote-clause-cut
returns-in_err-give_up_vote-clause-cut g c is =
    let x = c.args.journal in
    let a = (g.N.Nor.state c.args.nor.now).memory in
    let b = (g.N.Nor.state c.give_up_vote.new.nor).memory in
    let e = c.once_first_spent-spent.ensures ∙ ap (λ u. first_spent x u) (sym (same-unused c.args.known.now.unused (unused a) c.requires.known.numbers)) in
    let l = subst (λ (u : Unused). Last u) e (c.if-lasts.ensures.yes refl) in
    let p = err_from_is_err_and c.from_residual.result c.from_residual.ensures.1 in
    first-given-cut x Idle a b c.requires.settled.sound c.requires.settled.none l (rw c.first_votes.ensures at (c.in_err-give_up_vote.ensures.cut (cc (p.1, p.2))))

pub returns-in_ok-give_up_vote-clause-settled : goal.returns-in_ok-give_up_vote-clause-settled
returns-in_ok-give_up_vote-clause-settled g c =
    let x = c.args.journal in
    let a = (g.N.Nor.state c.args.nor.now).memory in
    let b = (g.N.Nor.state c.give_up_vote.new.nor).memory in
    let e = c.once_first_spent-spent.ensures ∙ ap (λ u. first_spent x u) (sym (same-unused c.args.known.now.unused (unused a) c.requires.known.numbers)) in
    let l = subst (λ (u : Unused). Last u) e (c.if-lasts.ensures.yes refl) in
    let s = first-given-up x Idle a b c.requires.settled.sound c.requires.settled.none l (rw c.first_votes.ensures at c.in_ok-give_up_vote.ensures.ok) in
    record { sound = s.0.sound; none = s.2 }

pub returns-in_ok-give_up_vote-clause-known : goal.returns-in_ok-give_up_vote-clause-known
returns-in_ok-give_up_vote-clause-known g c =
    let x = c.args.journal in
    let a = (g.N.Nor.state c.args.nor.now).memory in
    let b = (g.N.Nor.state c.give_up_vote.new.nor).memory in
    let e = c.once_first_spent-spent.ensures ∙ ap (λ u. first_spent x u) (sym (same-unused c.args.known.now.unused (unused a) c.requires.known.numbers)) in
    let l = subst (λ (u : Unused). Last u) e (c.if-lasts.ensures.yes refl) in
    let s = first-given-up x Idle a b c.requires.settled.sound c.requires.settled.none l (rw c.first_votes.ensures at c.in_ok-give_up_vote.ensures.ok) in
    record { numbers = subst (λ (u : Unused). SameNumbers u (unused b)) (sym e) s.0.numbers; packed = λ p k low. absurd (cc) }

pub returns-in_ok-give_up_vote-clause-gives : goal.returns-in_ok-give_up_vote-clause-gives
returns-in_ok-give_up_vote-clause-gives g c =
    let x = c.args.journal in
    let a = (g.N.Nor.state c.args.nor.now).memory in
    let b = (g.N.Nor.state c.give_up_vote.new.nor).memory in
    let e = c.once_first_spent-spent.ensures ∙ ap (λ u. first_spent x u) (sym (same-unused c.args.known.now.unused (unused a) c.requires.known.numbers)) in
    let l = subst (λ (u : Unused). Last u) e (c.if-lasts.ensures.yes refl) in
    let s = first-given-up x Idle a b c.requires.settled.sound c.requires.settled.none l (rw c.first_votes.ensures at c.in_ok-give_up_vote.ensures.ok) in
    given l s.0.numbers

pub returns-in_ok-give_up_vote-clause-blocks : goal.returns-in_ok-give_up_vote-clause-blocks
returns-in_ok-give_up_vote-clause-blocks g c =
    let x = c.args.journal in
    let a = (g.N.Nor.state c.args.nor.now).memory in
    let b = (g.N.Nor.state c.give_up_vote.new.nor).memory in
    let e = c.once_first_spent-spent.ensures ∙ ap (λ u. first_spent x u) (sym (same-unused c.args.known.now.unused (unused a) c.requires.known.numbers)) in
    let l = subst (λ (u : Unused). Last u) e (c.if-lasts.ensures.yes refl) in
    let s = first-given-up x Idle a b c.requires.settled.sound c.requires.settled.none l (rw c.first_votes.ensures at c.in_ok-give_up_vote.ensures.ok) in
    s.1
