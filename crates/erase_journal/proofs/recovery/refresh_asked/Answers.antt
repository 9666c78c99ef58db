use Rattle.std.proofs.Common.{◌∙◌, ap, refl, sym, subst, inl}
use Rattle.std.proofs.lemmas.Result.{err_from_is_err_and}
use Rattle.erase_journal.specs.declared.phase.ErasePhase.TheVariants.{Asked, Doomed}
use Rattle.erase_journal.specs.declared.unused.Unused.{Unused}
use Rattle.erase_journal.specs.Journals.{settled, unused, unused_of}
use Rattle.erase_journal.specs.Spending.{a_vote}
use Rattle.erase_journal.specs.Steps.{SameNumbers}
use Rattle.erase_journal.specs.Votes.{Last, first_spent, second_spent, renewed}
use Rattle.erase_journal.proofs.Lasting.{Last-moved, same-on}
use Rattle.erase_journal.proofs.Renewal.{asked-spent, second-cut, second-opened, same-blocks-on, stands-on}
use Rattle.nor_driver.proofs.CallLaws.{fails-as, fails-of, kept-after, refuses-after}
use Rattle.nor_driver.specs.State.{Succeeds, Refuses}
use Rattle.erase_journal.proofs.recovery.refresh_asked.Goals as goal

pub returns-in_err-open_vote-clause-cut : goal.returns-in_err-open_vote-clause-cut
returns-in_err-open_vote-clause-cut g c is =
    let x = c.args.journal in
    let a = (g.N.Nor.state c.args.nor.now).memory in
    let b = (g.N.Nor.state c.open_vote.new.nor).memory in
    let p = err_from_is_err_and c.from_residual.result c.from_residual.ensures.1 in
    second-cut x a b c.requires.asked (rw c.second_votes.ensures at (c.in_err-open_vote.ensures.cut (cc (p.1, p.2))))

pub vote_afresh-requires-clause-doomed : goal.vote_afresh-requires-clause-doomed
vote_afresh-requires-clause-doomed g c =
    let x = c.args.journal in
    let a = (g.N.Nor.state c.args.nor.now).memory in
    let b = (g.N.Nor.state c.open_vote.new.nor).memory in
    let s = second-opened x a b c.requires.asked (rw c.second_votes.ensures at c.in_ok-open_vote.ensures.ok) in
    s.0.sound

pub vote_afresh-requires-clause-opened : goal.vote_afresh-requires-clause-opened
vote_afresh-requires-clause-opened g c =
    let x = c.args.journal in
    let a = (g.N.Nor.state c.args.nor.now).memory in
    let b = (g.N.Nor.state c.open_vote.new.nor).memory in
    let s = second-opened x a b c.requires.asked (rw c.second_votes.ensures at c.in_ok-open_vote.ensures.ok) in
    s.2

pub vote_afresh-requires-clause-lasts : goal.vote_afresh-requires-clause-lasts
vote_afresh-requires-clause-lasts g c =
    let x = c.args.journal in
    let a = (g.N.Nor.state c.args.nor.now).memory in
    let b = (g.N.Nor.state c.open_vote.new.nor).memory in
    let s = second-opened x a b c.requires.asked (rw c.second_votes.ensures at c.in_ok-open_vote.ensures.ok) in
    let u = c.unused-unused.ensures ∙ ap (λ s. unused_of s) c.requires.tally in
    let e = c.once_first_spent-spent.ensures ∙ ap (λ u. first_spent x u) u in
    let left = c.once_renewed-left.ensures ∙ ap (λ u. renewed x u) (c.once_second_spent.ensures ∙ ap (λ u. second_spent x u) e) in
    let n = asked-spent x (unused a) (unused b) s.0.numbers in
    let l = Last-moved (settled (Asked x) (first_spent x (unused a))) (settled (Doomed x) (first_spent x (unused b))) n (subst (λ (u : Unused). Last u) left (c.if-is_vote_due.ensures refl).1) in
    l

pub returns-in_err-vote_afresh-clause-cut : goal.returns-in_err-vote_afresh-clause-cut
returns-in_err-vote_afresh-clause-cut g c is =
    let x = c.args.journal in
    let a = (g.N.Nor.state c.args.nor.now).memory in
    let b = (g.N.Nor.state c.open_vote.new.nor).memory in
    let s = second-opened x a b c.requires.asked (rw c.second_votes.ensures at c.in_ok-open_vote.ensures.ok) in
    let d = (g.N.Nor.state c.vote_afresh.new.nor).memory in
    let p = err_from_is_err_and c.from_residual-in_err-vote_afresh.result c.from_residual-in_err-vote_afresh.ensures.1 in
    stands-on a b d s.1 (c.in_err-vote_afresh.ensures.cut (cc (p.1, p.2)))

pub returns-then-is_vote_due-clause-numbers : goal.returns-then-is_vote_due-clause-numbers
returns-then-is_vote_due-clause-numbers g c =
    let x = c.args.journal in
    let a = (g.N.Nor.state c.args.nor.now).memory in
    let b = (g.N.Nor.state c.open_vote.new.nor).memory in
    let s = second-opened x a b c.requires.asked (rw c.second_votes.ensures at c.in_ok-open_vote.ensures.ok) in
    let u = c.unused-unused.ensures ∙ ap (λ s. unused_of s) c.requires.tally in
    let e = c.once_first_spent-spent.ensures ∙ ap (λ u. first_spent x u) u in
    let d = (g.N.Nor.state c.vote_afresh.new.nor).memory in
    let n = asked-spent x (unused a) (unused b) s.0.numbers in
    let k = same-on (settled (Asked x) (first_spent x (unused a))) (settled (Doomed x) (first_spent x (unused b))) (renewed x (unused d)) n c.in_ok-vote_afresh.ensures.ok.numbers in
    subst (λ (u : Unused). SameNumbers (settled (Asked x) u) (renewed x (unused d))) (sym e) k

pub returns-then-is_vote_due-clause-spends : goal.returns-then-is_vote_due-clause-spends
returns-then-is_vote_due-clause-spends g c =
    let x = c.args.journal in
    let a = (g.N.Nor.state c.args.nor.now).memory in
    let b = (g.N.Nor.state c.open_vote.new.nor).memory in
    let u = c.unused-unused.ensures ∙ ap (λ s. unused_of s) c.requires.tally in
    let e = c.once_first_spent-spent.ensures ∙ ap (λ u. first_spent x u) u in
    a_vote x (c.if-is_vote_due.ensures refl).0 (inl refl) e

pub returns-then-is_vote_due-clause-blocks : goal.returns-then-is_vote_due-clause-blocks
returns-then-is_vote_due-clause-blocks g c =
    let x = c.args.journal in
    let a = (g.N.Nor.state c.args.nor.now).memory in
    let b = (g.N.Nor.state c.open_vote.new.nor).memory in
    let s = second-opened x a b c.requires.asked (rw c.second_votes.ensures at c.in_ok-open_vote.ensures.ok) in
    same-blocks-on a b (g.N.Nor.state c.vote_afresh.new.nor).memory s.1 c.in_ok-vote_afresh.ensures.blocks

pub returns-clause-sound : goal.returns-clause-sound
returns-clause-sound g c =
    let x = c.args.journal in
    let a = (g.N.Nor.state c.args.nor.now).memory in
    let b = (g.N.Nor.state c.open_vote.new.nor).memory in
    let s = second-opened x a b c.requires.asked (rw c.second_votes.ensures at c.in_ok-open_vote.ensures.ok) in
    s.0.sound

pub returns-clause-one : goal.returns-clause-one
returns-clause-one g c =
    let x = c.args.journal in
    let a = (g.N.Nor.state c.args.nor.now).memory in
    let b = (g.N.Nor.state c.open_vote.new.nor).memory in
    let s = second-opened x a b c.requires.asked (rw c.second_votes.ensures at c.in_ok-open_vote.ensures.ok) in
    s.2

pub returns-clause-numbers : goal.returns-clause-numbers
returns-clause-numbers g c =
    let x = c.args.journal in
    let a = (g.N.Nor.state c.args.nor.now).memory in
    let b = (g.N.Nor.state c.open_vote.new.nor).memory in
    let s = second-opened x a b c.requires.asked (rw c.second_votes.ensures at c.in_ok-open_vote.ensures.ok) in
    let u = c.unused-unused.ensures ∙ ap (λ s. unused_of s) c.requires.tally in
    subst (λ (u : Unused). SameNumbers (settled (Asked x) u) (renewed x (unused b))) (sym u) s.0.numbers

pub returns-clause-blocks : goal.returns-clause-blocks
returns-clause-blocks g c =
    let x = c.args.journal in
    let a = (g.N.Nor.state c.args.nor.now).memory in
    let b = (g.N.Nor.state c.open_vote.new.nor).memory in
    let s = second-opened x a b c.requires.asked (rw c.second_votes.ensures at c.in_ok-open_vote.ensures.ok) in
    s.1

pub returns-in_err-vote_afresh-clause-fails : goal.returns-in_err-vote_afresh-clause-fails
returns-in_err-vote_afresh-clause-fails g c =
    let s0 = g.N.Nor.state c.args.nor.now in
    let s1 = g.N.Nor.state c.open_vote.new.nor in
    let s2 = g.N.Nor.state c.vote_afresh.new.nor in
    fails-of c.from_residual-in_err-vote_afresh.result (Succeeds s0 s2) (λ e. Refuses e s0 s2) (fails-as c.from_residual-in_err-vote_afresh.result _ (λ _. Succeeds s0 s2) (λ e. Refuses e s0 s2) c.from_residual-in_err-vote_afresh.ensures.1
    (refuses-after _ s0 s1 s2 c.in_ok-open_vote.ensures.ends c.in_err-vote_afresh.ensures.ends))

pub returns-then-is_vote_due-clause-kept : goal.returns-then-is_vote_due-clause-kept
returns-then-is_vote_due-clause-kept g c =
    kept-after (g.N.Nor.state c.args.nor.now) (g.N.Nor.state c.open_vote.new.nor) (g.N.Nor.state c.vote_afresh.new.nor) c.in_ok-open_vote.ensures.ends.kept c.in_ok-vote_afresh.ensures.ends.kept
