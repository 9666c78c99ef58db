use Rattle.std.proofs.Common.{◌≤◌, arith, rules}
use Rattle.std.proofs.lemmas.Result.{err_from_is_err_and}
use Rattle.erase_journal.specs.declared.phase.ErasePhase.TheVariants.{Doomed}
use Rattle.erase_journal.specs.Journals.{settled, unused, first, tally_of}
use Rattle.erase_journal.proofs.Steps.{steps-on}
use Rattle.erase_journal.proofs.Renewal.{open-first, older-closed, older-cut, same-blocks-on, stands-on}
use Rattle.nor_driver.proofs.CallLaws.{fails-as, refuses-since, kept-after}
use Rattle.nor_driver.specs.State.{Succeeds, Refuses}
use Rattle.erase_journal.proofs.journal_erase.close_older.Goals as goal

pub close_vote-requires-clause-some : goal.close_vote-requires-clause-some
close_vote-requires-clause-some g c = rw c.first_votes-region.ensures (open-first c.args.journal (g.N.Nor.state c.loop.nor).memory c.loop.invariant.next.sound)

pub returns-in_err-close_vote-clause-cut : goal.returns-in_err-close_vote-clause-cut
returns-in_err-close_vote-clause-cut g c is =
    let p = err_from_is_err_and c.from_residual.result c.from_residual.ensures.1 in
    let l = c.loop.invariant.left in
    let more : 2 ≤ (first (tally_of (g.N.Nor.state c.loop.nor).memory) c.args.journal).opened = omega (arith, l, c.requires.more, c.loop-test.true) in
    stands-on (g.N.Nor.state c.args.nor.now).memory (g.N.Nor.state c.loop.nor).memory (g.N.Nor.state c.close_vote.new.nor).memory c.loop.invariant.blocks
    (older-cut c.args.journal (g.N.Nor.state c.loop.nor).memory (g.N.Nor.state c.close_vote.new.nor).memory c.loop.invariant.next.sound more (rw c.first_votes-region.ensures at (c.in_err-close_vote.ensures.cut (cc (p.1, p.2)))))

pub loop-preserved : goal.loop-preserved
loop-preserved g c =
    let a = (g.N.Nor.state c.args.nor.now).memory in
    let b = (g.N.Nor.state c.loop.nor).memory in
    let d = (g.N.Nor.state c.close_vote.new.nor).memory in
    let l = c.loop.invariant.left in
    let more : 2 ≤ (first (tally_of b) c.args.journal).opened = omega (arith, l, c.requires.more, c.loop-test.true) in
    let s = older-closed c.args.journal b d c.loop.invariant.next.sound more (rw c.first_votes-region.ensures at c.in_ok-close_vote.ensures.ok) in
    let e = s.2 in
    record {
      size = search rules;
      ready = search rules;
      next = steps-on (settled (Doomed c.args.journal) (unused a)) (Doomed c.args.journal) (Doomed c.args.journal) b d c.loop.invariant.next s.0;
      left = omega (arith, l, e);
      blocks = same-blocks-on a b d c.loop.invariant.blocks s.1;
      kept = kept-after (g.N.Nor.state c.args.nor.now) (g.N.Nor.state c.loop.nor) (g.N.Nor.state c.close_vote.new.nor) c.loop.invariant.kept c.in_ok-close_vote.ensures.ends.kept;
    }

pub returns-in_err-close_vote-clause-ends : goal.returns-in_err-close_vote-clause-ends
returns-in_err-close_vote-clause-ends g c =
    let s0 = g.N.Nor.state c.args.nor.now in
    let s1 = g.N.Nor.state c.loop.nor in
    let s2 = g.N.Nor.state c.close_vote.new.nor in
    fails-as c.from_residual.result _ (λ _. Succeeds s0 s2) (λ e. Refuses e s0 s2) c.from_residual.ensures.1
    (refuses-since _ s0 s1 s2 c.requires.ready c.loop.invariant.kept c.in_err-close_vote.ensures.ends)
