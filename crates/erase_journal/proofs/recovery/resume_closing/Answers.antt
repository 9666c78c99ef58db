use Rattle.std.proofs.lemmas.Result.{err_from_is_err_and}
use Rattle.erase_journal.proofs.Renewal.{second-closed, second-close-cut, open-second}
use Rattle.erase_journal.proofs.recovery.resume_closing.Goals as goal

pub close_vote-requires-clause-some : goal.close_vote-requires-clause-some
close_vote-requires-clause-some g c = rw c.second_votes.ensures (open-second c.args.journal (g.N.Nor.state c.args.nor.now).memory c.requires.closing)

pub returns-in_err-close_vote-clause-cut : goal.returns-in_err-close_vote-clause-cut
returns-in_err-close_vote-clause-cut g c is =
    let p = err_from_is_err_and c.from_residual.result c.from_residual.ensures.1 in
    second-close-cut c.args.journal (g.N.Nor.state c.args.nor.now).memory (g.N.Nor.state c.close_vote.new.nor).memory c.requires.closing (rw c.second_votes.ensures at (c.in_err-close_vote.ensures.cut (cc (p.1, p.2))))

pub returns-clause-ends : goal.returns-clause-ends
returns-clause-ends g c =
    let s = second-closed c.args.journal (g.N.Nor.state c.args.nor.now).memory (g.N.Nor.state c.close_vote.new.nor).memory c.requires.closing (rw c.second_votes.ensures at c.in_ok-close_vote.ensures.ok) in
    record { ready = c.in_ok-close_vote.ensures.ends.ready; kept = c.in_ok-close_vote.ensures.ends.kept; settled = record { sound = s.0.sound; none = s.2 } }

pub returns-clause-blocks : goal.returns-clause-blocks
returns-clause-blocks g c =
    let s = second-closed c.args.journal (g.N.Nor.state c.args.nor.now).memory (g.N.Nor.state c.close_vote.new.nor).memory c.requires.closing (rw c.second_votes.ensures at c.in_ok-close_vote.ensures.ok) in
    s.1

pub returns-clause-numbers : goal.returns-clause-numbers
returns-clause-numbers g c =
    let s = second-closed c.args.journal (g.N.Nor.state c.args.nor.now).memory (g.N.Nor.state c.close_vote.new.nor).memory c.requires.closing (rw c.second_votes.ensures at c.in_ok-close_vote.ensures.ok) in
    s.0.numbers
