use Rattle.std.proofs.Common.{arith}
use Rattle.std.proofs.lemmas.Result.{err_from_is_err_and, on_ok_weaker}
use Rattle.erase_journal.specs.declared.phase.ErasePhase.TheVariants.{Doomed}
use Rattle.erase_journal.specs.Journals.{unused}
use Rattle.erase_journal.specs.Votes.{first_spent, renewed}
use Rattle.nor_driver.proofs.CallLaws.{ends-since}
use Rattle.erase_journal.proofs.Steps.{steps-on}
use Rattle.erase_journal.proofs.Renewal.{fresh-opened, fresh-cut, some-fresh, same-blocks-on, stands-on}
use Rattle.erase_journal.proofs.journal_erase.vote_afresh.Goals as goal

pub open_vote-requires-clause-some : goal.open_vote-requires-clause-some
open_vote-requires-clause-some g c = rw c.first_votes.ensures (some-fresh c.args.journal (g.N.Nor.state c.args.nor.now).memory c.requires.lasts)

pub returns-in_err-open_vote-clause-cut : goal.returns-in_err-open_vote-clause-cut
returns-in_err-open_vote-clause-cut g c is =
    let p = err_from_is_err_and c.from_residual.result c.from_residual.ensures.1 in
    fresh-cut c.args.journal (g.N.Nor.state c.args.nor.now).memory (g.N.Nor.state c.open_vote.new.nor).memory c.requires.doomed c.requires.lasts (rw c.first_votes.ensures at (c.in_err-open_vote.ensures.cut (cc (p.1, p.2))))

pub close_older-requires-clause-doomed : goal.close_older-requires-clause-doomed
close_older-requires-clause-doomed g c =
    (fresh-opened c.args.journal (g.N.Nor.state c.args.nor.now).memory (g.N.Nor.state c.open_vote.new.nor).memory c.requires.doomed c.requires.lasts (rw c.first_votes.ensures at c.in_ok-open_vote.ensures.ok)).0.sound

pub close_older-requires-clause-more : goal.close_older-requires-clause-more
close_older-requires-clause-more g c =
    let s = fresh-opened c.args.journal (g.N.Nor.state c.args.nor.now).memory (g.N.Nor.state c.open_vote.new.nor).memory c.requires.doomed c.requires.lasts (rw c.first_votes.ensures at c.in_ok-open_vote.ensures.ok) in
    let e = s.2 in
    omega (arith, e, c.requires.opened)

pub returns-clause-ok : goal.returns-clause-ok
returns-clause-ok g c =
    let a = (g.N.Nor.state c.args.nor.now).memory in
    let b = (g.N.Nor.state c.open_vote.new.nor).memory in
    let d = (g.N.Nor.state c.close_older.new.nor).memory in
    let s = fresh-opened c.args.journal a b c.requires.doomed c.requires.lasts (rw c.first_votes.ensures at c.in_ok-open_vote.ensures.ok) in
    on_ok_weaker c.close_older.result (λ n. steps-on (renewed c.args.journal (first_spent c.args.journal (unused a))) (Doomed c.args.journal) (Doomed c.args.journal) b d s.0 n) c.close_older.ensures.ok

pub returns-clause-one : goal.returns-clause-one
returns-clause-one g c =
    let a = (g.N.Nor.state c.args.nor.now).memory in
    let b = (g.N.Nor.state c.open_vote.new.nor).memory in
    let s = fresh-opened c.args.journal a b c.requires.doomed c.requires.lasts (rw c.first_votes.ensures at c.in_ok-open_vote.ensures.ok) in
    let e = s.2 in
    on_ok_weaker c.close_older.result (λ n. omega (arith, n, e, c.requires.opened)) c.close_older.ensures.left

pub returns-clause-blocks : goal.returns-clause-blocks
returns-clause-blocks g c =
    let a = (g.N.Nor.state c.args.nor.now).memory in
    let b = (g.N.Nor.state c.open_vote.new.nor).memory in
    let d = (g.N.Nor.state c.close_older.new.nor).memory in
    let s = fresh-opened c.args.journal a b c.requires.doomed c.requires.lasts (rw c.first_votes.ensures at c.in_ok-open_vote.ensures.ok) in
    on_ok_weaker c.close_older.result (λ n. same-blocks-on a b d s.1 n) c.close_older.ensures.blocks

pub returns-clause-cut : goal.returns-clause-cut
returns-clause-cut g c is =
    let a = (g.N.Nor.state c.args.nor.now).memory in
    let b = (g.N.Nor.state c.open_vote.new.nor).memory in
    let d = (g.N.Nor.state c.close_older.new.nor).memory in
    let s = fresh-opened c.args.journal a b c.requires.doomed c.requires.lasts (rw c.first_votes.ensures at c.in_ok-open_vote.ensures.ok) in
    stands-on a b d s.1 (c.close_older.ensures.cut is)

pub returns-clause-ends : goal.returns-clause-ends
returns-clause-ends g c = ends-since c.close_older.result (g.N.Nor.state c.args.nor.now) (g.N.Nor.state c.open_vote.new.nor) (g.N.Nor.state c.close_older.new.nor) c.in_ok-open_vote.ensures.ends.ready c.in_ok-open_vote.ensures.ends.kept c.close_older.ensures.ends
