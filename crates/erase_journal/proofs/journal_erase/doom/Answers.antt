use Rattle.std.proofs.lemmas.Result.{err_from_is_err_and}
use Rattle.erase_journal.specs.declared.phase.ErasePhase.TheVariants.{Asked, Doomed}
use Rattle.erase_journal.specs.Journals.{unused}
use Rattle.erase_journal.specs.Votes.{once_erased}
use Rattle.erase_journal.proofs.Steps.{steps-on}
use Rattle.erase_journal.proofs.Renewal.{first-cut, first-opened, second-cut, second-opened, some-second, stands-on, same-blocks-on}
use Rattle.nor_driver.proofs.CallLaws.{fails-as, refuses-after, succeeds-after}
use Rattle.nor_driver.specs.State.{Succeeds, Refuses}
use Rattle.nor_driver.specs.State.{bits_in}
use Rattle.nor_layout.specs.Journals.{first_at, second_at}
use Rattle.std.proofs.Common.{arith}
use Rattle.erase_journal.proofs.Standing.{first-loses, first-region, second-loses, second-region, vote-firm}
use Rattle.erase_journal.proofs.Unopened.{first-opens, second-opens}
use Rattle.erase_journal.proofs.journal_erase.doom.Goals as goal

pub returns-in_err-open_vote-clause-cut : goal.returns-in_err-open_vote-clause-cut
returns-in_err-open_vote-clause-cut g c is =
    let p = err_from_is_err_and c.from_residual.result c.from_residual.ensures.1 in
    let q = rw c.first_votes-first.ensures at (c.in_err-open_vote.ensures.cut (cc (p.1, p.2))) in
    first-cut c.args.journal (g.N.Nor.state c.args.nor.now).memory (g.N.Nor.state c.open_vote.new.nor).memory c.requires.may q

pub open_vote-requires-2-clause-some : goal.open_vote-requires-2-clause-some
open_vote-requires-2-clause-some g c =
    let q = rw c.first_votes-first.ensures at c.in_ok-open_vote.ensures.ok in
    let s = first-opened c.args.journal (g.N.Nor.state c.args.nor.now).memory (g.N.Nor.state c.open_vote.new.nor).memory c.requires.may q in
    rw c.second_votes-second.ensures (some-second c.args.journal (g.N.Nor.state c.open_vote.new.nor).memory s.0.sound)

pub returns-in_err-open_vote-2-clause-cut : goal.returns-in_err-open_vote-2-clause-cut
returns-in_err-open_vote-2-clause-cut g c is =
    let p = err_from_is_err_and c.from_residual-in_err-open_vote-2.result c.from_residual-in_err-open_vote-2.ensures.1 in
    let q = rw c.first_votes-first.ensures at c.in_ok-open_vote.ensures.ok in
    let s = first-opened c.args.journal (g.N.Nor.state c.args.nor.now).memory (g.N.Nor.state c.open_vote.new.nor).memory c.requires.may q in
    let r = rw c.second_votes-second.ensures at (c.in_err-open_vote-2.ensures.cut (cc (p.1, p.2))) in
    stands-on (g.N.Nor.state c.args.nor.now).memory (g.N.Nor.state c.open_vote.new.nor).memory (g.N.Nor.state c.open_vote-2.new.nor).memory s.1
    (second-cut c.args.journal (g.N.Nor.state c.open_vote.new.nor).memory (g.N.Nor.state c.open_vote-2.new.nor).memory s.0.sound r)

pub returns-clause-ok : goal.returns-clause-ok
returns-clause-ok g c =
    let q = rw c.first_votes-first.ensures at c.in_ok-open_vote.ensures.ok in
    let s = first-opened c.args.journal (g.N.Nor.state c.args.nor.now).memory (g.N.Nor.state c.open_vote.new.nor).memory c.requires.may q in
    let r = rw c.second_votes-second.ensures at c.in_ok-open_vote-2.ensures.ok in
    let t = second-opened c.args.journal (g.N.Nor.state c.open_vote.new.nor).memory (g.N.Nor.state c.open_vote-2.new.nor).memory s.0.sound r in
    steps-on (once_erased c.args.journal (unused (g.N.Nor.state c.args.nor.now).memory))
    (Asked c.args.journal) (Doomed c.args.journal) (g.N.Nor.state c.open_vote.new.nor).memory (g.N.Nor.state c.open_vote-2.new.nor).memory s.0 t.0

pub returns-clause-one : goal.returns-clause-one
returns-clause-one g c =
    let q = rw c.first_votes-first.ensures at c.in_ok-open_vote.ensures.ok in
    let s = first-opened c.args.journal (g.N.Nor.state c.args.nor.now).memory (g.N.Nor.state c.open_vote.new.nor).memory c.requires.may q in
    let r = rw c.second_votes-second.ensures at c.in_ok-open_vote-2.ensures.ok in
    (second-opened c.args.journal (g.N.Nor.state c.open_vote.new.nor).memory (g.N.Nor.state c.open_vote-2.new.nor).memory s.0.sound r).2

pub returns-clause-blocks : goal.returns-clause-blocks
returns-clause-blocks g c =
    let q = rw c.first_votes-first.ensures at c.in_ok-open_vote.ensures.ok in
    let s = first-opened c.args.journal (g.N.Nor.state c.args.nor.now).memory (g.N.Nor.state c.open_vote.new.nor).memory c.requires.may q in
    let r = rw c.second_votes-second.ensures at c.in_ok-open_vote-2.ensures.ok in
    let t = second-opened c.args.journal (g.N.Nor.state c.open_vote.new.nor).memory (g.N.Nor.state c.open_vote-2.new.nor).memory s.0.sound r in
    same-blocks-on (g.N.Nor.state c.args.nor.now).memory (g.N.Nor.state c.open_vote.new.nor).memory (g.N.Nor.state c.open_vote-2.new.nor).memory s.1 t.1

pub returns-in_err-open_vote-2-clause-ends : goal.returns-in_err-open_vote-2-clause-ends
returns-in_err-open_vote-2-clause-ends g c =
    let s0 = g.N.Nor.state c.args.nor.now in
    let s1 = g.N.Nor.state c.open_vote.new.nor in
    let s2 = g.N.Nor.state c.open_vote-2.new.nor in
    fails-as c.from_residual-in_err-open_vote-2.result _ (λ _. Succeeds s0 s2) (λ e. Refuses e s0 s2) c.from_residual-in_err-open_vote-2.ensures.1
    (refuses-after _ s0 s1 s2 c.in_ok-open_vote.ensures.ends c.in_err-open_vote-2.ensures.ends)

pub returns-clause-ends : goal.returns-clause-ends
returns-clause-ends g c = succeeds-after (g.N.Nor.state c.args.nor.now) (g.N.Nor.state c.open_vote.new.nor) (g.N.Nor.state c.open_vote-2.new.nor) c.in_ok-open_vote.ensures.ends c.in_ok-open_vote-2.ensures.ends

pub returns-in_err-open_vote-clause-loses : goal.returns-in_err-open_vote-clause-loses
returns-in_err-open_vote-clause-loses g c is h =
    let p = err_from_is_err_and c.from_residual.result c.from_residual.ensures.1 in
    let q = rw c.first_votes-first.ensures at (c.in_err-open_vote.ensures.cut_bits (cc (p.1, p.2))) in
    first-loses c.args.journal (bits_in (g.N.Nor.state c.args.nor.now)) (bits_in (g.N.Nor.state c.open_vote.new.nor)) c.requires.size c.requires.may h q

pub returns-in_err-open_vote-2-clause-loses : goal.returns-in_err-open_vote-2-clause-loses
returns-in_err-open_vote-2-clause-loses g c is h =
    let p = err_from_is_err_and c.from_residual-in_err-open_vote-2.result c.from_residual-in_err-open_vote-2.ensures.1 in
    let x = c.args.journal in
    let s0 = g.N.Nor.state c.args.nor.now in
    let s1 = g.N.Nor.state c.open_vote.new.nor in
    let s2 = g.N.Nor.state c.open_vote-2.new.nor in
    let q = rw c.first_votes-first.ensures at c.in_ok-open_vote.ensures.ok in
    let s = first-opened x s0.memory s1.memory c.requires.may q in
    let r = rw c.second_votes-second.ensures at (c.in_err-open_vote-2.ensures.cut_bits (cc (p.1, p.2))) in
    let h1 = vote-firm (bits_in s0) (bits_in s1) (first_at x) 255 254 (first-region x) (omega arith) c.in_ok-open_vote.ensures.ends.kept.bits q h in
    second-loses x (bits_in s1) (bits_in s2) (rw c.in_ok-open_vote.ensures.size c.requires.size) s.0.sound h1 r

pub returns-clause-stays : goal.returns-clause-stays
returns-clause-stays g c h =
    let x = c.args.journal in
    let s0 = g.N.Nor.state c.args.nor.now in
    let s1 = g.N.Nor.state c.open_vote.new.nor in
    let s2 = g.N.Nor.state c.open_vote-2.new.nor in
    let q = rw c.first_votes-first.ensures at c.in_ok-open_vote.ensures.ok in
    let r = rw c.second_votes-second.ensures at c.in_ok-open_vote-2.ensures.ok in
    let h1 = vote-firm (bits_in s0) (bits_in s1) (first_at x) 255 254 (first-region x) (omega arith) c.in_ok-open_vote.ensures.ends.kept.bits q h in
    vote-firm (bits_in s1) (bits_in s2) (second_at x) 255 254 (second-region x) (omega arith) c.in_ok-open_vote-2.ensures.ends.kept.bits r h1

pub returns-in_err-open_vote-clause-opens : goal.returns-in_err-open_vote-clause-opens
returns-in_err-open_vote-clause-opens g c is h =
    let p = err_from_is_err_and c.from_residual.result c.from_residual.ensures.1 in
    let q = rw c.first_votes-first.ensures at (c.in_err-open_vote.ensures.cut_bits (cc (p.1, p.2))) in
    first-opens c.args.journal (bits_in (g.N.Nor.state c.args.nor.now)) (bits_in (g.N.Nor.state c.open_vote.new.nor)) c.requires.size c.requires.may h q

pub returns-in_err-open_vote-2-clause-opens : goal.returns-in_err-open_vote-2-clause-opens
returns-in_err-open_vote-2-clause-opens g c is h =
    let p = err_from_is_err_and c.from_residual-in_err-open_vote-2.result c.from_residual-in_err-open_vote-2.ensures.1 in
    let x = c.args.journal in
    let s0 = g.N.Nor.state c.args.nor.now in
    let s1 = g.N.Nor.state c.open_vote.new.nor in
    let q = rw c.first_votes-first.ensures at c.in_ok-open_vote.ensures.ok in
    let s = first-opened x s0.memory s1.memory c.requires.may q in
    let r = rw c.second_votes-second.ensures at (c.in_err-open_vote-2.ensures.cut_bits (cc (p.1, p.2))) in
    let h1 = vote-firm (bits_in s0) (bits_in s1) (first_at x) 255 254 (first-region x) (omega arith) c.in_ok-open_vote.ensures.ends.kept.bits q h in
    second-opens x (bits_in s1) (bits_in (g.N.Nor.state c.open_vote-2.new.nor)) (rw c.in_ok-open_vote.ensures.size c.requires.size) s.0.sound h1 r
