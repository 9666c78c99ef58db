use Rattle.std.proofs.Common.{◌≡◌, ℕ, List, ap, sym, subst, ◌∙◌}
use Rattle.std.proofs.lemmas.Result.{err_from_is_err_and}
use Rattle.erase_journal.specs.declared.phase.ErasePhase.TheVariants.{Idle, Doomed, Closing}
use Rattle.erase_journal.specs.Journals.{unused, settled}
use Rattle.chip_model.specs.Memory.{cleared, erased}
use Rattle.erase_journal.proofs.Steps.{steps-on}
use Rattle.erase_journal.proofs.Renewal.{erased-as, erase-cut, first-closed, first-close-cut, second-closed, second-close-cut, open-first, open-second, stands-on, same-blocks-on}
use Rattle.nor_driver.proofs.CallLaws.{fails-as, refuses-since, kept-after}
use Rattle.nor_driver.specs.State.{bits_in, Succeeds, Refuses}
use Rattle.chip_model.specs.Wavering.{Bits}
use Rattle.nor_layout.specs.Journals.{journal_at}
use Rattle.erase_journal.specs.Weak.{IsFirmJournal}
use Rattle.erase_journal.proofs.WeakLaws.{erase-firm, are-firm-stays}
use Rattle.nor_layout.specs.Journals.{first_at, second_at}
use Rattle.std.proofs.Common.{arith}
use Rattle.erase_journal.proofs.Cuts.{journal-cut}
use Rattle.erase_journal.proofs.Standing.{erased-firm, first-close-loses, first-region, second-close-loses, second-region, vote-firm}
use Rattle.std.proofs.Common.{inr}
use Rattle.erase_journal.proofs.Torn.{erase-aside, journals-below, same-after, votes-below}
use Rattle.erase_journal.proofs.Unopened.{erasing-opens, first-close-opens, second-close-opens}
use Rattle.erase_journal.proofs.journal_erase.renew.Goals as goal

pub returns-in_err-erase_small-clause-cut : goal.returns-in_err-erase_small-clause-cut
returns-in_err-erase_small-clause-cut g c is =
    let p = err_from_is_err_and c.from_residual.result c.from_residual.ensures.1 in
    let q = rw c.place.ensures at (c.in_err-erase_small.ensures.cut (cc (p.1, p.2))) in
    erase-cut c.args.journal (g.N.Nor.state c.args.nor.now).memory (g.N.Nor.state c.erase_small.new.self).memory c.requires.doomed q

pub close_vote-requires-clause-some : goal.close_vote-requires-clause-some
close_vote-requires-clause-some g c =
    let s = erased-as c.args.journal (g.N.Nor.state c.args.nor.now).memory (g.N.Nor.state c.erase_small.new.self).memory c.requires.size c.requires.doomed (c.in_ok-erase_small.ensures.ok ∙ ap (λ at. erased (g.N.Nor.state c.args.nor.now).memory at 4096) c.place.ensures) in
    rw c.first_votes-first.ensures (open-first c.args.journal (g.N.Nor.state c.erase_small.new.self).memory s.step.sound)

pub returns-in_err-close_vote-clause-cut : goal.returns-in_err-close_vote-clause-cut
returns-in_err-close_vote-clause-cut g c is =
    let p = err_from_is_err_and c.from_residual-in_err-close_vote.result c.from_residual-in_err-close_vote.ensures.1 in
    let s = erased-as c.args.journal (g.N.Nor.state c.args.nor.now).memory (g.N.Nor.state c.erase_small.new.self).memory c.requires.size c.requires.doomed (c.in_ok-erase_small.ensures.ok ∙ ap (λ at. erased (g.N.Nor.state c.args.nor.now).memory at 4096) c.place.ensures) in
    let q = rw c.first_votes-first.ensures at (c.in_err-close_vote.ensures.cut (cc (p.1, p.2))) in
    stands-on (g.N.Nor.state c.args.nor.now).memory (g.N.Nor.state c.erase_small.new.self).memory (g.N.Nor.state c.close_vote.new.nor).memory s.blocks (first-close-cut c.args.journal (g.N.Nor.state c.erase_small.new.self).memory (g.N.Nor.state c.close_vote.new.nor).memory s.step.sound (s.votes ∙ c.requires.one) s.blank q)

pub close_vote-requires-2-clause-some : goal.close_vote-requires-2-clause-some
close_vote-requires-2-clause-some g c =
    let s = erased-as c.args.journal (g.N.Nor.state c.args.nor.now).memory (g.N.Nor.state c.erase_small.new.self).memory c.requires.size c.requires.doomed (c.in_ok-erase_small.ensures.ok ∙ ap (λ at. erased (g.N.Nor.state c.args.nor.now).memory at 4096) c.place.ensures) in
    let q = rw c.first_votes-first.ensures at c.in_ok-close_vote.ensures.ok in
    let t = first-closed c.args.journal (g.N.Nor.state c.erase_small.new.self).memory (g.N.Nor.state c.close_vote.new.nor).memory s.step.sound (s.votes ∙ c.requires.one) s.blank q in
    rw c.second_votes-second.ensures (open-second c.args.journal (g.N.Nor.state c.close_vote.new.nor).memory t.0.sound)

pub returns-in_err-close_vote-2-clause-cut : goal.returns-in_err-close_vote-2-clause-cut
returns-in_err-close_vote-2-clause-cut g c is =
    let p = err_from_is_err_and c.from_residual-in_err-close_vote-2.result c.from_residual-in_err-close_vote-2.ensures.1 in
    let s = erased-as c.args.journal (g.N.Nor.state c.args.nor.now).memory (g.N.Nor.state c.erase_small.new.self).memory c.requires.size c.requires.doomed (c.in_ok-erase_small.ensures.ok ∙ ap (λ at. erased (g.N.Nor.state c.args.nor.now).memory at 4096) c.place.ensures) in
    let q = rw c.first_votes-first.ensures at c.in_ok-close_vote.ensures.ok in
    let t = first-closed c.args.journal (g.N.Nor.state c.erase_small.new.self).memory (g.N.Nor.state c.close_vote.new.nor).memory s.step.sound (s.votes ∙ c.requires.one) s.blank q in
    let r = rw c.second_votes-second.ensures at (c.in_err-close_vote-2.ensures.cut (cc (p.1, p.2))) in
    stands-on (g.N.Nor.state c.args.nor.now).memory (g.N.Nor.state c.close_vote.new.nor).memory (g.N.Nor.state c.close_vote-2.new.nor).memory (same-blocks-on (g.N.Nor.state c.args.nor.now).memory (g.N.Nor.state c.erase_small.new.self).memory (g.N.Nor.state c.close_vote.new.nor).memory s.blocks t.1) (second-close-cut c.args.journal (g.N.Nor.state c.close_vote.new.nor).memory (g.N.Nor.state c.close_vote-2.new.nor).memory t.0.sound r)

pub returns-clause-ok : goal.returns-clause-ok
returns-clause-ok g c =
    let s = erased-as c.args.journal (g.N.Nor.state c.args.nor.now).memory (g.N.Nor.state c.erase_small.new.self).memory c.requires.size c.requires.doomed (c.in_ok-erase_small.ensures.ok ∙ ap (λ at. erased (g.N.Nor.state c.args.nor.now).memory at 4096) c.place.ensures) in
    let q = rw c.first_votes-first.ensures at c.in_ok-close_vote.ensures.ok in
    let t = first-closed c.args.journal (g.N.Nor.state c.erase_small.new.self).memory (g.N.Nor.state c.close_vote.new.nor).memory s.step.sound (s.votes ∙ c.requires.one) s.blank q in
    let r = rw c.second_votes-second.ensures at c.in_ok-close_vote-2.ensures.ok in
    let v = second-closed c.args.journal (g.N.Nor.state c.close_vote.new.nor).memory (g.N.Nor.state c.close_vote-2.new.nor).memory t.0.sound r in
    steps-on (settled (Doomed c.args.journal) (unused (g.N.Nor.state c.args.nor.now).memory)) (Closing c.args.journal) Idle (g.N.Nor.state c.close_vote.new.nor).memory (g.N.Nor.state c.close_vote-2.new.nor).memory (steps-on (settled (Doomed c.args.journal) (unused (g.N.Nor.state c.args.nor.now).memory)) (Doomed c.args.journal) (Closing c.args.journal) (g.N.Nor.state c.erase_small.new.self).memory (g.N.Nor.state c.close_vote.new.nor).memory s.step t.0) v.0

pub returns-clause-none : goal.returns-clause-none
returns-clause-none g c =
    let s = erased-as c.args.journal (g.N.Nor.state c.args.nor.now).memory (g.N.Nor.state c.erase_small.new.self).memory c.requires.size c.requires.doomed (c.in_ok-erase_small.ensures.ok ∙ ap (λ at. erased (g.N.Nor.state c.args.nor.now).memory at 4096) c.place.ensures) in
    let q = rw c.first_votes-first.ensures at c.in_ok-close_vote.ensures.ok in
    let t = first-closed c.args.journal (g.N.Nor.state c.erase_small.new.self).memory (g.N.Nor.state c.close_vote.new.nor).memory s.step.sound (s.votes ∙ c.requires.one) s.blank q in
    let r = rw c.second_votes-second.ensures at c.in_ok-close_vote-2.ensures.ok in
    let v = second-closed c.args.journal (g.N.Nor.state c.close_vote.new.nor).memory (g.N.Nor.state c.close_vote-2.new.nor).memory t.0.sound r in
    v.2

pub returns-clause-blocks : goal.returns-clause-blocks
returns-clause-blocks g c =
    let s = erased-as c.args.journal (g.N.Nor.state c.args.nor.now).memory (g.N.Nor.state c.erase_small.new.self).memory c.requires.size c.requires.doomed (c.in_ok-erase_small.ensures.ok ∙ ap (λ at. erased (g.N.Nor.state c.args.nor.now).memory at 4096) c.place.ensures) in
    let q = rw c.first_votes-first.ensures at c.in_ok-close_vote.ensures.ok in
    let t = first-closed c.args.journal (g.N.Nor.state c.erase_small.new.self).memory (g.N.Nor.state c.close_vote.new.nor).memory s.step.sound (s.votes ∙ c.requires.one) s.blank q in
    let r = rw c.second_votes-second.ensures at c.in_ok-close_vote-2.ensures.ok in
    let v = second-closed c.args.journal (g.N.Nor.state c.close_vote.new.nor).memory (g.N.Nor.state c.close_vote-2.new.nor).memory t.0.sound r in
    same-blocks-on (g.N.Nor.state c.args.nor.now).memory (g.N.Nor.state c.close_vote.new.nor).memory (g.N.Nor.state c.close_vote-2.new.nor).memory (same-blocks-on (g.N.Nor.state c.args.nor.now).memory (g.N.Nor.state c.erase_small.new.self).memory (g.N.Nor.state c.close_vote.new.nor).memory s.blocks t.1) v.1

pub returns-in_err-close_vote-clause-ends : goal.returns-in_err-close_vote-clause-ends
returns-in_err-close_vote-clause-ends g c =
    let s0 = g.N.Nor.state c.args.nor.now in
    let s1 = g.N.Nor.state c.erase_small.new.self in
    let s2 = g.N.Nor.state c.close_vote.new.nor in
    fails-as c.from_residual-in_err-close_vote.result _ (λ _. Succeeds s0 s2) (λ e. Refuses e s0 s2) c.from_residual-in_err-close_vote.ensures.1
    (refuses-since _ s0 s1 s2 c.in_ok-erase_small.ensures.ready c.in_ok-erase_small.ensures.kept c.in_err-close_vote.ensures.ends)

pub returns-in_err-close_vote-2-clause-ends : goal.returns-in_err-close_vote-2-clause-ends
returns-in_err-close_vote-2-clause-ends g c =
    let s0 = g.N.Nor.state c.args.nor.now in
    let s1 = g.N.Nor.state c.erase_small.new.self in
    let s2 = g.N.Nor.state c.close_vote.new.nor in
    let s3 = g.N.Nor.state c.close_vote-2.new.nor in
    let k = kept-after s0 s1 s2 c.in_ok-erase_small.ensures.kept c.in_ok-close_vote.ensures.ends.kept in
    fails-as c.from_residual-in_err-close_vote-2.result _ (λ _. Succeeds s0 s3) (λ e. Refuses e s0 s3) c.from_residual-in_err-close_vote-2.ensures.1
    (refuses-since _ s0 s2 s3 c.in_ok-erase_small.ensures.ready k c.in_err-close_vote-2.ensures.ends)

pub returns-clause-ends : goal.returns-clause-ends
returns-clause-ends g c =
    let s0 = g.N.Nor.state c.args.nor.now in
    let s1 = g.N.Nor.state c.erase_small.new.self in
    let s2 = g.N.Nor.state c.close_vote.new.nor in
    let s3 = g.N.Nor.state c.close_vote-2.new.nor in
    record {
      ready = c.in_ok-erase_small.ensures.ready;
      kept = kept-after s0 s2 s3 (kept-after s0 s1 s2 c.in_ok-erase_small.ensures.kept c.in_ok-close_vote.ensures.ends.kept) c.in_ok-close_vote-2.ensures.ends.kept;
    }

pub returns-clause-firm : goal.returns-clause-firm
returns-clause-firm g c =
    let s0 = g.N.Nor.state c.args.nor.now in
    let s1 = g.N.Nor.state c.erase_small.new.self in
    let s2 = g.N.Nor.state c.close_vote.new.nor in
    let s3 = g.N.Nor.state c.close_vote-2.new.nor in
    let weak : s1.weak ≡ cleared s0.weak (journal_at c.args.journal) 4096 = ap (λ (b : Bits). b.weak) c.in_ok-erase_small.ensures.firm ∙ ap (λ at. cleared s0.weak at 4096) c.place.ensures in
    let firm = subst (λ (w : List ℕ). IsFirmJournal w c.args.journal) (sym weak) (erase-firm s0.weak (journal_at c.args.journal) 4096) in
    let k = kept-after s1 s2 s3 c.in_ok-close_vote.ensures.ends.kept c.in_ok-close_vote-2.ensures.ends.kept in
    are-firm-stays (bits_in s1) (bits_in s3) (journal_at c.args.journal) 4096 k.bits firm

pub returns-in_err-erase_small-clause-loses : goal.returns-in_err-erase_small-clause-loses
returns-in_err-erase_small-clause-loses g c is h =
    let p = err_from_is_err_and c.from_residual.result c.from_residual.ensures.1 in
    let q = rw c.place.ensures at (c.in_err-erase_small.ensures.cut_bits (cc (p.1, p.2))) in
    journal-cut (bits_in (g.N.Nor.state c.args.nor.now)) (bits_in (g.N.Nor.state c.erase_small.new.self)) c.args.journal h c.requires.doomed q

pub returns-in_err-close_vote-clause-loses : goal.returns-in_err-close_vote-clause-loses
returns-in_err-close_vote-clause-loses g c is h =
    let p = err_from_is_err_and c.from_residual-in_err-close_vote.result c.from_residual-in_err-close_vote.ensures.1 in
    let x = c.args.journal in
    let s0 = g.N.Nor.state c.args.nor.now in
    let s1 = g.N.Nor.state c.erase_small.new.self in
    let s2 = g.N.Nor.state c.close_vote.new.nor in
    let s = erased-as x s0.memory s1.memory c.requires.size c.requires.doomed (c.in_ok-erase_small.ensures.ok ∙ ap (λ at. erased s0.memory at 4096) c.place.ensures) in
    let h1 = erased-firm x (bits_in s0) (bits_in s1) c.in_ok-erase_small.ensures.kept.bits (rw c.place.ensures at c.in_ok-erase_small.ensures.firm) h in
    let q = rw c.first_votes-first.ensures at (c.in_err-close_vote.ensures.cut_bits (cc (p.1, p.2))) in
    first-close-loses x (bits_in s1) (bits_in s2) (rw c.in_ok-erase_small.ensures.size c.requires.size) s.step.sound (s.votes ∙ c.requires.one) s.blank h1 q

pub returns-in_err-close_vote-2-clause-loses : goal.returns-in_err-close_vote-2-clause-loses
returns-in_err-close_vote-2-clause-loses g c is h =
    let p = err_from_is_err_and c.from_residual-in_err-close_vote-2.result c.from_residual-in_err-close_vote-2.ensures.1 in
    let x = c.args.journal in
    let s0 = g.N.Nor.state c.args.nor.now in
    let s1 = g.N.Nor.state c.erase_small.new.self in
    let s2 = g.N.Nor.state c.close_vote.new.nor in
    let s = erased-as x s0.memory s1.memory c.requires.size c.requires.doomed (c.in_ok-erase_small.ensures.ok ∙ ap (λ at. erased s0.memory at 4096) c.place.ensures) in
    let h1 = erased-firm x (bits_in s0) (bits_in s1) c.in_ok-erase_small.ensures.kept.bits (rw c.place.ensures at c.in_ok-erase_small.ensures.firm) h in
    let q = rw c.first_votes-first.ensures at c.in_ok-close_vote.ensures.ok in
    let t = first-closed x s1.memory s2.memory s.step.sound (s.votes ∙ c.requires.one) s.blank q in
    let h2 = vote-firm (bits_in s1) (bits_in s2) (first_at x) 254 252 (first-region x) (omega arith) c.in_ok-close_vote.ensures.ends.kept.bits q h1 in
    let r = rw c.second_votes-second.ensures at (c.in_err-close_vote-2.ensures.cut_bits (cc (p.1, p.2))) in
    second-close-loses x (bits_in s2) (bits_in (g.N.Nor.state c.close_vote-2.new.nor)) (rw (c.in_ok-close_vote.ensures.size, c.in_ok-erase_small.ensures.size) c.requires.size) t.0.sound h2 r

pub returns-clause-stays : goal.returns-clause-stays
returns-clause-stays g c h =
    let x = c.args.journal in
    let s0 = g.N.Nor.state c.args.nor.now in
    let s1 = g.N.Nor.state c.erase_small.new.self in
    let s2 = g.N.Nor.state c.close_vote.new.nor in
    let h1 = erased-firm x (bits_in s0) (bits_in s1) c.in_ok-erase_small.ensures.kept.bits (rw c.place.ensures at c.in_ok-erase_small.ensures.firm) h in
    let q = rw c.first_votes-first.ensures at c.in_ok-close_vote.ensures.ok in
    let h2 = vote-firm (bits_in s1) (bits_in s2) (first_at x) 254 252 (first-region x) (omega arith) c.in_ok-close_vote.ensures.ends.kept.bits q h1 in
    let r = rw c.second_votes-second.ensures at c.in_ok-close_vote-2.ensures.ok in
    vote-firm (bits_in s2) (bits_in (g.N.Nor.state c.close_vote-2.new.nor)) (second_at x) 254 252 (second-region x) (omega arith) c.in_ok-close_vote-2.ensures.ends.kept.bits r h2

pub returns-in_err-erase_small-clause-data : goal.returns-in_err-erase_small-clause-data
returns-in_err-erase_small-clause-data g c i from =
    let s0 = g.N.Nor.state c.args.nor.now in
    let s1 = g.N.Nor.state c.erase_small.new.self in
    let at = c.place.ensures in
    let low = journals-below c.args.journal in
    let first = erase-aside c.erase_small.result s0 s1 c.place.result 4096 c.erase_small.ensures.firm c.erase_small.ensures.cut_bits c.erase_small.ensures.slow c.erase_small.ensures.slow_bits i (inr (omega (arith, from, at, low))) in
    first

pub returns-in_err-close_vote-clause-data : goal.returns-in_err-close_vote-clause-data
returns-in_err-close_vote-clause-data g c i from =
    let s0 = g.N.Nor.state c.args.nor.now in
    let s1 = g.N.Nor.state c.erase_small.new.self in
    let at = c.place.ensures in
    let low = journals-below c.args.journal in
    let first = erase-aside c.erase_small.result s0 s1 c.place.result 4096 c.erase_small.ensures.firm c.erase_small.ensures.cut_bits c.erase_small.ensures.slow c.erase_small.ensures.slow_bits i (inr (omega (arith, from, at, low))) in
    let s2 = g.N.Nor.state c.close_vote.new.nor in
    let v1 = c.first_votes-first.ensures in
    let low1 = (votes-below c.args.journal).0 in
    let second = same-after (bits_in s0) (bits_in s1) (bits_in s2) i first (c.close_vote.ensures.data (omega (arith, v1, low1)) i from) in
    second

pub returns-in_err-close_vote-2-clause-data : goal.returns-in_err-close_vote-2-clause-data
returns-in_err-close_vote-2-clause-data g c i from =
    let s0 = g.N.Nor.state c.args.nor.now in
    let s1 = g.N.Nor.state c.erase_small.new.self in
    let at = c.place.ensures in
    let low = journals-below c.args.journal in
    let first = erase-aside c.erase_small.result s0 s1 c.place.result 4096 c.erase_small.ensures.firm c.erase_small.ensures.cut_bits c.erase_small.ensures.slow c.erase_small.ensures.slow_bits i (inr (omega (arith, from, at, low))) in
    let s2 = g.N.Nor.state c.close_vote.new.nor in
    let v1 = c.first_votes-first.ensures in
    let low1 = (votes-below c.args.journal).0 in
    let second = same-after (bits_in s0) (bits_in s1) (bits_in s2) i first (c.close_vote.ensures.data (omega (arith, v1, low1)) i from) in
    let s3 = g.N.Nor.state c.close_vote-2.new.nor in
    let v2 = c.second_votes-second.ensures in
    let low2 = (votes-below c.args.journal).1 in
    same-after (bits_in s0) (bits_in s2) (bits_in s3) i second (c.close_vote-2.ensures.data (omega (arith, v2, low2)) i from)

pub returns-clause-data : goal.returns-clause-data
returns-clause-data g c i from =
    let s0 = g.N.Nor.state c.args.nor.now in
    let s1 = g.N.Nor.state c.erase_small.new.self in
    let at = c.place.ensures in
    let low = journals-below c.args.journal in
    let first = erase-aside c.erase_small.result s0 s1 c.place.result 4096 c.erase_small.ensures.firm c.erase_small.ensures.cut_bits c.erase_small.ensures.slow c.erase_small.ensures.slow_bits i (inr (omega (arith, from, at, low))) in
    let s2 = g.N.Nor.state c.close_vote.new.nor in
    let v1 = c.first_votes-first.ensures in
    let low1 = (votes-below c.args.journal).0 in
    let second = same-after (bits_in s0) (bits_in s1) (bits_in s2) i first (c.close_vote.ensures.data (omega (arith, v1, low1)) i from) in
    let s3 = g.N.Nor.state c.close_vote-2.new.nor in
    let v2 = c.second_votes-second.ensures in
    let low2 = (votes-below c.args.journal).1 in
    same-after (bits_in s0) (bits_in s2) (bits_in s3) i second (c.close_vote-2.ensures.data (omega (arith, v2, low2)) i from)

pub returns-in_err-erase_small-clause-opens : goal.returns-in_err-erase_small-clause-opens
returns-in_err-erase_small-clause-opens g c is h =
    let p = err_from_is_err_and c.from_residual.result c.from_residual.ensures.1 in
    let q = rw c.place.ensures at (c.in_err-erase_small.ensures.cut_bits (cc (p.1, p.2))) in
    erasing-opens (bits_in (g.N.Nor.state c.args.nor.now)) (bits_in (g.N.Nor.state c.erase_small.new.self)) c.args.journal h c.requires.doomed q

pub returns-in_err-close_vote-clause-opens : goal.returns-in_err-close_vote-clause-opens
returns-in_err-close_vote-clause-opens g c is h =
    let p = err_from_is_err_and c.from_residual-in_err-close_vote.result c.from_residual-in_err-close_vote.ensures.1 in
    let x = c.args.journal in
    let s0 = g.N.Nor.state c.args.nor.now in
    let s1 = g.N.Nor.state c.erase_small.new.self in
    let s = erased-as x s0.memory s1.memory c.requires.size c.requires.doomed (c.in_ok-erase_small.ensures.ok ∙ ap (λ at. erased s0.memory at 4096) c.place.ensures) in
    let h1 = erased-firm x (bits_in s0) (bits_in s1) c.in_ok-erase_small.ensures.kept.bits (rw c.place.ensures at c.in_ok-erase_small.ensures.firm) h in
    let q = rw c.first_votes-first.ensures at (c.in_err-close_vote.ensures.cut_bits (cc (p.1, p.2))) in
    first-close-opens x (bits_in s1) (bits_in (g.N.Nor.state c.close_vote.new.nor)) (rw c.in_ok-erase_small.ensures.size c.requires.size) s.step.sound (s.votes ∙ c.requires.one) s.blank h1 q

pub returns-in_err-close_vote-2-clause-opens : goal.returns-in_err-close_vote-2-clause-opens
returns-in_err-close_vote-2-clause-opens g c is h =
    let p = err_from_is_err_and c.from_residual-in_err-close_vote-2.result c.from_residual-in_err-close_vote-2.ensures.1 in
    let x = c.args.journal in
    let s0 = g.N.Nor.state c.args.nor.now in
    let s1 = g.N.Nor.state c.erase_small.new.self in
    let s2 = g.N.Nor.state c.close_vote.new.nor in
    let s = erased-as x s0.memory s1.memory c.requires.size c.requires.doomed (c.in_ok-erase_small.ensures.ok ∙ ap (λ at. erased s0.memory at 4096) c.place.ensures) in
    let h1 = erased-firm x (bits_in s0) (bits_in s1) c.in_ok-erase_small.ensures.kept.bits (rw c.place.ensures at c.in_ok-erase_small.ensures.firm) h in
    let q = rw c.first_votes-first.ensures at c.in_ok-close_vote.ensures.ok in
    let t = first-closed x s1.memory s2.memory s.step.sound (s.votes ∙ c.requires.one) s.blank q in
    let h2 = vote-firm (bits_in s1) (bits_in s2) (first_at x) 254 252 (first-region x) (omega arith) c.in_ok-close_vote.ensures.ends.kept.bits q h1 in
    let r = rw c.second_votes-second.ensures at (c.in_err-close_vote-2.ensures.cut_bits (cc (p.1, p.2))) in
    second-close-opens x (bits_in s2) (bits_in (g.N.Nor.state c.close_vote-2.new.nor)) (rw (c.in_ok-close_vote.ensures.size, c.in_ok-erase_small.ensures.size) c.requires.size) t.0.sound h2 r
