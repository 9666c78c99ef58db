use Rattle.std.proofs.Common.{inr}
use Rattle.nor_layout.specs.Journals.{journal_at}
use Rattle.nor_driver.specs.State.{bits_in, Succeeds, Refuses}
use Rattle.nor_driver.proofs.CallLaws.{fails-as, fails-of, refuses-after, succeeds-after}
use Rattle.erase_journal.proofs.WeakLaws.{are-firm-stays}
use Rattle.std.proofs.lemmas.Result.{err_from_is_err_and}
use Rattle.erase_journal.proofs.Renewal.{same-blocks-on, stands-on}
use Rattle.erase_journal.specs.declared.phase.ErasePhase.TheVariants.{Idle}
use Rattle.erase_journal.proofs.maintain.spare.Goals as goal

pub returns-in_err-renew-clause-fails : goal.returns-in_err-renew-clause-fails
returns-in_err-renew-clause-fails g c =
    let s0 = g.N.Nor.state c.args.nor.now in
    let s1 = g.N.Nor.state c.doom.new.nor in
    let s2 = g.N.Nor.state c.renew.new.nor in
    fails-of c.from_residual-in_err-renew.result (Succeeds s0 s2) (λ e. Refuses e s0 s2) (fails-as c.from_residual-in_err-renew.result _ (λ _. Succeeds s0 s2) (λ e. Refuses e s0 s2) c.from_residual-in_err-renew.ensures.1
    (refuses-after _ s0 s1 s2 c.in_ok-doom.ensures.ends c.in_err-renew.ensures.ends))

pub returns-in_err-unused-clause-fails : goal.returns-in_err-unused-clause-fails
returns-in_err-unused-clause-fails g c =
    let s0 = g.N.Nor.state c.args.nor.now in
    let s1 = g.N.Nor.state c.doom.new.nor in
    let s2 = g.N.Nor.state c.renew.new.nor in
    let s3 = g.N.Nor.state c.maintain.new.nor in
    let s = succeeds-after s0 s1 s2 c.in_ok-doom.ensures.ends c.in_ok-renew.ensures.ends in
    fails-of c.from_residual-in_err-unused.result (Succeeds s0 s3) (λ e. Refuses e s0 s3) (fails-as c.from_residual-in_err-unused.result _ (λ _. Succeeds s0 s3) (λ e. Refuses e s0 s3) c.from_residual-in_err-unused.ensures.1
    (refuses-after _ s0 s2 s3 s c.in_err-unused.ensures.ends))

pub returns-clause-kept : goal.returns-clause-kept
returns-clause-kept g c =
    let s0 = g.N.Nor.state c.args.nor.now in
    let s1 = g.N.Nor.state c.doom.new.nor in
    let s2 = g.N.Nor.state c.renew.new.nor in
    let s3 = g.N.Nor.state c.maintain.new.nor in
    (succeeds-after s0 s2 s3 (succeeds-after s0 s1 s2 c.in_ok-doom.ensures.ends c.in_ok-renew.ensures.ends) c.in_ok-unused.ensures.ends).kept

pub returns-clause-firm : goal.returns-clause-firm
returns-clause-firm g c =
    let s2 = g.N.Nor.state c.renew.new.nor in
    let s3 = g.N.Nor.state c.maintain.new.nor in
    inr (are-firm-stays (bits_in s2) (bits_in s3) (journal_at c.args.journal) 4096 c.in_ok-unused.ensures.ends.kept.bits c.in_ok-renew.ensures.firm)

pub returns-in_err-unused-clause-cut : goal.returns-in_err-unused-clause-cut
returns-in_err-unused-clause-cut g c is =
    let p = err_from_is_err_and c.from_residual-in_err-unused.result c.from_residual-in_err-unused.ensures.1 in
    let m0 = (g.N.Nor.state c.args.nor.now).memory in
    let m1 = (g.N.Nor.state c.doom.new.nor).memory in
    let m2 = (g.N.Nor.state c.renew.new.nor).memory in
    stands-on m0 m2 (g.N.Nor.state c.maintain.new.nor).memory (same-blocks-on m0 m1 m2 c.in_ok-doom.ensures.blocks c.in_ok-renew.ensures.blocks) (c.in_err-unused.ensures.cut (cc (p.1, p.2)) (Idle, c.in_ok-renew.ensures.ok.sound))
