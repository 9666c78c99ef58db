use Rattle.std.proofs.lemmas.Result.{on_ok_weaker, IfErr-weaker}
use Rattle.nor_layout.specs.declared.journal.JournalId.TheVariants.{J0, J1}
use Rattle.nor_driver.specs.State.{bits_in, Succeeds, Refuses}
use Rattle.nor_driver.proofs.CallLaws.{fails-as, fails-of, kept-after, refuses-since}
use Rattle.erase_journal.proofs.FirmJournals.{each-few-stays, last-spared, of-stays, spared-firm}
use Rattle.erase_journal.proofs.Renewal.{same-blocks-on, stands-on}
use Rattle.erase_journal.proofs.maintain.spare_each.Goals as goal

pub returns-in_err-spare-2-clause-fails : goal.returns-in_err-spare-2-clause-fails
returns-in_err-spare-2-clause-fails g c =
    let s0 = g.N.Nor.state c.args.nor.now in
    let s1 = g.N.Nor.state c.spare.new.nor in
    let s2 = g.N.Nor.state c.spare-2.new.nor in
    fails-of c.from_residual-in_err-spare-2.result (Succeeds s0 s2) (λ e. Refuses e s0 s2) (fails-as c.from_residual-in_err-spare-2.result _ (λ _. Succeeds s0 s2) (λ e. Refuses e s0 s2) c.from_residual-in_err-spare-2.ensures.1
    (refuses-since _ s0 s1 s2 c.requires.ready c.in_ok-spare.ensures.kept c.in_err-spare-2.ensures.fails))

pub returns-clause-kept : goal.returns-clause-kept
returns-clause-kept g c =
    let s0 = g.N.Nor.state c.args.nor.now in
    let s1 = g.N.Nor.state c.spare.new.nor in
    let s2 = g.N.Nor.state c.spare-2.new.nor in
    let s3 = g.N.Nor.state c.spare-3.new.nor in
    let k = kept-after s0 s1 s2 c.in_ok-spare.ensures.kept c.in_ok-spare-2.ensures.kept in
    on_ok_weaker c.spare-3.result (λ last. kept-after s0 s2 s3 k last) c.spare-3.ensures.kept

pub returns-clause-fails : goal.returns-clause-fails
returns-clause-fails g c =
    let s0 = g.N.Nor.state c.args.nor.now in
    let s1 = g.N.Nor.state c.spare.new.nor in
    let s2 = g.N.Nor.state c.spare-2.new.nor in
    let s3 = g.N.Nor.state c.spare-3.new.nor in
    let k = kept-after s0 s1 s2 c.in_ok-spare.ensures.kept c.in_ok-spare-2.ensures.kept in
    IfErr-weaker c.spare-3.result (λ e. Refuses e s2 s3) (λ e. Refuses e s0 s3) (λ e r. refuses-since e s0 s2 s3 c.requires.ready k r) c.spare-3.ensures.fails

pub returns-clause-firm : goal.returns-clause-firm
returns-clause-firm g c h =
    let s0 = g.N.Nor.state c.args.nor.now in
    let s1 = g.N.Nor.state c.spare.new.nor in
    let s2 = g.N.Nor.state c.spare-2.new.nor in
    let s3 = g.N.Nor.state c.spare-3.new.nor in
    let h0 = c.requires.restful.settled in
    let h1 = c.in_ok-spare.ensures.restful.settled in
    let h2 = c.in_ok-spare-2.ensures.restful.settled in
    let f1 = c.in_ok-spare.ensures.kept.bits in
    let f2 = c.in_ok-spare-2.ensures.kept.bits in
    let r1 = each-few-stays (bits_in s0) (bits_in s1) f1 h0 h1 h in
    let r2 = each-few-stays (bits_in s1) (bits_in s2) f2 h1 h2 r1 in
    let j0 = of-stays (bits_in s1) (bits_in s2) f2 h1 h2 J0 (spared-firm (bits_in s0) (bits_in s1) f1 h0 h1 J0 c.in_ok-spare.ensures.firm h) in
    let j1 = spared-firm (bits_in s1) (bits_in s2) f2 h1 h2 J1 c.in_ok-spare-2.ensures.firm r1 in
    last-spared c.spare-3.result s2 s3 h2 c.spare-3.ensures.restful c.spare-3.ensures.kept c.spare-3.ensures.firm j0 j1 r2

pub returns-clause-cut : goal.returns-clause-cut
returns-clause-cut g c is =
    let m0 = (g.N.Nor.state c.args.nor.now).memory in
    let m1 = (g.N.Nor.state c.spare.new.nor).memory in
    let m2 = (g.N.Nor.state c.spare-2.new.nor).memory in
    stands-on m0 m2 (g.N.Nor.state c.spare-3.new.nor).memory (same-blocks-on m0 m1 m2 c.in_ok-spare.ensures.blocks c.in_ok-spare-2.ensures.blocks) (c.spare-3.ensures.cut is)
