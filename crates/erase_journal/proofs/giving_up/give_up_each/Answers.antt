use Rattle.std.proofs.lemmas.Result.{err_from_is_err_and, on_ok_weaker, IfErr-weaker}
use Rattle.nor_layout.specs.declared.journal.JournalId.TheVariants.{J0, J1, J2}
use Rattle.nor_driver.specs.State.{bits_in, Succeeds, Refuses}
use Rattle.nor_driver.proofs.Firmer.{firmer-on}
use Rattle.nor_driver.proofs.CallLaws.{fails-as, fails-of, kept-after, refuses-since}
use Rattle.erase_journal.specs.Journals.{unused}
use Rattle.erase_journal.proofs.FirmJournals.{each-first, each-recovered-stays, first-given, first-stays, last-given, second-given, second-stays}
use Rattle.erase_journal.proofs.Renewal.{same-blocks-on, stands-on}
use Rattle.erase_journal.proofs.giving_up.give_up_each.Goals as goal

pub returns-clause-gives : goal.returns-clause-gives
returns-clause-gives g c =
    let m0 = (g.N.Nor.state c.args.nor.now).memory in
    let m1 = (g.N.Nor.state c.give_up_first.new.nor).memory in
    let m2 = (g.N.Nor.state c.give_up_first-2.new.nor).memory in
    let m3 = (g.N.Nor.state c.give_up_first-3.new.nor).memory in
    let m4 = (g.N.Nor.state c.give_up_second.new.nor).memory in
    let m5 = (g.N.Nor.state c.give_up_second-2.new.nor).memory in
    let m6 = (g.N.Nor.state c.give_up_second-3.new.nor).memory in
    on_ok_weaker c.give_up_second-3.result (λ n. record {
      first0 = unused m1;
      first1 = unused m2;
      first2 = unused m3;
      second0 = unused m4;
      second1 = unused m5;
      gives_first0 = c.in_ok-give_up_first.ensures.gives;
      gives_first1 = c.in_ok-give_up_first-2.ensures.gives;
      gives_first2 = c.in_ok-give_up_first-3.ensures.gives;
      gives_second0 = c.in_ok-give_up_second.ensures.gives;
      gives_second1 = c.in_ok-give_up_second-2.ensures.gives;
      gives_second2 = n;
    }) c.give_up_second-3.ensures.gives

pub returns-clause-cut : goal.returns-clause-cut
returns-clause-cut g c is =
    let m0 = (g.N.Nor.state c.args.nor.now).memory in
    let m1 = (g.N.Nor.state c.give_up_first.new.nor).memory in
    let m2 = (g.N.Nor.state c.give_up_first-2.new.nor).memory in
    let m3 = (g.N.Nor.state c.give_up_first-3.new.nor).memory in
    let m4 = (g.N.Nor.state c.give_up_second.new.nor).memory in
    let m5 = (g.N.Nor.state c.give_up_second-2.new.nor).memory in
    let m6 = (g.N.Nor.state c.give_up_second-3.new.nor).memory in
    let s2 = same-blocks-on m0 m1 m2 c.in_ok-give_up_first.ensures.blocks c.in_ok-give_up_first-2.ensures.blocks in
    let s3 = same-blocks-on m0 m2 m3 s2 c.in_ok-give_up_first-3.ensures.blocks in
    let s4 = same-blocks-on m0 m3 m4 s3 c.in_ok-give_up_second.ensures.blocks in
    let s5 = same-blocks-on m0 m4 m5 s4 c.in_ok-give_up_second-2.ensures.blocks in
    stands-on m0 m5 m6 s5 (c.give_up_second-3.ensures.cut is)

pub returns-in_err-give_up_first-2-clause-fails : goal.returns-in_err-give_up_first-2-clause-fails
returns-in_err-give_up_first-2-clause-fails g c =
    let s0 = g.N.Nor.state c.args.nor.now in
    let s1 = g.N.Nor.state c.give_up_first.new.nor in
    let s2 = g.N.Nor.state c.give_up_first-2.new.nor in
    let k1 = c.in_ok-give_up_first.ensures.kept in
    fails-of c.from_residual-in_err-give_up_first-2.result (Succeeds s0 s2) (λ e. Refuses e s0 s2) (fails-as c.from_residual-in_err-give_up_first-2.result _ (λ _. Succeeds s0 s2) (λ e. Refuses e s0 s2) c.from_residual-in_err-give_up_first-2.ensures.1
    (refuses-since _ s0 s1 s2 c.requires.ready k1 c.in_err-give_up_first-2.ensures.fails))

pub returns-in_err-give_up_first-3-clause-fails : goal.returns-in_err-give_up_first-3-clause-fails
returns-in_err-give_up_first-3-clause-fails g c =
    let s0 = g.N.Nor.state c.args.nor.now in
    let s1 = g.N.Nor.state c.give_up_first.new.nor in
    let s2 = g.N.Nor.state c.give_up_first-2.new.nor in
    let s3 = g.N.Nor.state c.give_up_first-3.new.nor in
    let k1 = c.in_ok-give_up_first.ensures.kept in
    let k2 = kept-after s0 s1 s2 k1 c.in_ok-give_up_first-2.ensures.kept in
    fails-of c.from_residual-in_err-give_up_first-3.result (Succeeds s0 s3) (λ e. Refuses e s0 s3) (fails-as c.from_residual-in_err-give_up_first-3.result _ (λ _. Succeeds s0 s3) (λ e. Refuses e s0 s3) c.from_residual-in_err-give_up_first-3.ensures.1
    (refuses-since _ s0 s2 s3 c.requires.ready k2 c.in_err-give_up_first-3.ensures.fails))

pub returns-in_err-give_up_second-clause-fails : goal.returns-in_err-give_up_second-clause-fails
returns-in_err-give_up_second-clause-fails g c =
    let s0 = g.N.Nor.state c.args.nor.now in
    let s1 = g.N.Nor.state c.give_up_first.new.nor in
    let s2 = g.N.Nor.state c.give_up_first-2.new.nor in
    let s3 = g.N.Nor.state c.give_up_first-3.new.nor in
    let s4 = g.N.Nor.state c.give_up_second.new.nor in
    let k1 = c.in_ok-give_up_first.ensures.kept in
    let k2 = kept-after s0 s1 s2 k1 c.in_ok-give_up_first-2.ensures.kept in
    let k3 = kept-after s0 s2 s3 k2 c.in_ok-give_up_first-3.ensures.kept in
    fails-of c.from_residual-in_err-give_up_second.result (Succeeds s0 s4) (λ e. Refuses e s0 s4) (fails-as c.from_residual-in_err-give_up_second.result _ (λ _. Succeeds s0 s4) (λ e. Refuses e s0 s4) c.from_residual-in_err-give_up_second.ensures.1
    (refuses-since _ s0 s3 s4 c.requires.ready k3 c.in_err-give_up_second.ensures.fails))

pub returns-in_err-give_up_second-2-clause-fails : goal.returns-in_err-give_up_second-2-clause-fails
returns-in_err-give_up_second-2-clause-fails g c =
    let s0 = g.N.Nor.state c.args.nor.now in
    let s1 = g.N.Nor.state c.give_up_first.new.nor in
    let s2 = g.N.Nor.state c.give_up_first-2.new.nor in
    let s3 = g.N.Nor.state c.give_up_first-3.new.nor in
    let s4 = g.N.Nor.state c.give_up_second.new.nor in
    let s5 = g.N.Nor.state c.give_up_second-2.new.nor in
    let k1 = c.in_ok-give_up_first.ensures.kept in
    let k2 = kept-after s0 s1 s2 k1 c.in_ok-give_up_first-2.ensures.kept in
    let k3 = kept-after s0 s2 s3 k2 c.in_ok-give_up_first-3.ensures.kept in
    let k4 = kept-after s0 s3 s4 k3 c.in_ok-give_up_second.ensures.kept in
    fails-of c.from_residual-in_err-give_up_second-2.result (Succeeds s0 s5) (λ e. Refuses e s0 s5) (fails-as c.from_residual-in_err-give_up_second-2.result _ (λ _. Succeeds s0 s5) (λ e. Refuses e s0 s5) c.from_residual-in_err-give_up_second-2.ensures.1
    (refuses-since _ s0 s4 s5 c.requires.ready k4 c.in_err-give_up_second-2.ensures.fails))

pub returns-in_err-give_up_second-2-clause-cut : goal.returns-in_err-give_up_second-2-clause-cut
returns-in_err-give_up_second-2-clause-cut g c is =
    let p = err_from_is_err_and c.from_residual-in_err-give_up_second-2.result c.from_residual-in_err-give_up_second-2.ensures.1 in
    let m0 = (g.N.Nor.state c.args.nor.now).memory in
    let m1 = (g.N.Nor.state c.give_up_first.new.nor).memory in
    let m2 = (g.N.Nor.state c.give_up_first-2.new.nor).memory in
    let m3 = (g.N.Nor.state c.give_up_first-3.new.nor).memory in
    let m4 = (g.N.Nor.state c.give_up_second.new.nor).memory in
    let m5 = (g.N.Nor.state c.give_up_second-2.new.nor).memory in
    let b2 = same-blocks-on m0 m1 m2 c.in_ok-give_up_first.ensures.blocks c.in_ok-give_up_first-2.ensures.blocks in
    let b3 = same-blocks-on m0 m2 m3 b2 c.in_ok-give_up_first-3.ensures.blocks in
    let b4 = same-blocks-on m0 m3 m4 b3 c.in_ok-give_up_second.ensures.blocks in
    stands-on m0 m4 m5 b4 (c.in_err-give_up_second-2.ensures.cut (cc (p.1, p.2)))

pub returns-clause-kept : goal.returns-clause-kept
returns-clause-kept g c =
    let s0 = g.N.Nor.state c.args.nor.now in
    let s1 = g.N.Nor.state c.give_up_first.new.nor in
    let s2 = g.N.Nor.state c.give_up_first-2.new.nor in
    let s3 = g.N.Nor.state c.give_up_first-3.new.nor in
    let s4 = g.N.Nor.state c.give_up_second.new.nor in
    let s5 = g.N.Nor.state c.give_up_second-2.new.nor in
    let s6 = g.N.Nor.state c.give_up_second-3.new.nor in
    let k1 = c.in_ok-give_up_first.ensures.kept in
    let k2 = kept-after s0 s1 s2 k1 c.in_ok-give_up_first-2.ensures.kept in
    let k3 = kept-after s0 s2 s3 k2 c.in_ok-give_up_first-3.ensures.kept in
    let k4 = kept-after s0 s3 s4 k3 c.in_ok-give_up_second.ensures.kept in
    let k5 = kept-after s0 s4 s5 k4 c.in_ok-give_up_second-2.ensures.kept in
    on_ok_weaker c.give_up_second-3.result (λ k. kept-after s0 s5 s6 k5 k) c.give_up_second-3.ensures.kept

pub returns-clause-fails : goal.returns-clause-fails
returns-clause-fails g c =
    let s0 = g.N.Nor.state c.args.nor.now in
    let s1 = g.N.Nor.state c.give_up_first.new.nor in
    let s2 = g.N.Nor.state c.give_up_first-2.new.nor in
    let s3 = g.N.Nor.state c.give_up_first-3.new.nor in
    let s4 = g.N.Nor.state c.give_up_second.new.nor in
    let s5 = g.N.Nor.state c.give_up_second-2.new.nor in
    let s6 = g.N.Nor.state c.give_up_second-3.new.nor in
    let k1 = c.in_ok-give_up_first.ensures.kept in
    let k2 = kept-after s0 s1 s2 k1 c.in_ok-give_up_first-2.ensures.kept in
    let k3 = kept-after s0 s2 s3 k2 c.in_ok-give_up_first-3.ensures.kept in
    let k4 = kept-after s0 s3 s4 k3 c.in_ok-give_up_second.ensures.kept in
    let k5 = kept-after s0 s4 s5 k4 c.in_ok-give_up_second-2.ensures.kept in
    IfErr-weaker c.give_up_second-3.result (λ e. Refuses e s5 s6) (λ e. Refuses e s0 s6) (λ e r. refuses-since e s0 s5 s6 c.requires.ready k5 r) c.give_up_second-3.ensures.fails

pub returns-clause-firm : goal.returns-clause-firm
returns-clause-firm g c h =
    let s0 = g.N.Nor.state c.args.nor.now in
    let s1 = g.N.Nor.state c.give_up_first.new.nor in
    let s2 = g.N.Nor.state c.give_up_first-2.new.nor in
    let s3 = g.N.Nor.state c.give_up_first-3.new.nor in
    let s4 = g.N.Nor.state c.give_up_second.new.nor in
    let s5 = g.N.Nor.state c.give_up_second-2.new.nor in
    let s6 = g.N.Nor.state c.give_up_second-3.new.nor in
    let h0 = c.requires.settled in
    let h1 = c.in_ok-give_up_first.ensures.settled in
    let f1 = c.in_ok-give_up_first.ensures.kept.bits in
    let h2 = c.in_ok-give_up_first-2.ensures.settled in
    let f2 = c.in_ok-give_up_first-2.ensures.kept.bits in
    let h3 = c.in_ok-give_up_first-3.ensures.settled in
    let f3 = c.in_ok-give_up_first-3.ensures.kept.bits in
    let h4 = c.in_ok-give_up_second.ensures.settled in
    let f4 = c.in_ok-give_up_second.ensures.kept.bits in
    let h5 = c.in_ok-give_up_second-2.ensures.settled in
    let f5 = c.in_ok-give_up_second-2.ensures.kept.bits in
    let r1 = each-recovered-stays (bits_in s0) (bits_in s1) f1 h0 h1 h in
    let r2 = each-recovered-stays (bits_in s1) (bits_in s2) f2 h1 h2 r1 in
    let r3 = each-recovered-stays (bits_in s2) (bits_in s3) f3 h2 h3 r2 in
    let r4 = each-recovered-stays (bits_in s3) (bits_in s4) f4 h3 h4 r3 in
    let r5 = each-recovered-stays (bits_in s4) (bits_in s5) f5 h4 h5 r4 in
    let f35 = firmer-on (bits_in s3) (bits_in s4) (bits_in s5) f4 f5 in
    let f25 = firmer-on (bits_in s2) (bits_in s3) (bits_in s5) f3 f35 in
    let f15 = firmer-on (bits_in s1) (bits_in s2) (bits_in s5) f2 f25 in
    let a0 = first-stays (bits_in s1) (bits_in s5) f15 h1 h5 J0 (first-given (bits_in s0) (bits_in s1) f1 h0 h1 J0 c.in_ok-give_up_first.ensures.given (h J0).0) in
    let a1 = first-stays (bits_in s2) (bits_in s5) f25 h2 h5 J1 (first-given (bits_in s1) (bits_in s2) f2 h1 h2 J1 c.in_ok-give_up_first-2.ensures.given (r1 J1).0) in
    let a2 = first-stays (bits_in s3) (bits_in s5) f35 h3 h5 J2 (first-given (bits_in s2) (bits_in s3) f3 h2 h3 J2 c.in_ok-give_up_first-3.ensures.given (r2 J2).0) in
    let b0 = second-stays (bits_in s4) (bits_in s5) f5 h4 h5 J0 (second-given (bits_in s3) (bits_in s4) f4 h3 h4 J0 c.in_ok-give_up_second.ensures.given (r3 J0).1) in
    let b1 = second-given (bits_in s4) (bits_in s5) f5 h4 h5 J1 c.in_ok-give_up_second-2.ensures.given (r4 J1).1 in
    last-given c.give_up_second-3.result s5 s6 h5 c.give_up_second-3.ensures.settled c.give_up_second-3.ensures.kept c.give_up_second-3.ensures.given (each-first (bits_in s5) a0 a1 a2) b0 b1 (r5 J2).1
