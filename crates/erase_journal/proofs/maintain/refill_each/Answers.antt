use Rattle.std.proofs.lemmas.Result.{on_ok_weaker, IfErr-weaker}
use Rattle.nor_driver.specs.State.{Succeeds, Refuses}
use Rattle.nor_driver.proofs.CallLaws.{fails-as, fails-of, kept-after, refuses-since}
use Rattle.erase_journal.proofs.maintain.refill_each.Goals as goal

pub returns-in_err-refill-2-clause-fails : goal.returns-in_err-refill-2-clause-fails
returns-in_err-refill-2-clause-fails g c =
    let s0 = g.N.Nor.state c.args.nor.now in
    let s1 = g.N.Nor.state c.refill.new.nor in
    let s2 = g.N.Nor.state c.refill-2.new.nor in
    fails-of c.from_residual-in_err-refill-2.result (Succeeds s0 s2) (λ e. Refuses e s0 s2) (fails-as c.from_residual-in_err-refill-2.result _ (λ _. Succeeds s0 s2) (λ e. Refuses e s0 s2) c.from_residual-in_err-refill-2.ensures.1
    (refuses-since _ s0 s1 s2 c.requires.ready c.in_ok-refill.ensures.kept c.in_err-refill-2.ensures.fails))

pub returns-clause-kept : goal.returns-clause-kept
returns-clause-kept g c =
    let s0 = g.N.Nor.state c.args.nor.now in
    let s1 = g.N.Nor.state c.refill.new.nor in
    let s2 = g.N.Nor.state c.refill-2.new.nor in
    let s3 = g.N.Nor.state c.refill-3.new.nor in
    let k = kept-after s0 s1 s2 c.in_ok-refill.ensures.kept c.in_ok-refill-2.ensures.kept in
    on_ok_weaker c.refill-3.result (λ last. kept-after s0 s2 s3 k last) c.refill-3.ensures.kept

pub returns-clause-fails : goal.returns-clause-fails
returns-clause-fails g c =
    let s0 = g.N.Nor.state c.args.nor.now in
    let s1 = g.N.Nor.state c.refill.new.nor in
    let s2 = g.N.Nor.state c.refill-2.new.nor in
    let s3 = g.N.Nor.state c.refill-3.new.nor in
    let k = kept-after s0 s1 s2 c.in_ok-refill.ensures.kept c.in_ok-refill-2.ensures.kept in
    IfErr-weaker c.refill-3.result (λ e. Refuses e s2 s3) (λ e. Refuses e s0 s3) (λ e r. refuses-since e s0 s2 s3 c.requires.ready k r) c.refill-3.ensures.fails
