use Rattle.nor_driver.specs.State.{Refuses}
use Rattle.nor_driver.proofs.CallLaws.{fails-as, refuses-after, succeeds-after}
use Rattle.erase_journal.specs.Steps.{SucceedsSettled}
use Rattle.std.proofs.lemmas.Result.{err_from_is_err_and}
use Rattle.erase_journal.proofs.Standing.{loses-after}
use Rattle.erase_journal.specs.Torn.{OpensNone}
use Rattle.erase_journal.proofs.Unopened.{opens-after}
use Rattle.erase_journal.proofs.renewing.renew_all.Goals as goal

pub returns-in_err-renew_one-clause-ends : goal.returns-in_err-renew_one-clause-ends
returns-in_err-renew_one-clause-ends g c =
    let s0 = g.N.Nor.state c.args.nor.now in
    let s1 = g.N.Nor.state c.maintain.new.nor in
    let s2 = g.N.Nor.state c.renew_one.new.nor in
    fails-as c.from_residual-in_err-renew_one.result _ (λ _. SucceedsSettled s0 s2) (λ e. Refuses e s0 s2) c.from_residual-in_err-renew_one.ensures.1
    (refuses-after _ s0 s1 s2 c.in_ok-maintain.ensures.ends c.in_err-renew_one.ensures.ends)

pub returns-in_err-renew_one-2-clause-ends : goal.returns-in_err-renew_one-2-clause-ends
returns-in_err-renew_one-2-clause-ends g c =
    let s0 = g.N.Nor.state c.args.nor.now in
    let s1 = g.N.Nor.state c.maintain.new.nor in
    let s2 = g.N.Nor.state c.renew_one.new.nor in
    let s3 = g.N.Nor.state c.renew_one-2.new.nor in
    let s = succeeds-after s0 s1 s2 c.in_ok-maintain.ensures.ends c.in_ok-renew_one.ensures.ends in
    fails-as c.from_residual-in_err-renew_one-2.result _ (λ _. SucceedsSettled s0 s3) (λ e. Refuses e s0 s3) c.from_residual-in_err-renew_one-2.ensures.1
    (refuses-after _ s0 s2 s3 s c.in_err-renew_one-2.ensures.ends)

pub returns-in_err-unused-clause-ends : goal.returns-in_err-unused-clause-ends
returns-in_err-unused-clause-ends g c =
    let s0 = g.N.Nor.state c.args.nor.now in
    let s1 = g.N.Nor.state c.maintain.new.nor in
    let s2 = g.N.Nor.state c.renew_one.new.nor in
    let s3 = g.N.Nor.state c.renew_one-2.new.nor in
    let s4 = g.N.Nor.state c.renew_one-3.new.nor in
    let s = succeeds-after s0 s2 s3 (succeeds-after s0 s1 s2 c.in_ok-maintain.ensures.ends c.in_ok-renew_one.ensures.ends) c.in_ok-renew_one-2.ensures.ends in
    fails-as c.from_residual-in_err-unused.result _ (λ _. SucceedsSettled s0 s4) (λ e. Refuses e s0 s4) c.from_residual-in_err-unused.ensures.1
    (refuses-after _ s0 s3 s4 s c.in_err-unused.ensures.ends)

pub returns-clause-ends : goal.returns-clause-ends
returns-clause-ends g c =
    let s0 = g.N.Nor.state c.args.nor.now in
    let s1 = g.N.Nor.state c.maintain.new.nor in
    let s2 = g.N.Nor.state c.renew_one.new.nor in
    let s3 = g.N.Nor.state c.renew_one-2.new.nor in
    let s4 = g.N.Nor.state c.renew_one-3.new.nor in
    let s = succeeds-after s0 s3 s4 (succeeds-after s0 s2 s3 (succeeds-after s0 s1 s2 c.in_ok-maintain.ensures.ends c.in_ok-renew_one.ensures.ends) c.in_ok-renew_one-2.ensures.ends) c.in_ok-unused.ensures.ends in
    record { ready = s.ready; kept = s.kept; settled = c.in_ok-unused.ensures.restful.settled }

pub returns-in_err-renew_one-clause-loses : goal.returns-in_err-renew_one-clause-loses
returns-in_err-renew_one-clause-loses g c is =
    let p = err_from_is_err_and c.from_residual-in_err-renew_one.result c.from_residual-in_err-renew_one.ensures.1 in
    let s0 = g.N.Nor.state c.args.nor.now in
    let s1 = g.N.Nor.state c.maintain.new.nor in
    let s2 = g.N.Nor.state c.renew_one.new.nor in
    loses-after s0 s1 s2 c.in_ok-maintain.ensures.ends.kept.bits c.in_ok-maintain.ensures.restful.settled (c.in_err-renew_one.ensures.loses (cc (p.1, p.2)))

pub returns-in_err-renew_one-2-clause-loses : goal.returns-in_err-renew_one-2-clause-loses
returns-in_err-renew_one-2-clause-loses g c is =
    let p = err_from_is_err_and c.from_residual-in_err-renew_one-2.result c.from_residual-in_err-renew_one-2.ensures.1 in
    let s0 = g.N.Nor.state c.args.nor.now in
    let s1 = g.N.Nor.state c.maintain.new.nor in
    let s2 = g.N.Nor.state c.renew_one.new.nor in
    let s3 = g.N.Nor.state c.renew_one-2.new.nor in
    let s = succeeds-after s0 s1 s2 c.in_ok-maintain.ensures.ends c.in_ok-renew_one.ensures.ends in
    loses-after s0 s2 s3 s.kept.bits c.in_ok-renew_one.ensures.restful.settled (c.in_err-renew_one-2.ensures.loses (cc (p.1, p.2)))

pub returns-in_err-unused-clause-loses : goal.returns-in_err-unused-clause-loses
returns-in_err-unused-clause-loses g c is =
    let p = err_from_is_err_and c.from_residual-in_err-unused.result c.from_residual-in_err-unused.ensures.1 in
    let s0 = g.N.Nor.state c.args.nor.now in
    let s1 = g.N.Nor.state c.maintain.new.nor in
    let s2 = g.N.Nor.state c.renew_one.new.nor in
    let s3 = g.N.Nor.state c.renew_one-2.new.nor in
    let s4 = g.N.Nor.state c.renew_one-3.new.nor in
    let s = succeeds-after s0 s2 s3 (succeeds-after s0 s1 s2 c.in_ok-maintain.ensures.ends c.in_ok-renew_one.ensures.ends) c.in_ok-renew_one-2.ensures.ends in
    loses-after s0 s3 s4 s.kept.bits c.in_ok-renew_one-2.ensures.restful.settled (c.in_err-unused.ensures.loses (cc (p.1, p.2)))

pub returns-in_err-renew_one-clause-opens : goal.returns-in_err-renew_one-clause-opens
returns-in_err-renew_one-clause-opens g c is =
    let p = err_from_is_err_and c.from_residual-in_err-renew_one.result c.from_residual-in_err-renew_one.ensures.1 in
    let s0 = g.N.Nor.state c.args.nor.now in
    let s1 = g.N.Nor.state c.maintain.new.nor in
    let s2 = g.N.Nor.state c.renew_one.new.nor in
    opens-after OpensNone s0 s1 s2 c.in_ok-maintain.ensures.ends.kept.bits c.in_ok-maintain.ensures.restful.settled (c.in_err-renew_one.ensures.opens (cc (p.1, p.2)))

pub returns-in_err-renew_one-2-clause-opens : goal.returns-in_err-renew_one-2-clause-opens
returns-in_err-renew_one-2-clause-opens g c is =
    let p = err_from_is_err_and c.from_residual-in_err-renew_one-2.result c.from_residual-in_err-renew_one-2.ensures.1 in
    let s0 = g.N.Nor.state c.args.nor.now in
    let s1 = g.N.Nor.state c.maintain.new.nor in
    let s2 = g.N.Nor.state c.renew_one.new.nor in
    let s3 = g.N.Nor.state c.renew_one-2.new.nor in
    let s = succeeds-after s0 s1 s2 c.in_ok-maintain.ensures.ends c.in_ok-renew_one.ensures.ends in
    opens-after OpensNone s0 s2 s3 s.kept.bits c.in_ok-renew_one.ensures.restful.settled (c.in_err-renew_one-2.ensures.opens (cc (p.1, p.2)))

pub returns-in_err-unused-clause-opens : goal.returns-in_err-unused-clause-opens
returns-in_err-unused-clause-opens g c is =
    let p = err_from_is_err_and c.from_residual-in_err-unused.result c.from_residual-in_err-unused.ensures.1 in
    let s0 = g.N.Nor.state c.args.nor.now in
    let s1 = g.N.Nor.state c.maintain.new.nor in
    let s2 = g.N.Nor.state c.renew_one.new.nor in
    let s3 = g.N.Nor.state c.renew_one-2.new.nor in
    let s4 = g.N.Nor.state c.renew_one-3.new.nor in
    let s = succeeds-after s0 s2 s3 (succeeds-after s0 s1 s2 c.in_ok-maintain.ensures.ends c.in_ok-renew_one.ensures.ends) c.in_ok-renew_one-2.ensures.ends in
    opens-after OpensNone s0 s3 s4 s.kept.bits c.in_ok-renew_one-2.ensures.restful.settled (c.in_err-unused.ensures.opens (cc (p.1, p.2)))
