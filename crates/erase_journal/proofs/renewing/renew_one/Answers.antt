use Rattle.nor_driver.specs.State.{Succeeds, Refuses}
use Rattle.nor_driver.proofs.CallLaws.{ends-since, fails-as, refuses-after, succeeds-after}
use Rattle.erase_journal.proofs.Renewal.{same-blocks-on, stands-on}
use Rattle.erase_journal.specs.declared.phase.ErasePhase.TheVariants.{Idle}
use Rattle.std.proofs.lemmas.Result.{err_from_is_err_and}
use Rattle.erase_journal.proofs.renewing.renew_one.Goals as goal

pub returns-in_err-renew-clause-ends : goal.returns-in_err-renew-clause-ends
returns-in_err-renew-clause-ends g c =
    let s0 = g.N.Nor.state c.args.nor.now in
    let s1 = g.N.Nor.state c.doom.new.nor in
    let s2 = g.N.Nor.state c.renew.new.nor in
    fails-as c.from_residual-in_err-renew.result _ (λ _. Succeeds s0 s2) (λ e. Refuses e s0 s2) c.from_residual-in_err-renew.ensures.1
    (refuses-after _ s0 s1 s2 c.in_ok-doom.ensures.ends c.in_err-renew.ensures.ends)

pub returns-clause-ends : goal.returns-clause-ends
returns-clause-ends g c =
    let s0 = g.N.Nor.state c.args.nor.now in
    let s2 = g.N.Nor.state c.renew.new.nor in
    let s = succeeds-after s0 (g.N.Nor.state c.doom.new.nor) s2 c.in_ok-doom.ensures.ends c.in_ok-renew.ensures.ends in
    ends-since c.maintain.result s0 s2 (g.N.Nor.state c.maintain.new.nor) s.ready s.kept c.maintain.ensures.ends

pub returns-clause-cut : goal.returns-clause-cut
returns-clause-cut g c is =
    let m0 = (g.N.Nor.state c.args.nor.now).memory in
    let m1 = (g.N.Nor.state c.doom.new.nor).memory in
    let m2 = (g.N.Nor.state c.renew.new.nor).memory in
    stands-on m0 m2 (g.N.Nor.state c.maintain.new.nor).memory (same-blocks-on m0 m1 m2 c.in_ok-doom.ensures.blocks c.in_ok-renew.ensures.blocks) (c.maintain.ensures.cut is (Idle, c.in_ok-renew.ensures.ok.sound))

pub returns-in_err-doom-clause-loses : goal.returns-in_err-doom-clause-loses
returns-in_err-doom-clause-loses g c is settled h =
    let p = err_from_is_err_and c.from_residual.result c.from_residual.ensures.1 in
    c.in_err-doom.ensures.loses (cc (p.1, p.2)) h

pub returns-in_err-renew-clause-loses : goal.returns-in_err-renew-clause-loses
returns-in_err-renew-clause-loses g c is settled h =
    let p = err_from_is_err_and c.from_residual-in_err-renew.result c.from_residual-in_err-renew.ensures.1 in
    c.in_err-renew.ensures.loses (cc (p.1, p.2)) (c.in_ok-doom.ensures.stays h)

pub returns-clause-loses : goal.returns-clause-loses
returns-clause-loses g c is settled h =
    c.maintain.ensures.loses is (record { sound = c.in_ok-renew.ensures.ok.sound; none = c.in_ok-renew.ensures.none }) (c.in_ok-renew.ensures.stays (c.in_ok-doom.ensures.stays h))

pub returns-in_err-doom-clause-opens : goal.returns-in_err-doom-clause-opens
returns-in_err-doom-clause-opens g c is settled h =
    let p = err_from_is_err_and c.from_residual.result c.from_residual.ensures.1 in
    c.in_err-doom.ensures.opens (cc (p.1, p.2)) h

pub returns-in_err-renew-clause-opens : goal.returns-in_err-renew-clause-opens
returns-in_err-renew-clause-opens g c is settled h =
    let p = err_from_is_err_and c.from_residual-in_err-renew.result c.from_residual-in_err-renew.ensures.1 in
    c.in_err-renew.ensures.opens (cc (p.1, p.2)) (c.in_ok-doom.ensures.stays h)

pub returns-clause-opens : goal.returns-clause-opens
returns-clause-opens g c is settled h =
    c.maintain.ensures.opens is (record { sound = c.in_ok-renew.ensures.ok.sound; none = c.in_ok-renew.ensures.none }) (c.in_ok-renew.ensures.stays (c.in_ok-doom.ensures.stays h))
