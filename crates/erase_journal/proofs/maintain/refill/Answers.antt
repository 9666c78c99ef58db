use Rattle.nor_driver.specs.State.{Succeeds, Refuses}
use Rattle.nor_driver.proofs.CallLaws.{fails-as, fails-of, refuses-after, succeeds-after}
use Rattle.erase_journal.proofs.maintain.refill.Goals as goal

pub returns-in_err-renew-clause-fails : goal.returns-in_err-renew-clause-fails
returns-in_err-renew-clause-fails g c =
    let s0 = g.N.Nor.state c.args.nor.now in
    let s1 = g.N.Nor.state c.doom.new.nor in
    let s2 = g.N.Nor.state c.renew.new.nor in
    fails-of c.from_residual-in_err-renew.result (Succeeds s0 s2) (λ e. Refuses e s0 s2) (fails-as c.from_residual-in_err-renew.result _ (λ _. Succeeds s0 s2) (λ e. Refuses e s0 s2) c.from_residual-in_err-renew.ensures.1
    (refuses-after _ s0 s1 s2 c.in_ok-doom.ensures.ends c.in_err-renew.ensures.ends))

pub returns-clause-kept : goal.returns-clause-kept
returns-clause-kept g c = (succeeds-after (g.N.Nor.state c.args.nor.now) (g.N.Nor.state c.doom.new.nor) (g.N.Nor.state c.renew.new.nor) c.in_ok-doom.ensures.ends c.in_ok-renew.ensures.ends).kept
