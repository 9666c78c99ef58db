use Rattle.erase_journal.proofs.Firmly.{ends-firmly, seen-firmly}
use Rattle.erase_journal.specs.Torn.{OpensNone}
use Rattle.erase_journal.proofs.Unopened.{seen-opens}
use Rattle.erase_journal.proofs.journal.Journal.renew_all.Goals as goal

pub returns-clause-ends : goal.returns-clause-ends
returns-clause-ends g c =
    let s0 = g.N.Nor.state c.self.inside.nor in
    let s1 = g.N.Nor.state c.renew_all.new.nor in
    rw (← c.self.view_is) (seen-firmly c.self.inside.sound c.renew_all.result s0 s1 c.if-not-self.false (ends-firmly c.renew_all.result s0 s1 c.renew_all.ensures.ends c.renew_all.ensures.loses))

pub returns-clause-opens : goal.returns-clause-opens
returns-clause-opens g c is =
    rw (← c.self.view_is) (seen-opens OpensNone c.self.inside.sound (g.N.Nor.state c.self.inside.nor) (g.N.Nor.state c.renew_all.new.nor) (c.renew_all.ensures.opens is))
