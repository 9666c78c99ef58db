use Rattle.nor_driver.specs.State.{Refuses}
use Rattle.nor_driver.proofs.CallLaws.{done-of, fails-of}
use Rattle.erase_journal.specs.Steps.{SucceedsSettled}
use Rattle.erase_journal.proofs.Ready.{still-kept}
use Rattle.erase_journal.proofs.Firmly.{ends-firmly, seen-firmly}
use Rattle.erase_journal.proofs.journal.Journal.program.Goals as goal

pub invariant_of-self : goal.invariant_of-self
invariant_of-self g c = still-kept c.self.inside.sound c.self.inside.known (g.N.Nor.state c.self.inside.nor) (g.N.Nor.state c.program_block.new.nor) c.program_block.result c.self.invariant
    (done-of c.program_block.result (SucceedsSettled (g.N.Nor.state c.self.inside.nor) (g.N.Nor.state c.program_block.new.nor)) (λ e. Refuses e (g.N.Nor.state c.self.inside.nor) (g.N.Nor.state c.program_block.new.nor)) c.program_block.ensures.ends)
    (c.program_block.ensures.known c.self.inside.known)
    (fails-of c.program_block.result (SucceedsSettled (g.N.Nor.state c.self.inside.nor) (g.N.Nor.state c.program_block.new.nor)) (λ e. Refuses e (g.N.Nor.state c.self.inside.nor) (g.N.Nor.state c.program_block.new.nor)) c.program_block.ensures.ends)

pub returns-clause-ends : goal.returns-clause-ends
returns-clause-ends g c =
    let s0 = g.N.Nor.state c.self.inside.nor in
    let s1 = g.N.Nor.state c.program_block.new.nor in
    rw (← c.self.view_is) (seen-firmly c.self.inside.sound c.program_block.result s0 s1 c.if-not-self.false (ends-firmly c.program_block.result s0 s1 c.program_block.ensures.ends c.program_block.ensures.loses))
