use Rattle.erase_journal.specs.Known.{IsKnown}
use Rattle.erase_journal.proofs.Firmly.{ends-firmly, reads-settled, seen-firmly}
use Rattle.erase_journal.proofs.Standing.{same-loses}
use Rattle.erase_journal.proofs.journal.Journal.read.Goals as goal

pub returns-clause-ends : goal.returns-clause-ends
returns-clause-ends g c =
    let s0 = g.N.Nor.state c.self.inside.nor in
    let s1 = g.N.Nor.state c.read_block.new.nor in
    rw (← c.self.view_is) (seen-firmly c.self.inside.sound c.read_block.result s0 s1 c.if-not-self.false (ends-firmly c.read_block.result s0 s1 (reads-settled (IsKnown c.self.inside.known s0.memory) c.self.inside.sound c.read_block.result s0 s1 c.if-not-self.false c.self.invariant c.read_block.ensures.same c.read_block.ensures.ends) (λ is. same-loses s0 s1 c.read_block.ensures.same c.read_block.ensures.weak)))
