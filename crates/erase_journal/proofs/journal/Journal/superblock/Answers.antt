use Rattle.erase_journal.proofs.Firmly.{ends-firmly, seen-firmly}
use Rattle.erase_journal.proofs.Standing.{same-loses}
use Rattle.erase_journal.proofs.journal.Journal.superblock.Goals as goal

pub returns-clause-ends : goal.returns-clause-ends
returns-clause-ends g c =
    let s0 = g.N.Nor.state c.self.inside.nor in
    let s1 = g.N.Nor.state c.read_superblock.new.nor in
    rw (← c.self.view_is) (seen-firmly c.self.inside.sound c.read_superblock.result s0 s1 c.if-not-self.false (ends-firmly c.read_superblock.result s0 s1 c.read_superblock.ensures.ends (λ is. same-loses s0 s1 c.read_superblock.ensures.same c.read_superblock.ensures.weak)))
