use Rattle.nor_driver.specs.State.{Refuses}
use Rattle.nor_driver.proofs.CallLaws.{done-of, fails-of}
use Rattle.erase_journal.specs.Steps.{SucceedsSettled}
use Rattle.erase_journal.proofs.Ready.{still-kept}
use Rattle.erase_journal.proofs.journal.Journal.mark.Goals as goal

pub invariant_of-self : goal.invariant_of-self
invariant_of-self g c = still-kept c.self.inside.sound c.self.inside.known (g.N.Nor.state c.self.inside.nor) (g.N.Nor.state c.mark_superblock.new.nor) c.mark_superblock.result c.self.invariant
    (done-of c.mark_superblock.result (SucceedsSettled (g.N.Nor.state c.self.inside.nor) (g.N.Nor.state c.mark_superblock.new.nor)) (λ e. Refuses e (g.N.Nor.state c.self.inside.nor) (g.N.Nor.state c.mark_superblock.new.nor)) c.mark_superblock.ensures.ends)
    (c.mark_superblock.ensures.known c.self.inside.known)
    (fails-of c.mark_superblock.result (SucceedsSettled (g.N.Nor.state c.self.inside.nor) (g.N.Nor.state c.mark_superblock.new.nor)) (λ e. Refuses e (g.N.Nor.state c.self.inside.nor) (g.N.Nor.state c.mark_superblock.new.nor)) c.mark_superblock.ensures.ends)
