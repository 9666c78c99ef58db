use Rattle.erase_journal.proofs.Firmly.{ends-firmly, seen-firmly}
use Rattle.erase_journal.proofs.Torn.{seen-interrupted}
use Rattle.chip_model.specs.Wavering.{Bits}
use Rattle.erase_journal.specs.Torn.{OpensOnly}
use Rattle.erase_journal.proofs.Unopened.{seen-opens}
use Rattle.erase_journal.proofs.journal.Journal.erase.Goals as goal

pub returns-clause-ends : goal.returns-clause-ends
returns-clause-ends g c =
    let s0 = g.N.Nor.state c.self.inside.nor in
    let s1 = g.N.Nor.state c.erase_block.new.nor in
    rw (← c.self.view_is) (seen-firmly c.self.inside.sound c.erase_block.result s0 s1 c.if-not-self.false (ends-firmly c.erase_block.result s0 s1 c.erase_block.ensures.ends c.erase_block.ensures.loses))

pub returns-clause-cut_bits : goal.returns-clause-cut_bits
returns-clause-cut_bits g c is =
    rw (← c.self.view_is) (seen-interrupted c.self.inside.sound c.args.block (g.N.Nor.state c.self.inside.nor) (g.N.Nor.state c.erase_block.new.nor) (c.erase_block.ensures.cut_bits is))

pub returns-clause-opens : goal.returns-clause-opens
returns-clause-opens g c is =
    rw (← c.self.view_is) (seen-opens (λ (b : Bits). OpensOnly c.args.block b) c.self.inside.sound (g.N.Nor.state c.self.inside.nor) (g.N.Nor.state c.erase_block.new.nor) (c.erase_block.ensures.opens is))
