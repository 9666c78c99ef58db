use Rattle.erase_journal.proofs.Data.{program-bytes, program-settled, program-only, program-leaves, program-healthy}
use Rattle.std.proofs.Common.{◌+◌, ◌*◌, length, arith}
use Rattle.std.proofs.lemmas.Result.{on_ok_weaker}
use Rattle.nor_driver.proofs.CallLaws.{refuses-of}
use Rattle.erase_journal.proofs.Effects.{and-spoiled}
use Rattle.erase_journal.proofs.SettledLaws.{settled-of, ends-settled}
use Rattle.erase_journal.proofs.Uses.{data-keeps}
use Rattle.erase_journal.proofs.Knowing.{kept-known}
use Rattle.nor_driver.specs.State.{bits_in}
use Rattle.erase_journal.proofs.EntryCuts.{data-cut}
use Rattle.erase_journal.proofs.journal.program_block.Goals as goal

pub returns-clause-ok : goal.returns-clause-ok
returns-clause-ok g c = program-bytes (g.N.Nor.state c.args.nor.now) (g.N.Nor.state c.program.new.self) c.args.block c.args.at c.args.bytes.now c.requires.settled c.requires.data c.requires.number c.requires.range c.program.result
    c.program.ensures.ok c.program.ensures.ready

pub returns-clause-only : goal.returns-clause-only
returns-clause-only g c = program-only (g.N.Nor.state c.args.nor.now) (g.N.Nor.state c.program.new.self) c.args.block c.args.at c.args.bytes.now c.requires.settled c.requires.data c.requires.number c.requires.range c.program.result
    c.program.ensures.ok c.program.ensures.ready c.program.ensures.cut c.program.ensures.slow c.program.ensures.latches

pub returns-clause-ends : goal.returns-clause-ends
returns-clause-ends g c =
    ends-settled c.program.result (g.N.Nor.state c.args.nor.now) (g.N.Nor.state c.program.new.self)
    (settled-of (g.N.Nor.state c.args.nor.now) (g.N.Nor.state c.program.new.self) c.program.result c.program.ensures.ready c.program.ensures.kept
    (program-settled (g.N.Nor.state c.args.nor.now) (g.N.Nor.state c.program.new.self) c.args.block c.args.at c.args.bytes.now c.requires.settled c.requires.data c.requires.number c.requires.range c.program.result
    c.program.ensures.ok c.program.ensures.ready))
    (refuses-of (g.N.Nor.state c.args.nor.now) (g.N.Nor.state c.program.new.self) c.program.result c.program.ensures.fails c.program.ensures.latches)

pub returns-clause-cut : goal.returns-clause-cut
returns-clause-cut g c is = program-leaves (g.N.Nor.state c.args.nor.now) (g.N.Nor.state c.program.new.self) c.args.block c.args.at c.args.bytes.now c.requires.settled c.requires.data c.requires.number c.requires.range c.program.result
    c.program.ensures.cut c.program.ensures.latches is

pub returns-clause-healthy : goal.returns-clause-healthy
returns-clause-healthy g c is = program-healthy (g.N.Nor.state c.args.nor.now) (g.N.Nor.state c.program.new.self) c.args.block c.args.at c.args.bytes.now c.requires.settled c.requires.data c.requires.number c.requires.range c.program.result
    c.program.ensures.cut c.program.ensures.latches is

pub returns-clause-known : goal.returns-clause-known
returns-clause-known g c known =
    let m = (g.N.Nor.state c.args.nor.now).memory in
    let at = 4096 * c.args.block + c.args.at in
    on_ok_weaker c.program.result (λ e h. kept-known known m (g.N.Nor.state c.program.new.self).memory (data-keeps at (length c.args.bytes.now) m (g.N.Nor.state c.program.new.self).memory (omega arith) (rw e (and-spoiled m at c.args.bytes.now))) h) c.program.ensures.ok

pub returns-clause-loses : goal.returns-clause-loses
returns-clause-loses g c is settled h =
    data-cut (bits_in (g.N.Nor.state c.args.nor.now)) (bits_in (g.N.Nor.state c.program.new.self)) h settled.sound (4096 * c.args.block + c.args.at) c.args.bytes.now (omega arith) (c.program.ensures.cut_bits is)
