use Rattle.std.proofs.lemmas.Result.{on_ok_weaker}
use Rattle.std.proofs.Common.{◌∷◌, [], arith}
use Rattle.nor_driver.proofs.CallLaws.{refuses-of}
use Rattle.erase_journal.proofs.Effects.{and-spoiled}
use Rattle.erase_journal.proofs.SettledLaws.{settled-of, ends-settled}
use Rattle.erase_journal.proofs.Uses.{super-keeps}
use Rattle.erase_journal.proofs.Knowing.{kept-known}
use Rattle.erase_journal.proofs.Marking.{mark-settled, mark-only, mark-healthy, mark-ok, mark-cut}
use Rattle.erase_journal.proofs.superblock.mark_superblock.Goals as goal

pub returns-clause-ok : goal.returns-clause-ok
returns-clause-ok g c = on_ok_weaker c.program.result (λ e was. mark-ok (g.N.Nor.state c.args.nor.now).memory (g.N.Nor.state c.program.new.self).memory (omega (arith, (g.N.Nor.sized c.args.nor.now).least)) e was) c.program.ensures.ok

pub returns-clause-cut : goal.returns-clause-cut
returns-clause-cut g c is was = mark-cut (g.N.Nor.state c.args.nor.now).memory (g.N.Nor.state c.program.new.self).memory (omega (arith, (g.N.Nor.sized c.args.nor.now).least)) (c.program.ensures.cut is) was

pub returns-clause-only : goal.returns-clause-only
returns-clause-only g c = mark-only (g.N.Nor.state c.args.nor.now) (g.N.Nor.state c.program.new.self) c.requires.settled c.program.result
    c.program.ensures.ok c.program.ensures.ready c.program.ensures.cut c.program.ensures.slow c.program.ensures.latches

pub returns-clause-healthy : goal.returns-clause-healthy
returns-clause-healthy g c is = mark-healthy (g.N.Nor.state c.args.nor.now) (g.N.Nor.state c.program.new.self) c.requires.settled c.program.result c.program.ensures.cut c.program.ensures.latches is

pub returns-clause-ends : goal.returns-clause-ends
returns-clause-ends g c =
    ends-settled c.program.result (g.N.Nor.state c.args.nor.now) (g.N.Nor.state c.program.new.self)
    (settled-of (g.N.Nor.state c.args.nor.now) (g.N.Nor.state c.program.new.self) c.program.result c.program.ensures.ready c.program.ensures.kept
    (mark-settled (g.N.Nor.state c.args.nor.now) (g.N.Nor.state c.program.new.self) c.requires.settled c.program.result c.program.ensures.ok c.program.ensures.ready))
    (refuses-of (g.N.Nor.state c.args.nor.now) (g.N.Nor.state c.program.new.self) c.program.result c.program.ensures.fails c.program.ensures.latches)

pub returns-clause-known : goal.returns-clause-known
returns-clause-known g c known =
    let m = (g.N.Nor.state c.args.nor.now).memory in
    on_ok_weaker c.program.result (λ e h. kept-known known m (g.N.Nor.state c.program.new.self).memory (super-keeps 15 1 m (g.N.Nor.state c.program.new.self).memory (omega arith) (rw e (and-spoiled m 15 (254 ∷ [])))) h) c.program.ensures.ok
