use Rattle.erase_journal.proofs.SameBytes.{and-same, again-same}
use Rattle.erase_journal.proofs.WeakLaws.{again-firm}
use Rattle.erase_journal.proofs.Still.{again-firmer}
use Rattle.nor_driver.specs.State.{bits_in}
use Rattle.std.proofs.Common.{arith, inr}
use Rattle.erase_journal.proofs.Torn.{program-aside}
use Rattle.erase_journal.proofs.again.program_again.Goals as goal

pub returns-clause-same : goal.returns-clause-same
returns-clause-same g c =
    let m = (g.N.Nor.state c.args.nor.now).memory in
    again-same m c.args.bytes.now c.args.at (g.N.Nor.state c.program.new.self).memory c.program.result (and-same m c.args.bytes.now c.args.at c.requires.range c.requires.read)
    c.program.ensures.ok c.program.ensures.cut c.program.ensures.slow

pub returns-clause-firm : goal.returns-clause-firm
returns-clause-firm g c =
    let m = (g.N.Nor.state c.args.nor.now).memory in
    let same = again-same m c.args.bytes.now c.args.at (g.N.Nor.state c.program.new.self).memory c.program.result (and-same m c.args.bytes.now c.args.at c.requires.range c.requires.read)
    c.program.ensures.ok c.program.ensures.cut c.program.ensures.slow in
    again-firm (bits_in (g.N.Nor.state c.args.nor.now)) (bits_in (g.N.Nor.state c.program.new.self)) c.args.bytes.now c.args.at c.program.result c.requires.read same c.program.ensures.firm

pub returns-clause-firmer : goal.returns-clause-firmer
returns-clause-firmer g c =
    let m = (g.N.Nor.state c.args.nor.now).memory in
    let is = and-same m c.args.bytes.now c.args.at c.requires.range c.requires.read in
    let same = again-same m c.args.bytes.now c.args.at (g.N.Nor.state c.program.new.self).memory c.program.result is
    c.program.ensures.ok c.program.ensures.cut c.program.ensures.slow in
    again-firmer (bits_in (g.N.Nor.state c.args.nor.now)) (bits_in (g.N.Nor.state c.program.new.self)) c.args.at c.args.bytes.now c.program.result is same
    c.program.ensures.firm c.program.ensures.cut_bits c.program.ensures.slow_bits

pub returns-clause-data : goal.returns-clause-data
returns-clause-data g c low i from = program-aside c.program.result (g.N.Nor.state c.args.nor.now) (g.N.Nor.state c.program.new.self) c.args.at c.args.bytes.now c.program.ensures.firm c.program.ensures.cut_bits c.program.ensures.slow c.program.ensures.slow_bits i (inr (omega (arith, low, from)))
