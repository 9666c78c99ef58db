use Rattle.std.proofs.Common.{length}
use Rattle.erase_journal.proofs.Data.{read-ok}
use Rattle.erase_journal.proofs.journal.read_block.Goals as goal

pub returns-clause-ok : goal.returns-clause-ok
returns-clause-ok g c = read-ok (g.N.Nor.state c.args.nor.now).memory c.read.new.into c.args.block c.args.at (length c.args.into.now)
    (c.requires.settled c.in_ok-read.ensures.ready) c.requires.range c.requires.number c.in_ok-read.ensures.ok
