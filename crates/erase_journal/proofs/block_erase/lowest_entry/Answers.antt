use Rattle.erase_journal.proofs.Knowing.{first-free}
use Rattle.erase_journal.proofs.block_erase.lowest_entry.Goals as goal

pub returns-then-known-clause-free : goal.returns-then-known-clause-free
returns-then-known-clause-free g c ready = rw c.saturating_sub.ensures (first-free c.args.known (g.N.Nor.state c.args.nor.now).memory (c.requires.known ready) c.if-known.true c.requires.some)
