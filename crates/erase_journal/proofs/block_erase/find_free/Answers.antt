use Rattle.erase_journal.proofs.Scans.{free-found}
use Rattle.erase_journal.proofs.block_erase.find_free.Goals as goal

pub returns-clause-found : goal.returns-clause-found
returns-clause-found g c = free-found (g.N.Nor.state c.args.nor.now).memory c.read.new.into c.lowest_free.result (rw c.entry_place.ensures at c.in_ok-read.ensures.ok) c.lowest_free.ensures.found c.lowest_free.ensures.first
