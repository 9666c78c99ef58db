use Rattle.std.proofs.Common.{ap, ◌/◌}
use Rattle.erase_journal.proofs.Scans.{open-found}
use Rattle.erase_journal.proofs.open_entries.find_open.Goals as goal

pub returns-clause-found : goal.returns-clause-found
returns-clause-found g c = open-found (g.N.Nor.state c.args.nor.now).memory c.read.new.into (c.bytes.result / 4096) c.lowest_open.result
    (rw c.entry_place.ensures at c.in_ok-read.ensures.ok) (ap (λ n. n / 4096) c.bytes.ensures) c.lowest_open.ensures.found
