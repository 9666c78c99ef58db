use Rattle.std.proofs.Common.{arith}
use Rattle.erase_journal.proofs.Scans.{votes-counted}
use Rattle.erase_journal.proofs.read.read_votes.Goals as goal

pub returns-clause-counts : goal.returns-clause-counts
returns-clause-counts g c = votes-counted (g.N.Nor.state c.args.nor.now).memory c.read.new.into c.args.region c.count_votes.result
    c.in_ok-read.ensures.ok (omega arith) c.count_votes.ensures.unused c.count_votes.ensures.opened c.count_votes.ensures.wrong
