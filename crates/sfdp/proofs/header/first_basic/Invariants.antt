use Rattle.std.proofs.Common.{◌≡◌, ◌-◌}
use Rattle.sfdp.specs.Params.{first_basic}
use Rattle.sfdp.proofs.header.first_basic.Given as goal

-- the headers so far aren't the basic table's
abbrev pub invariant-loop-k : goal.invariant-loop-k
invariant-loop-k l = first_basic l.bytes 0 l.headers ≡ first_basic l.bytes l.k (l.headers - l.k)
