use Rattle.norbd_transfer.specs.Differing.{Differing}
use Rattle.norbd_transfer.proofs.comparing.differing_sectors.Given as goal

abbrev pub invariant-loop-k : goal.invariant-loop-k
invariant-loop-k l = Differing l.these l.those l.k l.numbers.items
