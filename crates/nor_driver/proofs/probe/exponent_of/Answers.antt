use Rattle.std.proofs.Common.{sym, ◌∙◌}
use Rattle.nor_driver.proofs.Ids.{id_found, id_next}
use Rattle.nor_driver.proofs.probe.exponent_of.Goals as goal

pub returns-then-bytes-k : goal.returns-then-bytes-k
returns-then-bytes-k c = sym (c.loop-k.invariant ∙ id_found c.loop-k.k c.args.bytes c.loop-k-test.true c.if-bytes-k.true)

pub loop-k-preserved : goal.loop-k-preserved
loop-k-preserved c = c.loop-k.invariant ∙ id_next c.loop-k.k c.args.bytes c.loop-k-test.true c.if-bytes-k.false
