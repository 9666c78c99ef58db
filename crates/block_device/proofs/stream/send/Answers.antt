use Rattle.std.proofs.Common.{◌∙◌}
use Rattle.block_device.proofs.Sending.{sends_more}
use Rattle.block_device.proofs.stream.send.Goals as goal

pub loop-rest-preserved : goal.loop-rest-preserved
loop-rest-preserved g c =
    let i = c.loop-rest.invariant in
    let m = sends_more _ _ _ _ i.0 _ c.in_ok-n.n i.1 i.2 c.in_ok-n.ensures.bytes in
    (m.0, m.1, m.2, c.in_ok-n.ensures.faults ∙ i.3)
