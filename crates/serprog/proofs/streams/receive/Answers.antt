use Rattle.block_device.proofs.Receiving.{consumes_more, still_within}
use Rattle.serprog.proofs.streams.receive.Goals as goal

pub loop-done-preserved : goal.loop-done-preserved
loop-done-preserved g c =
    let i = c.loop-done.invariant in
    let e = c.in-Ok.ensures in
    record {
      within = still_within c.loop-done.into c.read.new.into _ c.loop-done.done c.in-Ok.n i.within e.bound.0;
      told = consumes_more _ _ _ c.loop-done.into c.read.new.into _ c.loop-done.done c.in-Ok.n i.within e.bound.0 i.told e.bytes.0;
    }
