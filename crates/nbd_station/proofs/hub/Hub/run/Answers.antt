use Rattle.std.proofs.Common.{◌∙◌}
use Rattle.nbd_station.proofs.Pieces.{goes_twice}
use Rattle.nbd_station.proofs.Ending.{runs_more_at, ends_at}
use Rattle.nbd_station.proofs.Telling.{all_told_at}
use Rattle.nbd_station.proofs.hub.Hub.run.Goals as goal

pub loop-event-preserved : goal.loop-event-preserved
loop-event-preserved g c =
    let i = c.loop-event.invariant in
    let e = c.in_default.ensures in (
      goes_twice _ _ _ i.0 e.goes,
      e.faults ∙ i.1,
      runs_more_at c.args.self.now c.loop-event.self c.step.new.self c.args.events.now c.loop-event.event-index _ _ _ _ c.loop-event-test.true i.0.slows e.goes.slows i.2 e.moves,
      e.memory ∙ i.3,
      all_told_at c.args.self.now c.loop-event.self c.step.new.self c.args.events.now c.loop-event.event-index _ _ _ _ c.loop-event-test.true i.4 e.tells,
    )

pub returns-in-Err-clause-ends : goal.returns-in-Err-clause-ends
returns-in-Err-clause-ends g c =
    let i = c.loop-event.invariant in
    let e = c.in-Err.ensures in
    ends_at c.args.self.now c.loop-event.self c.step.new.self c.args.events.now c.loop-event.event-index _ _ _ _ c.loop-event-test.true i.0.slows e.goes.slows i.2 e.hangs
