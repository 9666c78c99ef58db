use Rattle.std.proofs.Common.{◌≡◌, List, ap, subst, ◌∙◌}
use mathlib.Core.List.{IsPrefix}
use Rattle.nbd_history.specs.Notes.{entries_by}
use Rattle.nbd_share.specs.Locking.{connection_of}
use Rattle.nbd_share.specs.declared.recorder.Row.{Row}
use Rattle.nbd_share.proofs.Chronicles.{met_more}
use Rattle.nbd_share.proofs.chronicle.Chronicle.meet_all.Goals as goal

pub loop-hand-preserved : goal.loop-hand-preserved
loop-hand-preserved g c =
    let i = c.loop-hand.invariant in
    let hand = c.hand-item.result in
    let same : c.loop-hand.self.rows ≡ c.args.self.now.rows = ap (λ x. x.rows) i.0 in (
      c.meet.ensures.same ∙ i.0,
      met_more c.args.self.now.rows c.args.hands.now c.loop-hand.hand-index hand c.loop-hand-test.true c.hand-item.is i.1
          (subst (IsPrefix hand.seen) same c.meet.ensures.before)
          (subst (λ (rows : List Row). entries_by connection_of hand.by rows ≡ entries_by connection_of hand.by hand.seen) same c.meet.ensures.own),
    )
