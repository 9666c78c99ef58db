use Rattle.sector_stock.proofs.Firming.{trusted-next, none-next, reserve-givable, reserve-none, reserve-trusted}
use Rattle.sector_stock.proofs.firm.next_suspect.Goals.{else-is_whole-via-then-is_whole+else-blocks-at, else-is_whole-via-else-is_whole}
use Rattle.sector_stock.proofs.firm.next_suspect.Goals as goal

pub returns-in-None-clause-next : goal.returns-in-None-clause-next
returns-in-None-clause-next c m index none = none-next m c.args.states.now c.args.blocks.now c.args.at.now c.free_slot.new.at (c.in-None.ensures.found m index) index c.in-None.ensures.policy c.in-None.ensures.reserve

pub returns-else-is_whole-clause-next : goal.returns-else-is_whole-clause-next
returns-else-is_whole-clause-next c m index none =
    let e = c.in-Some.ensures in
    trusted-next c.in-Some.slot m c.args.states.now c.args.blocks.now c.args.at.now c.free_slot.new.at (cc c.if-given.false) index e.policy e.reserve (λ by. e.lowest by m index) (λ by. e.fills by m index) e.filled

pub returns-then-blocks-at-clause-found : goal.returns-then-blocks-at-clause-found
returns-then-blocks-at-clause-found c m index rest =
    let e = c.in-Some.ensures in
    reserve-givable c.in-Some.slot c.free_slot.new.at.reserve m c.args.states.now c.args.blocks.now c.args.at.now rest index e.reserve e.number (c.is_whole.ensures.yes c.if-is_whole.true) (λ by. e.lowest by m index) (λ by. e.fills by m index)

pub returns-else-is_whole-clause-spare : goal.returns-else-is_whole-clause-spare
returns-else-is_whole-clause-spare c m index none =
    let e = c.in-Some.ensures in
    reserve-trusted c.in-Some.slot m c.args.states.now c.args.blocks.now c.args.at.now c.free_slot.new.at
    (λ whole. elim c.else-is_whole.branch [
      | else-is_whole-via-then-is_whole+else-blocks-at w ↦ cc w.if-blocks-at.false
      | else-is_whole-via-else-is_whole w ↦ absurd (c.is_whole.ensures.no w.if-is_whole.false whole)
    ])
    index e.policy e.reserve (λ by. e.lowest by m index) (λ by. e.fills by m index) e.filled

pub returns-in-None-clause-spare : goal.returns-in-None-clause-spare
returns-in-None-clause-spare c m index none = reserve-none m c.args.states.now c.args.blocks.now c.args.at.now c.free_slot.new.at (c.in-None.ensures.found m index) index c.in-None.ensures.policy c.in-None.ensures.reserve
