use Rattle.sector_stock.proofs.Copying.{stays-kept}
use Rattle.sector_stock.proofs.copy.copy_into.Goals as goal

pub returns-then-suspect-clause-cut : goal.returns-then-suspect-clause-cut
returns-then-suspect-clause-cut g c is healthy h = stays-kept (g.S.SlotCalls.state c.args.slots.now).memory (g.S.SlotCalls.state c.move_afresh.new.slots).memory (c.move_afresh.ensures.cut is healthy h)

pub returns-then-suspect-clause-cut_bits : goal.returns-then-suspect-clause-cut_bits
returns-then-suspect-clause-cut_bits g c is suspects disk trusted h part = c.move_afresh.ensures.cut_bits is suspects disk h part

pub returns-else-suspect-clause-cut_bits : goal.returns-else-suspect-clause-cut_bits
returns-else-suspect-clause-cut_bits g c is suspects disk trusted h part = c.reclaim_into.ensures.cut_bits is suspects disk (trusted c.if-suspect.false) h part
