use Rattle.std.proofs.lemmas.Result.{err_from_is_err_and}
use Rattle.sector_stock.proofs.Copying.{void-erasable, void-cut, void-done}
use Rattle.sector_stock.proofs.copy.end_void.Goals as goal

pub returns-in_err-erase-clause-cut : goal.returns-in_err-erase-clause-cut
returns-in_err-erase-clause-cut g c is healthy h =
    let p = err_from_is_err_and c.from_residual.result c.from_residual.ensures.1 in
    void-cut c.args.target (g.S.SlotCalls.state c.args.slots.now).memory (g.S.SlotCalls.state c.erase.new.self).memory h (c.in_err-erase.ensures.cut (cc (p.1, p.2)) healthy)

pub returns-clause-ok : goal.returns-clause-ok
returns-clause-ok g c h sound = void-done c.args.target (g.S.SlotCalls.state c.args.slots.now).memory (g.S.SlotCalls.state c.erase.new.self).memory h c.in_ok-erase.ensures.ok sound

pub erase-requires-clause-dead : goal.erase-requires-clause-dead
erase-requires-clause-dead g c ready = void-erasable c.args.target (g.S.SlotCalls.state c.args.slots.now).memory (c.requires.void ready)
