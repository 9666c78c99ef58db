use Rattle.std.proofs.lemmas.Result.{err_from_is_err_and}
use Rattle.sector_map.specs.Maps.{KeptServing}
use Rattle.sector_map.proofs.MapCalls.{kept-after, keeps-after, after-ok}
use Rattle.erase_journal.proofs.Firmly.{firmly-since}
use Rattle.sector_map.proofs.KeepLosses.{keeps-as, keeps-since}
use Rattle.sector_map.proofs.steps.level_all.Goals as goal

pub returns-in_err-even_out-clause-cut : goal.returns-in_err-even_out-clause-cut
returns-in_err-even_out-clause-cut g c is =
    let p = err_from_is_err_and c.from_residual.result c.from_residual.ensures.1 in
    c.in_err-even_out.ensures.cut (cc (p.1, p.2))

pub returns-clause-ok : goal.returns-clause-ok
returns-clause-ok g c =
    let a = g.S.SlotCalls.state c.args.stock.now in
    let b = g.S.SlotCalls.state c.even_out.new.stock in
    let d = g.S.SlotCalls.state c.move_if_due.new.stock in
    let i = g.S.SlotCalls.indexed c.even_out.new.stock in
    let j = g.S.SlotCalls.indexed c.move_if_due.new.stock in
    after-ok c.move_if_due.result (KeptServing c.move_if_due.new.table b d j) (KeptServing c.move_if_due.new.table a d j)
    (λ w. kept-after c.move_if_due.new.table c.even_out.new.table a b d i j c.in_ok-even_out.ensures.ok w) c.move_if_due.ensures.ok

pub returns-clause-cut : goal.returns-clause-cut
returns-clause-cut g c is =
    keeps-after (g.S.SlotCalls.state c.args.stock.now).memory (g.S.SlotCalls.state c.even_out.new.stock).memory (g.S.SlotCalls.state c.move_if_due.new.stock).memory c.in_ok-even_out.ensures.ok.keeps (c.move_if_due.ensures.cut is)

pub returns-clause-ends : goal.returns-clause-ends
returns-clause-ends g c =
    let s0 = g.S.SlotCalls.state c.args.stock.now in
    let s1 = g.S.SlotCalls.state c.even_out.new.stock in
    let s2 = g.S.SlotCalls.state c.move_if_due.new.stock in
    let done = c.in_ok-even_out.ensures.ends in
    firmly-since c.move_if_due.result s0 s1 s2 done c.move_if_due.ensures.ends

pub returns-in_err-even_out-clause-firmly : goal.returns-in_err-even_out-clause-firmly
returns-in_err-even_out-clause-firmly g c = keeps-as c.from_residual.result _ (g.S.SlotCalls.state c.args.stock.now) (g.S.SlotCalls.state c.even_out.new.stock) (g.S.Reclaim.counts c.args.stock.now) (g.S.Reclaim.counts c.even_out.new.stock) c.from_residual.ensures.1 c.in_err-even_out.ensures.firmly

pub returns-clause-firmly : goal.returns-clause-firmly
returns-clause-firmly g c =
    keeps-since c.move_if_due.result (g.S.SlotCalls.state c.args.stock.now) (g.S.SlotCalls.state c.even_out.new.stock) (g.S.SlotCalls.state c.move_if_due.new.stock) (g.S.Reclaim.counts c.args.stock.now) (g.S.Reclaim.counts c.even_out.new.stock) (g.S.Reclaim.counts c.move_if_due.new.stock)
    c.in_ok-even_out.ensures.firmly c.in_ok-even_out.ensures.ok.keeps c.move_if_due.ensures.firmly
