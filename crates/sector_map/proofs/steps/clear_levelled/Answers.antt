use Rattle.std.proofs.Common.{inl, inr}
use Rattle.std.proofs.lemmas.Result.{err_from_is_err_and}
use Rattle.sector_slots.specs.Sectors.{zeros}
use Rattle.sector_map.specs.Maps.{Wrote}
use Rattle.sector_map.proofs.MapCalls.{wrote-after, leaves-after, after-ok, after-ends}
use Rattle.std.proofs.Common.{◌∙◌, ◌<◌, subst}
use Rattle.sector_map.proofs.KeepLosses.{keeps-as, keeps-since}
use Rattle.sector_map.proofs.steps.clear_levelled.Goals as goal

pub returns-in_err-make_way-clause-cut : goal.returns-in_err-make_way-clause-cut
returns-in_err-make_way-clause-cut g c is =
    let p = err_from_is_err_and c.from_residual.result c.from_residual.ensures.1 in
    inl (c.in_err-make_way.ensures.cut (cc (p.1, p.2)))

pub returns-clause-ok : goal.returns-clause-ok
returns-clause-ok g c =
    let a = g.S.SlotCalls.state c.args.stock.now in
    let b = g.S.SlotCalls.state c.make_way.new.stock in
    let d = g.S.SlotCalls.state c.clear_ungrouped.new.stock in
    let i = g.S.SlotCalls.indexed c.make_way.new.stock in
    let j = g.S.SlotCalls.indexed c.clear_ungrouped.new.stock in
    after-ok c.clear_ungrouped.result (Wrote c.args.sector zeros c.clear_ungrouped.new.table b d j) (Wrote c.args.sector zeros c.clear_ungrouped.new.table a d j)
    (λ w. wrote-after c.args.sector zeros c.clear_ungrouped.new.table c.make_way.new.table a b d i j c.in_ok-make_way.ensures.ok w) c.clear_ungrouped.ensures.ok

pub returns-clause-cut : goal.returns-clause-cut
returns-clause-cut g c is = leaves-after c.args.sector zeros (g.S.SlotCalls.state c.args.stock.now).memory (g.S.SlotCalls.state c.make_way.new.stock).memory (g.S.SlotCalls.state c.clear_ungrouped.new.stock).memory c.in_ok-make_way.ensures.ok.keeps (c.clear_ungrouped.ensures.cut is)

pub returns-clause-ends : goal.returns-clause-ends
returns-clause-ends g c = after-ends c.clear_ungrouped.result (g.S.SlotCalls.state c.args.stock.now) (g.S.SlotCalls.state c.make_way.new.stock) (g.S.SlotCalls.state c.clear_ungrouped.new.stock) (inr c.in_ok-make_way.ensures.ends) c.clear_ungrouped.ensures.ends

pub returns-in_err-make_way-clause-firmly : goal.returns-in_err-make_way-clause-firmly
returns-in_err-make_way-clause-firmly g c zero =
    keeps-as c.from_residual.result _ (g.S.SlotCalls.state c.args.stock.now) (g.S.SlotCalls.state c.make_way.new.stock) (g.S.Reclaim.counts c.args.stock.now) (g.S.Reclaim.counts c.make_way.new.stock) c.from_residual.ensures.1 c.in_err-make_way.ensures.firmly

pub returns-clause-firmly : goal.returns-clause-firmly
returns-clause-firmly g c zero h =
    let keeps = c.in_ok-make_way.ensures.ok.keeps in
    let low = subst (λ n. c.args.sector < n) c.requires.served.tabled.size c.requires.number in
    keeps-since c.clear_ungrouped.result (g.S.SlotCalls.state c.args.stock.now) (g.S.SlotCalls.state c.make_way.new.stock) (g.S.SlotCalls.state c.clear_ungrouped.new.stock) (g.S.Reclaim.counts c.args.stock.now) (g.S.Reclaim.counts c.make_way.new.stock) (g.S.Reclaim.counts c.clear_ungrouped.new.stock)
    c.in_ok-make_way.ensures.firmly keeps (c.clear_ungrouped.ensures.firmly (keeps.sectors h.clean c.args.sector low ∙ zero)) h
