use Rattle.std.proofs.Common.{◌<◌, inr, subst}
use Rattle.std.proofs.lemmas.Result.{err_from_is_err_and, on_ok_weaker}
use Rattle.sector_slots.specs.Sectors.{zeros}
use Rattle.sector_map.proofs.MapCalls.{after-ends}
use Rattle.sector_map.proofs.Zeroing.{leaves-twice, wrote-twice}
use Rattle.sector_map.proofs.KeepLosses.{sets-as}
use Rattle.sector_map.proofs.SetLosses.{keeps-set}
use Rattle.sector_map.proofs.steps.clear_written.Goals as goal

pub returns-clause-ok : goal.returns-clause-ok
unfolding zeros
returns-clause-ok g c =
    let a = g.S.SlotCalls.state c.args.stock.now in
    let b = g.S.SlotCalls.state c.write_levelled.new.stock in
    let d = g.S.SlotCalls.state c.clear_levelled.new.stock in
    on_ok_weaker c.clear_levelled.result (λ w. wrote-twice c.args.sector zeros c.clear_levelled.new.table c.write_levelled.new.table a b d (g.S.SlotCalls.indexed c.write_levelled.new.stock) (g.S.SlotCalls.indexed c.clear_levelled.new.stock) c.in_ok-write_levelled.ensures.ok w) c.clear_levelled.ensures.ok

pub returns-in_err-write_levelled-clause-cut : goal.returns-in_err-write_levelled-clause-cut
unfolding zeros
returns-in_err-write_levelled-clause-cut g c is =
    let p = err_from_is_err_and c.from_residual.result c.from_residual.ensures.1 in
    c.in_err-write_levelled.ensures.cut (cc (p.1, p.2))

pub returns-clause-cut : goal.returns-clause-cut
unfolding zeros
returns-clause-cut g c is =
    let a = g.S.SlotCalls.state c.args.stock.now in
    let size = c.requires.served.tabled.size in
    leaves-twice c.args.sector zeros a.memory (g.S.SlotCalls.state c.write_levelled.new.stock).memory (g.S.SlotCalls.state c.clear_levelled.new.stock).memory
    (subst (λ n. c.args.sector < n) size c.requires.number) c.in_ok-write_levelled.ensures.ok.sets (c.clear_levelled.ensures.cut is)

pub returns-clause-ends : goal.returns-clause-ends
returns-clause-ends g c = after-ends c.clear_levelled.result (g.S.SlotCalls.state c.args.stock.now) (g.S.SlotCalls.state c.write_levelled.new.stock) (g.S.SlotCalls.state c.clear_levelled.new.stock) (inr c.in_ok-write_levelled.ensures.ends) c.clear_levelled.ensures.ends

pub returns-in_err-write_levelled-clause-firmly : goal.returns-in_err-write_levelled-clause-firmly
unfolding zeros
returns-in_err-write_levelled-clause-firmly g c =
    sets-as c.args.sector zeros c.from_residual.result _ (g.S.SlotCalls.state c.args.stock.now) (g.S.SlotCalls.state c.write_levelled.new.stock) (g.S.Reclaim.counts c.args.stock.now) (g.S.Reclaim.counts c.write_levelled.new.stock) c.from_residual.ensures.1 c.in_err-write_levelled.ensures.firmly

pub returns-clause-firmly : goal.returns-clause-firmly
unfolding zeros
returns-clause-firmly g c =
    let sets = c.in_ok-write_levelled.ensures.ok.sets in
    keeps-set c.args.sector zeros c.clear_levelled.result (g.S.SlotCalls.state c.args.stock.now) (g.S.SlotCalls.state c.write_levelled.new.stock) (g.S.SlotCalls.state c.clear_levelled.new.stock) (g.S.Reclaim.counts c.args.stock.now) (g.S.Reclaim.counts c.write_levelled.new.stock) (g.S.Reclaim.counts c.clear_levelled.new.stock)
    (subst (λ n. c.args.sector < n) c.requires.served.tabled.size c.requires.number) c.in_ok-write_levelled.ensures.firmly sets (λ h. c.clear_levelled.ensures.firmly (sets.there h.clean))
