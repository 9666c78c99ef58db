use Rattle.std.proofs.Common.{inl, inr, sym, subst}
use Rattle.std.proofs.lemmas.Result.{err_from_is_err_and}
use Rattle.erase_journal.specs.Steps.{EndsFirmly}
use Rattle.erase_journal.specs.Steps.{RefusesFirmly}
use Rattle.erase_journal.proofs.SettledLaws.{settled-after}
use Rattle.erase_journal.proofs.Firmly.{refuses-firmly}
use Rattle.sector_stock.proofs.Copying.{stays-kept}
use Rattle.sector_map.specs.Maps.{Wrote}
use Rattle.sector_map.proofs.MapCalls.{served-room, stays-keeps, keeps-after, kept-after, wrote-after, leaves-after, after-ok, after-ends}
use Rattle.sector_map.proofs.Evening.{firm-kept, firm-own, firm-even}
use Rattle.std.proofs.Common.{ap}
use Rattle.std.specs.Prelude.{Err}
use Rattle.nor_driver.specs.State.{bits_in}
use Rattle.sector_map.specs.Losses.{before_it}
use Rattle.sector_map.proofs.KeepLosses.{loses-keeps, sets-as, sets-fails, sets-since}
use Rattle.sector_map.proofs.steps.write_levelled.Goals as goal

pub returns-in_err-make_way-clause-cut : goal.returns-in_err-make_way-clause-cut
returns-in_err-make_way-clause-cut g c is =
    let p = err_from_is_err_and c.from_residual.result c.from_residual.ensures.1 in
    inl (c.in_err-make_way.ensures.cut (cc (p.1, p.2)))

pub firm_free-requires-clause-room : goal.firm_free-requires-clause-room
firm_free-requires-clause-room g c = served-room c.make_way.new.table (g.S.SlotCalls.state c.make_way.new.stock) (g.S.SlotCalls.indexed c.make_way.new.stock) c.in_ok-make_way.ensures.ok.served

pub returns-in_err-firm_free-clause-cut : goal.returns-in_err-firm_free-clause-cut
returns-in_err-firm_free-clause-cut g c is =
    let p = err_from_is_err_and c.from_residual-in_err-firm_free.result c.from_residual-in_err-firm_free.ensures.1 in
    let a = (g.S.SlotCalls.state c.args.stock.now).memory in
    let b = (g.S.SlotCalls.state c.make_way.new.stock).memory in
    let d = (g.S.SlotCalls.state c.firm_free.new.self).memory in
    let kept = c.in_ok-make_way.ensures.ok in
    inl (keeps-after a b d kept.keeps (stays-keeps b d (stays-kept b d (c.in_err-firm_free.ensures.cut (cc (p.1, p.2)))) (c.in_err-firm_free.ensures.healthy (cc (p.1, p.2))) kept.served.store.slots))

pub returns-in_err-firm_free-clause-ends : goal.returns-in_err-firm_free-clause-ends
returns-in_err-firm_free-clause-ends g c =
    let p = err_from_is_err_and c.from_residual-in_err-firm_free.result c.from_residual-in_err-firm_free.ensures.1 in
    subst (λ z. EndsFirmly z (g.S.SlotCalls.state c.args.stock.now) (g.S.SlotCalls.state c.firm_free.new.self)) (sym p.1)
    (refuses-firmly p.0 (g.S.SlotCalls.state c.args.stock.now) (g.S.SlotCalls.state c.make_way.new.stock) (g.S.SlotCalls.state c.firm_free.new.self) c.in_ok-make_way.ensures.ends
    (subst (λ e. RefusesFirmly e (g.S.SlotCalls.state c.make_way.new.stock) (g.S.SlotCalls.state c.firm_free.new.self)) (sym p.2) c.in_err-firm_free.ensures.ends))

pub write_ungrouped-requires-clause-served : goal.write_ungrouped-requires-clause-served
write_ungrouped-requires-clause-served g c =
    (firm-kept (g.S.SlotCalls.state c.make_way.new.stock) (g.S.SlotCalls.state c.firm_free.new.self) c.make_way.new.table (g.S.SlotCalls.indexed c.make_way.new.stock) (g.S.SlotCalls.indexed c.firm_free.new.self) c.in_ok-make_way.ensures.ok.served c.in_ok-firm_free.ensures.ok c.in_ok-firm_free.ensures.ends c.in_ok-firm_free.ensures.indexed).served

pub write_ungrouped-requires-clause-even : goal.write_ungrouped-requires-clause-even
write_ungrouped-requires-clause-even g c =
    let e = c.in_ok-firm_free.ensures in
    firm-even 31 (g.S.Reclaim.policy c.make_way.new.stock) (g.S.Reclaim.policy c.firm_free.new.self) (g.S.SlotCalls.state c.make_way.new.stock).memory (g.S.SlotCalls.state c.firm_free.new.self).memory (g.S.Reclaim.counts c.make_way.new.stock) (g.S.Reclaim.counts c.firm_free.new.self) e.size e.policy e.erases c.in_ok-make_way.ensures.even

pub write_ungrouped-requires-clause-own : goal.write_ungrouped-requires-clause-own
write_ungrouped-requires-clause-own g c = firm-own (g.S.SlotCalls.state c.make_way.new.stock).memory (g.S.SlotCalls.state c.firm_free.new.self).memory c.in_ok-firm_free.ensures.ok c.args.sector c.in_ok-make_way.ensures.own

pub returns-clause-ok : goal.returns-clause-ok
returns-clause-ok g c =
    let a = g.S.SlotCalls.state c.args.stock.now in
    let b = g.S.SlotCalls.state c.make_way.new.stock in
    let f = g.S.SlotCalls.state c.firm_free.new.self in
    let d = g.S.SlotCalls.state c.write_ungrouped.new.stock in
    let i = g.S.SlotCalls.indexed c.make_way.new.stock in
    let h = g.S.SlotCalls.indexed c.firm_free.new.self in
    let j = g.S.SlotCalls.indexed c.write_ungrouped.new.stock in
    let firm = firm-kept b f c.make_way.new.table i h c.in_ok-make_way.ensures.ok.served c.in_ok-firm_free.ensures.ok c.in_ok-firm_free.ensures.ends c.in_ok-firm_free.ensures.indexed in
    let both = kept-after c.make_way.new.table c.make_way.new.table a b f i h c.in_ok-make_way.ensures.ok firm in
    after-ok c.write_ungrouped.result (Wrote c.args.sector c.args.content.now c.write_ungrouped.new.table f d j) (Wrote c.args.sector c.args.content.now c.write_ungrouped.new.table a d j)
    (λ w. wrote-after c.args.sector c.args.content.now c.write_ungrouped.new.table c.make_way.new.table a f d h j both w) c.write_ungrouped.ensures.ok

pub returns-clause-cut : goal.returns-clause-cut
returns-clause-cut g c is =
    let a = g.S.SlotCalls.state c.args.stock.now in
    let b = g.S.SlotCalls.state c.make_way.new.stock in
    let f = g.S.SlotCalls.state c.firm_free.new.self in
    let i = g.S.SlotCalls.indexed c.make_way.new.stock in
    let h = g.S.SlotCalls.indexed c.firm_free.new.self in
    let firm = firm-kept b f c.make_way.new.table i h c.in_ok-make_way.ensures.ok.served c.in_ok-firm_free.ensures.ok c.in_ok-firm_free.ensures.ends c.in_ok-firm_free.ensures.indexed in
    leaves-after c.args.sector c.args.content.now a.memory f.memory (g.S.SlotCalls.state c.write_ungrouped.new.stock).memory (keeps-after a.memory b.memory f.memory c.in_ok-make_way.ensures.ok.keeps firm.keeps) (c.write_ungrouped.ensures.cut is)

pub returns-clause-ends : goal.returns-clause-ends
returns-clause-ends g c =
    after-ends c.write_ungrouped.result (g.S.SlotCalls.state c.args.stock.now) (g.S.SlotCalls.state c.firm_free.new.self) (g.S.SlotCalls.state c.write_ungrouped.new.stock)
    (inr (settled-after (g.S.SlotCalls.state c.args.stock.now) (g.S.SlotCalls.state c.make_way.new.stock) (g.S.SlotCalls.state c.firm_free.new.self) c.in_ok-make_way.ensures.ends c.in_ok-firm_free.ensures.ends)) c.write_ungrouped.ensures.ends

pub returns-in_err-make_way-clause-firmly : goal.returns-in_err-make_way-clause-firmly
returns-in_err-make_way-clause-firmly g c =
    sets-as c.args.sector c.args.content.now c.from_residual.result _ (g.S.SlotCalls.state c.args.stock.now) (g.S.SlotCalls.state c.make_way.new.stock) (g.S.Reclaim.counts c.args.stock.now) (g.S.Reclaim.counts c.make_way.new.stock) c.from_residual.ensures.1
    (λ h cut. before_it (c.in_err-make_way.ensures.firmly h cut))

pub returns-in_err-firm_free-clause-firmly : goal.returns-in_err-firm_free-clause-firmly
returns-in_err-firm_free-clause-firmly g c =
    let b = g.S.SlotCalls.state c.make_way.new.stock in
    let f = g.S.SlotCalls.state c.firm_free.new.self in
    sets-fails c.args.sector c.args.content.now c.from_residual-in_err-firm_free.result _ (g.S.SlotCalls.state c.args.stock.now) b f (g.S.Reclaim.counts c.args.stock.now) (g.S.Reclaim.counts c.make_way.new.stock) (g.S.Reclaim.counts c.firm_free.new.self) c.from_residual-in_err-firm_free.ensures.1
    c.in_ok-make_way.ensures.firmly c.in_ok-make_way.ensures.ok.keeps (λ h cut. loses-keeps b.memory (bits_in f) c.in_ok-make_way.ensures.ok.served.store.slots (c.in_err-firm_free.ensures.cut_bits (ap Err cut) h))

pub returns-clause-firmly : goal.returns-clause-firmly
returns-clause-firmly g c =
    let a = g.S.SlotCalls.state c.args.stock.now in
    let b = g.S.SlotCalls.state c.make_way.new.stock in
    let f = g.S.SlotCalls.state c.firm_free.new.self in
    let firm = firm-kept b f c.make_way.new.table (g.S.SlotCalls.indexed c.make_way.new.stock) (g.S.SlotCalls.indexed c.firm_free.new.self) c.in_ok-make_way.ensures.ok.served c.in_ok-firm_free.ensures.ok c.in_ok-firm_free.ensures.ends c.in_ok-firm_free.ensures.indexed in
    sets-since c.args.sector c.args.content.now c.write_ungrouped.result a f (g.S.SlotCalls.state c.write_ungrouped.new.stock) (g.S.Reclaim.counts c.args.stock.now) (g.S.Reclaim.counts c.firm_free.new.self) (g.S.Reclaim.counts c.write_ungrouped.new.stock)
    (λ h. c.in_ok-firm_free.ensures.disk (c.in_ok-make_way.ensures.firmly h)) (keeps-after a.memory b.memory f.memory c.in_ok-make_way.ensures.ok.keeps firm.keeps) (c.write_ungrouped.ensures.firmly c.in_ok-firm_free.ensures.next c.in_ok-firm_free.ensures.spare)
