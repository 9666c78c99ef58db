use Rattle.std.proofs.lemmas.Result.{err_from_is_err_and}
use Rattle.sector_map.specs.Maps.{KeptServing}
use Rattle.sector_map.proofs.MapCalls.{kept-after, keeps-after, after-ok, after-fails, perhaps-after}
use Rattle.std.proofs.Common.{inr}
use Rattle.erase_journal.proofs.Firmly.{ends-firm}
use Rattle.sector_map.proofs.KeepLosses.{keeps-as, keeps-since}
use Rattle.sector_map.proofs.steps.make_way.Goals as goal

pub returns-in_err-level_all-clause-cut : goal.returns-in_err-level_all-clause-cut
returns-in_err-level_all-clause-cut g c is =
    let p = err_from_is_err_and c.from_residual.result c.from_residual.ensures.1 in
    c.in_err-level_all.ensures.cut (cc (p.1, p.2))

pub returns-clause-ok : goal.returns-clause-ok
returns-clause-ok g c =
    let a = g.S.SlotCalls.state c.args.stock.now in
    let b = g.S.SlotCalls.state c.level_all.new.stock in
    let d = g.S.SlotCalls.state c.leave_group.new.stock in
    let i = g.S.SlotCalls.indexed c.level_all.new.stock in
    let j = g.S.SlotCalls.indexed c.leave_group.new.stock in
    after-ok c.leave_group.result (KeptServing c.leave_group.new.table b d j) (KeptServing c.leave_group.new.table a d j)
    (λ w. kept-after c.leave_group.new.table c.level_all.new.table a b d i j c.in_ok-level_all.ensures.ok w) c.leave_group.ensures.ok

pub returns-clause-cut : goal.returns-clause-cut
returns-clause-cut g c is =
    keeps-after (g.S.SlotCalls.state c.args.stock.now).memory (g.S.SlotCalls.state c.level_all.new.stock).memory (g.S.SlotCalls.state c.leave_group.new.stock).memory c.in_ok-level_all.ensures.ok.keeps (c.leave_group.ensures.cut is)

pub returns-clause-ends : goal.returns-clause-ends
returns-clause-ends g c =
    let s0 = g.S.SlotCalls.state c.args.stock.now in
    let s1 = g.S.SlotCalls.state c.level_all.new.stock in
    let s2 = g.S.SlotCalls.state c.leave_group.new.stock in
    let done = c.in_ok-level_all.ensures.ends in
    ends-firm c.leave_group.result s0 s2 (after-ok c.leave_group.result _ _ (λ h. perhaps-after s0 s1 s2 done h) c.leave_group.ensures.done) (after-fails c.leave_group.result s0 s1 s2 (inr done) c.leave_group.ensures.fails)

pub returns-in_err-level_all-clause-firmly : goal.returns-in_err-level_all-clause-firmly
returns-in_err-level_all-clause-firmly g c = keeps-as c.from_residual.result _ (g.S.SlotCalls.state c.args.stock.now) (g.S.SlotCalls.state c.level_all.new.stock) (g.S.Reclaim.counts c.args.stock.now) (g.S.Reclaim.counts c.level_all.new.stock) c.from_residual.ensures.1 c.in_err-level_all.ensures.firmly

pub returns-clause-firmly : goal.returns-clause-firmly
returns-clause-firmly g c =
    keeps-since c.leave_group.result (g.S.SlotCalls.state c.args.stock.now) (g.S.SlotCalls.state c.level_all.new.stock) (g.S.SlotCalls.state c.leave_group.new.stock) (g.S.Reclaim.counts c.args.stock.now) (g.S.Reclaim.counts c.level_all.new.stock) (g.S.Reclaim.counts c.leave_group.new.stock)
    c.in_ok-level_all.ensures.firmly c.in_ok-level_all.ensures.ok.keeps c.leave_group.ensures.firmly
