use Rattle.std.proofs.Common.{subst}
use Rattle.std.proofs.lemmas.Result.{err_from_is_err_and}
use Rattle.sector_map.specs.Maps.{KeepsMap, KeptServing}
use Rattle.sector_map.proofs.MapCalls.{kept-after, keeps-after, after-ok}
use Rattle.erase_journal.specs.Steps.{SucceedsSettled}
use Rattle.erase_journal.proofs.Firmly.{firmly-since}
use Rattle.sector_map.proofs.KeepLosses.{firmly-from, keeps-as, keeps-since, still-stays}
use Rattle.sector_map.proofs.steps.even_out.Goals as goal

pub returns-in_err-renew_now-clause-cut : goal.returns-in_err-renew_now-clause-cut
returns-in_err-renew_now-clause-cut g c is =
    let p = err_from_is_err_and c.from_residual.result c.from_residual.ensures.1 in
    subst (λ z. KeepsMap z.memory (g.S.SlotCalls.state c.renew_now.new.stock).memory) c.lagging.ensures.state (c.in_err-renew_now.ensures.cut (cc (p.1, p.2)))

pub returns-clause-ok : goal.returns-clause-ok
returns-clause-ok g c =
    let a = g.S.SlotCalls.state c.args.stock.now in
    let b = g.S.SlotCalls.state c.renew_now.new.stock in
    let d = g.S.SlotCalls.state c.renew_soon.new.stock in
    let i = g.S.SlotCalls.indexed c.renew_now.new.stock in
    let j = g.S.SlotCalls.indexed c.renew_soon.new.stock in
    let kept = subst (λ z. KeptServing c.renew_now.new.table z b i) c.lagging.ensures.state c.in_ok-renew_now.ensures.ok in
    after-ok c.renew_soon.result (KeptServing c.renew_soon.new.table b d j) (KeptServing c.renew_soon.new.table a d j)
    (λ w. kept-after c.renew_soon.new.table c.renew_now.new.table a b d i j kept w) c.renew_soon.ensures.ok

pub returns-clause-cut : goal.returns-clause-cut
returns-clause-cut g c is =
    let first = subst (λ z. KeepsMap z.memory (g.S.SlotCalls.state c.renew_now.new.stock).memory) c.lagging.ensures.state c.in_ok-renew_now.ensures.ok.keeps in
    keeps-after (g.S.SlotCalls.state c.args.stock.now).memory (g.S.SlotCalls.state c.renew_now.new.stock).memory (g.S.SlotCalls.state c.renew_soon.new.stock).memory first (c.renew_soon.ensures.cut is)

pub returns-clause-ends : goal.returns-clause-ends
returns-clause-ends g c =
    let s0 = g.S.SlotCalls.state c.args.stock.now in
    let s1 = g.S.SlotCalls.state c.renew_now.new.stock in
    let s2 = g.S.SlotCalls.state c.renew_soon.new.stock in
    let done = subst (λ z. SucceedsSettled z s1) c.lagging.ensures.state c.in_ok-renew_now.ensures.ends in
    firmly-since c.renew_soon.result s0 s1 s2 done c.renew_soon.ensures.ends

pub returns-in_default-clause-firmly : goal.returns-in_default-clause-firmly
returns-in_default-clause-firmly g c h = still-stays (g.S.SlotCalls.state c.args.stock.now) (g.S.SlotCalls.state c.lagging.new.self) (g.S.Reclaim.counts c.args.stock.now) (g.S.Reclaim.counts c.lagging.new.self) c.lagging.ensures.state c.lagging.ensures.counted h

pub returns-in_err-renew_now-clause-firmly : goal.returns-in_err-renew_now-clause-firmly
returns-in_err-renew_now-clause-firmly g c =
    firmly-from c.from_residual.result (g.S.SlotCalls.state c.args.stock.now) (g.S.SlotCalls.state c.lagging.new.self) (g.S.SlotCalls.state c.renew_now.new.stock) (g.S.Reclaim.counts c.args.stock.now) (g.S.Reclaim.counts c.lagging.new.self) (g.S.Reclaim.counts c.renew_now.new.stock) c.lagging.ensures.state c.lagging.ensures.counted
    (keeps-as c.from_residual.result _ (g.S.SlotCalls.state c.lagging.new.self) (g.S.SlotCalls.state c.renew_now.new.stock) (g.S.Reclaim.counts c.lagging.new.self) (g.S.Reclaim.counts c.renew_now.new.stock) c.from_residual.ensures.1 c.in_err-renew_now.ensures.firmly)

pub returns-clause-firmly : goal.returns-clause-firmly
returns-clause-firmly g c =
    firmly-from c.renew_soon.result (g.S.SlotCalls.state c.args.stock.now) (g.S.SlotCalls.state c.lagging.new.self) (g.S.SlotCalls.state c.renew_soon.new.stock) (g.S.Reclaim.counts c.args.stock.now) (g.S.Reclaim.counts c.lagging.new.self) (g.S.Reclaim.counts c.renew_soon.new.stock) c.lagging.ensures.state c.lagging.ensures.counted
    (keeps-since c.renew_soon.result (g.S.SlotCalls.state c.lagging.new.self) (g.S.SlotCalls.state c.renew_now.new.stock) (g.S.SlotCalls.state c.renew_soon.new.stock) (g.S.Reclaim.counts c.lagging.new.self) (g.S.Reclaim.counts c.renew_now.new.stock) (g.S.Reclaim.counts c.renew_soon.new.stock)
    c.in_ok-renew_now.ensures.firmly c.in_ok-renew_now.ensures.ok.keeps c.renew_soon.ensures.firmly)
