use Rattle.std.proofs.Common.{◌≡◌, ap, subst, arith}
use Rattle.std.proofs.lemmas.Result.{err_from_is_err_and}
use Rattle.sector_slots.specs.Slots.{data_blocks}
use Rattle.sector_stock.specs.Index.{erases_of}
use Rattle.sector_stock.specs.Takes.{work_of}
use Rattle.sector_map.specs.Maps.{KeptServing, KeepsMap}
use Rattle.sector_map.proofs.MapCalls.{kept-after, keeps-after, no-work}
use Rattle.sector_map.proofs.Evening.{even-wider, tidied-less}
use Rattle.erase_journal.specs.Steps.{RefusesFirmly}
use Rattle.nor_driver.proofs.CallLaws.{fails-as}
use Rattle.erase_journal.specs.Steps.{SucceedsSettled}
use Rattle.erase_journal.proofs.SettledLaws.{settled-after}
use Rattle.erase_journal.proofs.Firmly.{refuses-firmly}
use Rattle.sector_map.proofs.KeepLosses.{firmly-from, keeps-as, keeps-fails, still-stays}
use Rattle.sector_map.proofs.steps.tidy_levelled.Goals as goal

pub returns-then-not-has_work-clause-none : goal.returns-then-not-has_work-clause-none
returns-then-not-has_work-clause-none g c is =
    let p = c.has_work.ensures.no (cc c.if-not-has_work.true) in
    no-work (g.S.SlotCalls.state c.args.stock.now).memory p.0 p.1

pub tidy_once-requires-clause-even : goal.tidy_once-requires-clause-even
tidy_once-requires-clause-even g c by = even-wider 30 31 (data_blocks (g.S.SlotCalls.state c.level_all.new.stock).memory) (erases_of (g.S.Reclaim.counts c.level_all.new.stock)) (omega arith) (c.in_ok-level_all.ensures.even by)

pub returns-in_err-tidy_once-clause-cut : goal.returns-in_err-tidy_once-clause-cut
returns-in_err-tidy_once-clause-cut g c is =
    let p = err_from_is_err_and c.from_residual-in_err-tidy_once.result c.from_residual-in_err-tidy_once.ensures.1 in
    keeps-after (g.S.SlotCalls.state c.args.stock.now).memory (g.S.SlotCalls.state c.level_all.new.stock).memory (g.S.SlotCalls.state c.tidy_once.new.stock).memory (subst (λ z. KeepsMap z.memory (g.S.SlotCalls.state c.level_all.new.stock).memory) c.has_work.ensures.state c.in_ok-level_all.ensures.ok.keeps) (c.in_err-tidy_once.ensures.cut (cc (p.1, p.2)))

pub returns-clause-ok : goal.returns-clause-ok
returns-clause-ok g c =
    let b = g.S.SlotCalls.state c.level_all.new.stock in
    kept-after c.tidy_once.new.table c.level_all.new.table (g.S.SlotCalls.state c.args.stock.now) b (g.S.SlotCalls.state c.tidy_once.new.stock) (g.S.SlotCalls.indexed c.level_all.new.stock) (g.S.SlotCalls.indexed c.tidy_once.new.stock)
    (subst (λ z. KeptServing c.level_all.new.table z b (g.S.SlotCalls.indexed c.level_all.new.stock)) c.has_work.ensures.state c.in_ok-level_all.ensures.ok) c.in_ok-tidy_once.ensures.ok

pub returns-clause-fewer : goal.returns-clause-fewer
returns-clause-fewer g c t =
    let same : work_of (g.S.SlotCalls.state c.has_work.new.self).memory ≡ work_of (g.S.SlotCalls.state c.args.stock.now).memory = ap (λ z. work_of z.memory) c.has_work.ensures.state in
    let low = c.in_ok-level_all.ensures.work in
    tidied-less c.in_ok-tidy_once.field-0 (work_of (g.S.SlotCalls.state c.args.stock.now).memory) (work_of (g.S.SlotCalls.state c.level_all.new.stock).memory) (work_of (g.S.SlotCalls.state c.tidy_once.new.stock).memory) (c.has_work.ensures.yes (cc c.if-not-has_work.false)) (omega (arith, same, low))
    c.in_ok-tidy_once.ensures.fewer c.in_ok-tidy_once.ensures.none (λ f. ap (λ z. work_of z) (c.in_ok-tidy_once.ensures.unchanged f))

pub returns-in_err-tidy_once-clause-ends : goal.returns-in_err-tidy_once-clause-ends
returns-in_err-tidy_once-clause-ends g c =
    let s0 = g.S.SlotCalls.state c.args.stock.now in
    let s1 = g.S.SlotCalls.state c.level_all.new.stock in
    let s2 = g.S.SlotCalls.state c.tidy_once.new.stock in
    let done = subst (λ z. SucceedsSettled z s1) c.has_work.ensures.state c.in_ok-level_all.ensures.ends in
    fails-as c.from_residual-in_err-tidy_once.result _ (λ _. SucceedsSettled s0 s2) (λ e. RefusesFirmly e s0 s2) c.from_residual-in_err-tidy_once.ensures.1
    (refuses-firmly _ s0 s1 s2 done c.in_err-tidy_once.ensures.ends)

pub returns-clause-ends : goal.returns-clause-ends
returns-clause-ends g c =
    let s0 = g.S.SlotCalls.state c.args.stock.now in
    let s1 = g.S.SlotCalls.state c.level_all.new.stock in
    let s2 = g.S.SlotCalls.state c.tidy_once.new.stock in
    let done = subst (λ z. SucceedsSettled z s1) c.has_work.ensures.state c.in_ok-level_all.ensures.ends in
    settled-after s0 s1 s2 done c.in_ok-tidy_once.ensures.ends

pub returns-then-not-has_work-clause-firmly : goal.returns-then-not-has_work-clause-firmly
returns-then-not-has_work-clause-firmly g c h = still-stays (g.S.SlotCalls.state c.args.stock.now) (g.S.SlotCalls.state c.has_work.new.self) (g.S.Reclaim.counts c.args.stock.now) (g.S.Reclaim.counts c.has_work.new.self) c.has_work.ensures.state c.has_work.ensures.counted h

pub returns-in_err-level_all-clause-firmly : goal.returns-in_err-level_all-clause-firmly
returns-in_err-level_all-clause-firmly g c =
    firmly-from c.from_residual.result (g.S.SlotCalls.state c.args.stock.now) (g.S.SlotCalls.state c.has_work.new.self) (g.S.SlotCalls.state c.level_all.new.stock) (g.S.Reclaim.counts c.args.stock.now) (g.S.Reclaim.counts c.has_work.new.self) (g.S.Reclaim.counts c.level_all.new.stock) c.has_work.ensures.state c.has_work.ensures.counted
    (keeps-as c.from_residual.result _ (g.S.SlotCalls.state c.has_work.new.self) (g.S.SlotCalls.state c.level_all.new.stock) (g.S.Reclaim.counts c.has_work.new.self) (g.S.Reclaim.counts c.level_all.new.stock) c.from_residual.ensures.1 c.in_err-level_all.ensures.firmly)

pub returns-in_err-tidy_once-clause-firmly : goal.returns-in_err-tidy_once-clause-firmly
returns-in_err-tidy_once-clause-firmly g c =
    firmly-from c.from_residual-in_err-tidy_once.result (g.S.SlotCalls.state c.args.stock.now) (g.S.SlotCalls.state c.has_work.new.self) (g.S.SlotCalls.state c.tidy_once.new.stock) (g.S.Reclaim.counts c.args.stock.now) (g.S.Reclaim.counts c.has_work.new.self) (g.S.Reclaim.counts c.tidy_once.new.stock) c.has_work.ensures.state c.has_work.ensures.counted
    (keeps-fails c.from_residual-in_err-tidy_once.result _ (g.S.SlotCalls.state c.has_work.new.self) (g.S.SlotCalls.state c.level_all.new.stock) (g.S.SlotCalls.state c.tidy_once.new.stock) (g.S.Reclaim.counts c.has_work.new.self) (g.S.Reclaim.counts c.level_all.new.stock) (g.S.Reclaim.counts c.tidy_once.new.stock) c.from_residual-in_err-tidy_once.ensures.1
    c.in_ok-level_all.ensures.firmly c.in_ok-level_all.ensures.ok.keeps c.in_err-tidy_once.ensures.firmly)

pub returns-clause-firmly : goal.returns-clause-firmly
returns-clause-firmly g c h =
    c.in_ok-tidy_once.ensures.firmly (c.in_ok-level_all.ensures.firmly (still-stays (g.S.SlotCalls.state c.args.stock.now) (g.S.SlotCalls.state c.has_work.new.self) (g.S.Reclaim.counts c.args.stock.now) (g.S.Reclaim.counts c.has_work.new.self) c.has_work.ensures.state c.has_work.ensures.counted h))
