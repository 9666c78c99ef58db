use Rattle.std.proofs.Common.{sym, subst, arith}
use Rattle.std.proofs.lemmas.Result.{err_from_is_err_and}
use Rattle.sector_map.specs.Replace.{HeldBy}
use Rattle.sector_map.proofs.Retiring.{table-holder}
use Rattle.sector_map.proofs.Clearing.{held-retirable, clear-done, clear-cut, clear-none}
use Rattle.std.proofs.Common.{ap}
use Rattle.std.specs.Prelude.{Err}
use Rattle.nor_driver.specs.State.{bits_in}
use Rattle.sector_map.proofs.KeepLosses.{stock-fails}
use Rattle.sector_map.proofs.Retiring.{single-tabled}
use Rattle.sector_map.proofs.SetLosses.{gives-up-zeros}
use Rattle.sector_map.proofs.steps.clear_ungrouped.Goals as goal

pub release-requires-clause-number : goal.release-requires-clause-number
release-requires-clause-number g c =
    let m = (g.S.SlotCalls.state c.args.stock.now).memory in
    let hold = subst (λ o. HeldBy o c.args.sector m) (sym c.in-Some.ensures) (table-holder c.args.table.now m c.args.sector c.requires.served.tabled c.requires.number) in
    hold.1.number

pub release-requires-clause-live : goal.release-requires-clause-live
release-requires-clause-live g c ready =
    let m = (g.S.SlotCalls.state c.args.stock.now).memory in
    let hold = subst (λ o. HeldBy o c.args.sector m) (sym c.in-Some.ensures) (table-holder c.args.table.now m c.args.sector c.requires.served.tabled c.requires.number) in
    held-retirable c.args.sector c.in-Some.held m c.requires.own hold

pub returns-in_err-release-in-Some-clause-cut : goal.returns-in_err-release-in-Some-clause-cut
returns-in_err-release-in-Some-clause-cut g c is =
    let p = err_from_is_err_and c.from_residual.result c.from_residual.ensures.1 in
    let a = g.S.SlotCalls.state c.args.stock.now in
    let s = c.requires.served in
    let hold = subst (λ o. HeldBy o c.args.sector a.memory) (sym c.in-Some.ensures) (table-holder c.args.table.now a.memory c.args.sector s.tabled c.requires.number) in
    let live = held-retirable c.args.sector c.in-Some.held a.memory c.requires.own hold in
    clear-cut c.args.sector c.in-Some.held a (g.S.SlotCalls.state c.release.new.self).memory c.args.table.now (g.S.SlotCalls.indexed c.args.stock.now) s hold (c.in_err-release-in-Some.ensures.cut_only (cc (p.1, p.2))) (c.in_err-release-in-Some.ensures.cut (cc (p.1, p.2)) live)
    (c.in_err-release-in-Some.ensures.cut_clean (cc (p.1, p.2)) live) (c.in_err-release-in-Some.ensures.healthy (cc (p.1, p.2)) s.store.journals) (omega (arith, c.requires.number, s.tabled.size))

pub returns-in_ok-release-in-Some-clause-ok : goal.returns-in_ok-release-in-Some-clause-ok
returns-in_ok-release-in-Some-clause-ok g c =
    let a = g.S.SlotCalls.state c.args.stock.now in
    let s = c.requires.served in
    let hold = subst (λ o. HeldBy o c.args.sector a.memory) (sym c.in-Some.ensures) (table-holder c.args.table.now a.memory c.args.sector s.tabled c.requires.number) in
    clear-done c.args.sector c.in-Some.held a (g.S.SlotCalls.state c.release.new.self) c.args.table.now c.unset.new.table (g.S.SlotCalls.indexed c.args.stock.now) (g.S.SlotCalls.indexed c.release.new.self) s hold
    c.in_ok-release-in-Some.ensures.only c.in_ok-release-in-Some.ensures.ok c.in_ok-release-in-Some.ensures.clean c.in_ok-release-in-Some.ensures.ends (omega (arith, c.requires.number, s.tabled.size)) c.unset.ensures c.in_ok-release-in-Some.ensures.indexed

pub returns-in-None-clause-ok : goal.returns-in-None-clause-ok
returns-in-None-clause-ok g c =
    let a = g.S.SlotCalls.state c.args.stock.now in
    let s = c.requires.served in
    clear-none c.args.sector a c.args.table.now (g.S.SlotCalls.indexed c.args.stock.now) s (subst (λ o. HeldBy o c.args.sector a.memory) (sym c.in-None.ensures) (table-holder c.args.table.now a.memory c.args.sector s.tabled c.requires.number))

pub returns-in_err-release-in-Some-clause-firmly : goal.returns-in_err-release-in-Some-clause-firmly
returns-in_err-release-in-Some-clause-firmly g c zero =
    let a = g.S.SlotCalls.state c.args.stock.now in
    let s = c.requires.served in
    let hold = subst (λ o. HeldBy o c.args.sector a.memory) (sym c.in-Some.ensures) (table-holder c.args.table.now a.memory c.args.sector s.tabled c.requires.number) in
    let up = gives-up-zeros c.args.sector c.in-Some.held (bits_in a) s.blocks.rest s.store.slots (single-tabled c.args.table.now a.memory s.tabled) hold zero in
    stock-fails c.from_residual.result _ a (g.S.SlotCalls.state c.release.new.self) (g.S.Reclaim.counts c.args.stock.now) (g.S.Reclaim.counts c.release.new.self) c.from_residual.ensures.1 s.store.slots (λ cut h. c.in_err-release-in-Some.ensures.cut_bits (ap Err cut) h up)

pub returns-in_ok-release-in-Some-clause-firmly : goal.returns-in_ok-release-in-Some-clause-firmly
returns-in_ok-release-in-Some-clause-firmly g c zero h =
    let a = g.S.SlotCalls.state c.args.stock.now in
    let s = c.requires.served in
    let hold = subst (λ o. HeldBy o c.args.sector a.memory) (sym c.in-Some.ensures) (table-holder c.args.table.now a.memory c.args.sector s.tabled c.requires.number) in
    c.in_ok-release-in-Some.ensures.disk h (gives-up-zeros c.args.sector c.in-Some.held (bits_in a) s.blocks.rest s.store.slots (single-tabled c.args.table.now a.memory s.tabled) hold zero)
