use Rattle.std.proofs.Common.{◌∙◌, ap, sym, subst, Err}
use Rattle.std.proofs.lemmas.Result.{err_from_is_err_and}
use Rattle.nor_driver.specs.State.{bits_in}
use Rattle.erase_journal.specs.Blocks.{SameBlocks}
use Rattle.erase_journal.proofs.SettledLaws.{settled-healthy, settled-after}
use Rattle.erase_journal.proofs.Firmly.{refuses-firmly}
use Rattle.nor_driver.proofs.CallLaws.{fails-as}
use Rattle.erase_journal.specs.Steps.{RefusesFirmly, SucceedsSettled}
use Rattle.sector_stock.specs.Losses.{IsFirmDiskIn}
use Rattle.sector_map.specs.Maps.{KeepsMap, KeptServing}
use Rattle.sector_map.proofs.KeepLosses.{keeps-as}
use Rattle.sector_map.proofs.Renewal.{journals-disk, journals-keep, journals-kept, journals-lose, journals-room, listing-loses}
use Rattle.sector_map.proofs.settling.renew_journals.Goals as goal

pub returns-in_err-renew_journals-clause-cut : goal.returns-in_err-renew_journals-clause-cut
returns-in_err-renew_journals-clause-cut g c is =
    let p = err_from_is_err_and c.from_residual.result c.from_residual.ensures.1 in
    let kept = c.in_err-renew_journals.ensures.cut (cc (p.1, p.2)) c.requires.served.store.journals in
    journals-keep c.args.table.now (g.S.SlotCalls.state c.args.stock.now) (g.S.SlotCalls.indexed c.args.stock.now) (g.S.SlotCalls.state c.renew_journals.new.self).memory c.requires.served kept.blocks kept.healthy

pub fill-requires : goal.fill-requires
fill-requires g c = record { room = λ ready. journals-room c.args.table.now (g.S.SlotCalls.state c.args.stock.now) (g.S.SlotCalls.state c.renew_journals.new.self) (g.S.SlotCalls.indexed c.args.stock.now) c.requires.served c.in_ok-renew_journals.ensures.blocks c.in_ok-renew_journals.ensures.ends }

pub returns-in_err-fill-clause-cut : goal.returns-in_err-fill-clause-cut
returns-in_err-fill-clause-cut g c is =
    let a = g.S.SlotCalls.state c.args.stock.now in
    let b = g.S.SlotCalls.state c.renew_journals.new.self in
    subst (λ z. KeepsMap a.memory z) (sym c.fill.ensures.same)
    (journals-keep c.args.table.now a (g.S.SlotCalls.indexed c.args.stock.now) b.memory c.requires.served c.in_ok-renew_journals.ensures.blocks (settled-healthy b.memory c.in_ok-renew_journals.ensures.ends.settled))

pub returns-clause-ok : goal.returns-clause-ok
returns-clause-ok g c =
    let a = g.S.SlotCalls.state c.args.stock.now in
    let b = g.S.SlotCalls.state c.renew_journals.new.self in
    let f = g.S.SlotCalls.state c.fill.new.self in
    let blocks = subst (λ z. SameBlocks a.memory z) (sym c.fill.ensures.same) c.in_ok-renew_journals.ensures.blocks in
    let done = settled-after a b f c.in_ok-renew_journals.ensures.ends c.in_ok-fill.ensures.ends in
    subst (λ z. KeptServing c.args.table.now a z (g.S.SlotCalls.indexed c.suspect_as.new.stock)) (sym c.suspect_as.ensures.state)
    (journals-kept c.args.table.now a f (g.S.SlotCalls.indexed c.args.stock.now) (g.S.SlotCalls.indexed c.suspect_as.new.stock) c.requires.served blocks done (c.suspect_as.ensures.indexed ∙ c.in_ok-fill.ensures.indexed))

pub returns-in_err-fill-clause-ends : goal.returns-in_err-fill-clause-ends
returns-in_err-fill-clause-ends g c =
    let s0 = g.S.SlotCalls.state c.args.stock.now in
    let s1 = g.S.SlotCalls.state c.renew_journals.new.self in
    let s2 = g.S.SlotCalls.state c.fill.new.self in
    fails-as c.from_residual-in_err-fill.result _ (λ _. SucceedsSettled s0 s2) (λ e. RefusesFirmly e s0 s2) c.from_residual-in_err-fill.ensures.1
    (refuses-firmly _ s0 s1 s2 c.in_ok-renew_journals.ensures.ends c.in_err-fill.ensures.ends)

pub returns-clause-ends : goal.returns-clause-ends
returns-clause-ends g c =
    let s0 = g.S.SlotCalls.state c.args.stock.now in
    let s1 = g.S.SlotCalls.state c.renew_journals.new.self in
    let s2 = g.S.SlotCalls.state c.fill.new.self in
    subst (λ z. SucceedsSettled s0 z) (sym c.suspect_as.ensures.state) (settled-after s0 s1 s2 c.in_ok-renew_journals.ensures.ends c.in_ok-fill.ensures.ends)

pub returns-clause-firmly : goal.returns-clause-firmly
returns-clause-firmly g c firm disk =
    let a = g.S.SlotCalls.state c.args.stock.now in
    let b = g.S.SlotCalls.state c.renew_journals.new.self in
    let f = g.S.SlotCalls.state c.fill.new.self in
    let blocks = subst (λ z. SameBlocks a.memory z) (sym c.fill.ensures.same) c.in_ok-renew_journals.ensures.blocks in
    let done = settled-after a b f c.in_ok-renew_journals.ensures.ends c.in_ok-fill.ensures.ends in
    let later = g.S.Reclaim.counts c.suspect_as.new.stock in
    subst (λ z. IsFirmDiskIn (bits_in z) later) (sym c.suspect_as.ensures.state)
    (journals-disk c.args.table.now a f (g.S.SlotCalls.indexed c.args.stock.now) (g.S.Reclaim.counts c.args.stock.now) later c.requires.served blocks done (c.suspect_as.ensures.listed ∙ c.in_ok-fill.ensures.listed) (c.suspect_as.ensures.suspect firm) disk)

pub returns-in_err-renew_journals-clause-firmly : goal.returns-in_err-renew_journals-clause-firmly
returns-in_err-renew_journals-clause-firmly g c firm =
    let a = g.S.SlotCalls.state c.args.stock.now in
    let b = g.S.SlotCalls.state c.renew_journals.new.self in
    let served = c.requires.served in
    keeps-as c.from_residual.result _ a b (g.S.Reclaim.counts c.args.stock.now) (g.S.Reclaim.counts c.renew_journals.new.self) c.from_residual.ensures.1
    (λ disk cut. journals-lose a b (g.S.Reclaim.counts c.args.stock.now) served.blocks served.store c.in_err-renew_journals.ensures.size c.in_err-renew_journals.ensures.data
    (c.in_err-renew_journals.ensures.opens (ap Err cut) disk.settled disk.journals) disk)

pub returns-in_err-fill-clause-firmly : goal.returns-in_err-fill-clause-firmly
returns-in_err-fill-clause-firmly g c firm =
    let a = g.S.SlotCalls.state c.args.stock.now in
    let b = g.S.SlotCalls.state c.renew_journals.new.self in
    let f = g.S.SlotCalls.state c.fill.new.self in
    let indexed = g.S.SlotCalls.indexed c.args.stock.now in
    let served = c.requires.served in
    let done = c.in_ok-renew_journals.ensures.ends in
    let blocks = c.in_ok-renew_journals.ensures.blocks in
    keeps-as c.from_residual-in_err-fill.result _ a f (g.S.Reclaim.counts c.args.stock.now) (g.S.Reclaim.counts c.fill.new.self) c.from_residual-in_err-fill.ensures.1
    (λ disk cut. listing-loses c.args.table.now a b f indexed (g.S.Reclaim.counts c.args.stock.now) served blocks done (journals-keep c.args.table.now a indexed b.memory served blocks (settled-healthy b.memory done.settled)) c.fill.ensures.same c.fill.ensures.weak disk)
