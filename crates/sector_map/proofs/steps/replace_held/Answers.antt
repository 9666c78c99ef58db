use Rattle.std.proofs.Common.{sym, subst}
use Rattle.std.specs.Prelude.{Some}
use Rattle.erase_journal.specs.Steps.{RefusesFirmly}
use Rattle.erase_journal.proofs.SettledLaws.{settled-healthy, settled-after}
use Rattle.erase_journal.proofs.Firmly.{refuses-firmly}
use Rattle.std.proofs.lemmas.Result.{err_from_is_err_and}
use Rattle.sector_map.proofs.Replacing.{put-was-cut, replace-done, retire-was-cut, old-retirable}
use Rattle.erase_journal.specs.Steps.{EndsFirmly}
use Rattle.std.proofs.Common.{ap}
use Rattle.std.specs.Prelude.{Err}
use Rattle.nor_driver.specs.State.{bits_in}
use Rattle.sector_map.proofs.KeepLosses.{sets-as}
use Rattle.sector_map.proofs.SetLosses.{gives-up-old, new-as, retire-sets, takes-as, write-loses, write-sets}
use Rattle.sector_map.proofs.steps.replace_held.Goals as goal

pub returns-in_err-write-clause-cut : goal.returns-in_err-write-clause-cut
returns-in_err-write-clause-cut g c is =
    let p = err_from_is_err_and c.from_residual.result c.from_residual.ensures.1 in
    put-was-cut c.args.to c.args.sector (Some c.args.held) c.next-generation.result c.args.content.now (g.S.SlotCalls.state c.args.stock.now).memory (g.S.SlotCalls.state c.write.new.self).memory c.next-generation.ensures
    c.requires.number (c.in_err-write.ensures.cut_only (cc (p.1, p.2))) (c.in_err-write.ensures.cut_live (cc (p.1, p.2))) (c.in_err-write.ensures.cut (cc (p.1, p.2))) (c.in_err-write.ensures.cut_clean (cc (p.1, p.2)))

pub returns-in_err-release-clause-cut : goal.returns-in_err-release-clause-cut
returns-in_err-release-clause-cut g c is =
    let p = err_from_is_err_and c.from_residual-in_err-release.result c.from_residual-in_err-release.ensures.1 in
    retire-was-cut c.args.to c.args.sector c.args.held c.next-generation.result c.args.content.now (g.S.SlotCalls.state c.args.stock.now).memory (g.S.SlotCalls.state c.write.new.self).memory
    (g.S.SlotCalls.state c.release.new.self).memory c.next-generation.ensures c.requires.number c.in_ok-write.ensures.only c.in_ok-write.ensures.live c.in_ok-write.ensures.ok c.in_ok-write.ensures.clean (c.in_err-release.ensures.cut_only (cc (p.1, p.2)))
    (c.in_err-release.ensures.cut (cc (p.1, p.2))) (c.in_err-release.ensures.cut_clean (cc (p.1, p.2)))

pub returns-clause-ok : goal.returns-clause-ok
returns-clause-ok g c = replace-done c.args.to c.args.sector c.args.held c.next-generation.result c.args.content.now (g.S.SlotCalls.state c.args.stock.now).memory (g.S.SlotCalls.state c.write.new.self).memory
    (g.S.SlotCalls.state c.release.new.self).memory c.next-generation.ensures c.requires.number c.in_ok-write.ensures.only c.in_ok-write.ensures.live c.in_ok-write.ensures.ok c.in_ok-write.ensures.clean c.in_ok-release.ensures.only
    (λ live. c.in_ok-release.ensures.ok) (λ live c1. c.in_ok-release.ensures.clean c1)

pub returns-in_err-release-clause-healthy : goal.returns-in_err-release-clause-healthy
returns-in_err-release-clause-healthy g c is h =
    let p = err_from_is_err_and c.from_residual-in_err-release.result c.from_residual-in_err-release.ensures.1 in
    c.in_err-release.ensures.healthy (cc (p.1, p.2)) (settled-healthy (g.S.SlotCalls.state c.write.new.self).memory c.in_ok-write.ensures.ends.settled)

pub returns-in_err-release-clause-ends : goal.returns-in_err-release-clause-ends
returns-in_err-release-clause-ends g c =
    let p = err_from_is_err_and c.from_residual-in_err-release.result c.from_residual-in_err-release.ensures.1 in
    subst (λ z. EndsFirmly z (g.S.SlotCalls.state c.args.stock.now) (g.S.SlotCalls.state c.release.new.self)) (sym p.1)
    (refuses-firmly p.0 (g.S.SlotCalls.state c.args.stock.now) (g.S.SlotCalls.state c.write.new.self) (g.S.SlotCalls.state c.release.new.self) c.in_ok-write.ensures.ends (subst (λ e. RefusesFirmly e (g.S.SlotCalls.state c.write.new.self) (g.S.SlotCalls.state c.release.new.self)) (sym p.2) c.in_err-release.ensures.ends))

pub returns-clause-ends : goal.returns-clause-ends
returns-clause-ends g c = settled-after (g.S.SlotCalls.state c.args.stock.now) (g.S.SlotCalls.state c.write.new.self) (g.S.SlotCalls.state c.release.new.self) c.in_ok-write.ensures.ends c.in_ok-release.ensures.ends

pub write-requires-clause-free : goal.write-requires-clause-free
write-requires-clause-free g c ready = (c.requires.replaceable ready).free

pub write-requires-clause-outside : goal.write-requires-clause-outside
write-requires-clause-outside g c ready = (c.requires.replaceable ready).outside

pub release-requires-clause-live : goal.release-requires-clause-live
release-requires-clause-live g c now =
    old-retirable c.args.to c.args.sector c.args.held (g.S.SlotCalls.state c.args.stock.now).memory (g.S.SlotCalls.state c.write.new.self).memory c.in_ok-write.ensures.only (c.requires.replaceable c.in_ok-write.ensures.ends.ready)

pub returns-in_err-write-clause-firmly : goal.returns-in_err-write-clause-firmly
returns-in_err-write-clause-firmly g c r t =
    let a = g.S.SlotCalls.state c.args.stock.now in
    let b = g.S.SlotCalls.state c.write.new.self in
    let p = g.S.Reclaim.counts c.args.stock.now in
    let t1 = takes-as c.args.to c.args.sector (Some c.args.held) c.next-generation.result p (bits_in a) c.next-generation.ensures t in
    sets-as c.args.sector c.args.content.now c.from_residual.result _ a b p (g.S.Reclaim.counts c.write.new.self) c.from_residual.ensures.1
    (λ h cut. write-loses c.args.sector c.args.content.now (bits_in a) (bits_in b) p c.next-generation.result h (c.in_err-write.ensures.cut_bits (ap Err cut) h t1))

pub returns-in_err-release-clause-firmly : goal.returns-in_err-release-clause-firmly
returns-in_err-release-clause-firmly g c r t =
    let a = g.S.SlotCalls.state c.args.stock.now in
    let b = g.S.SlotCalls.state c.write.new.self in
    let d = g.S.SlotCalls.state c.release.new.self in
    let p = g.S.Reclaim.counts c.args.stock.now in
    let o = Some c.args.held in
    let w = c.in_ok-write.ensures in
    let t1 = takes-as c.args.to c.args.sector o c.next-generation.result p (bits_in a) c.next-generation.ensures t in
    sets-as c.args.sector c.args.content.now c.from_residual-in_err-release.result _ a d p (g.S.Reclaim.counts c.release.new.self) c.from_residual-in_err-release.ensures.1
    (λ h cut. (
    let new = new-as b.memory c.args.to c.args.sector o c.next-generation.result c.args.content.now c.next-generation.ensures (w.ok (r.free, h.clean)) in
    let sets = write-sets c.args.to c.args.sector o c.args.content.now a.memory b.memory r c.requires.number w.only new (settled-healthy b.memory w.ends.settled) (w.clean (r.free, h.clean)) in
    let up = gives-up-old c.args.to c.args.sector c.args.held c.args.content.now a.memory (bits_in b) c.requires.number w.only new r (w.written h t1) in
    retire-sets c.args.sector c.args.content.now a.memory b.memory (bits_in d) r.sector sets (c.in_err-release.ensures.cut_bits (ap Err cut) (w.disk h t1) up)))

pub returns-clause-firmly : goal.returns-clause-firmly
returns-clause-firmly g c r t h =
    let a = g.S.SlotCalls.state c.args.stock.now in
    let b = g.S.SlotCalls.state c.write.new.self in
    let p = g.S.Reclaim.counts c.args.stock.now in
    let o = Some c.args.held in
    let w = c.in_ok-write.ensures in
    let t1 = takes-as c.args.to c.args.sector o c.next-generation.result p (bits_in a) c.next-generation.ensures t in
    let new = new-as b.memory c.args.to c.args.sector o c.next-generation.result c.args.content.now c.next-generation.ensures (w.ok (r.free, h.clean)) in
    c.in_ok-release.ensures.disk (w.disk h t1) (gives-up-old c.args.to c.args.sector c.args.held c.args.content.now a.memory (bits_in b) c.requires.number w.only new r (w.written h t1))
