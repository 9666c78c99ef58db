use Rattle.std.proofs.Common.{refl}
use Rattle.std.specs.Prelude.{None}
use Rattle.std.proofs.lemmas.Result.{err_from_is_err_and}
use Rattle.nor_layout.specs.declared.header.Generation.TheVariants.{Zero}
use Rattle.sector_map.proofs.Replacing.{add-done, put-was-cut}
use Rattle.std.proofs.Common.{ap}
use Rattle.std.specs.Prelude.{Err}
use Rattle.nor_driver.specs.State.{bits_in}
use Rattle.sector_map.proofs.KeepLosses.{sets-as}
use Rattle.sector_map.proofs.SetLosses.{write-loses}
use Rattle.sector_map.proofs.steps.add.Goals as goal

pub returns-in_err-write-clause-cut : goal.returns-in_err-write-clause-cut
returns-in_err-write-clause-cut g c is =
    let p = err_from_is_err_and c.from_residual.result c.from_residual.ensures.1 in
    put-was-cut c.args.to c.args.sector None Zero c.args.content.now (g.S.SlotCalls.state c.args.stock.now).memory (g.S.SlotCalls.state c.write.new.self).memory refl c.requires.number (c.in_err-write.ensures.cut_only (cc (p.1, p.2)))
    (c.in_err-write.ensures.cut_live (cc (p.1, p.2))) (c.in_err-write.ensures.cut (cc (p.1, p.2))) (c.in_err-write.ensures.cut_clean (cc (p.1, p.2)))

pub returns-clause-ok : goal.returns-clause-ok
returns-clause-ok g c = add-done c.args.to c.args.sector c.args.content.now (g.S.SlotCalls.state c.args.stock.now).memory (g.S.SlotCalls.state c.write.new.self).memory c.requires.number c.in_ok-write.ensures.only
    c.in_ok-write.ensures.live c.in_ok-write.ensures.ok c.in_ok-write.ensures.clean

pub write-requires-clause-free : goal.write-requires-clause-free
write-requires-clause-free g c ready = (c.requires.replaceable ready).free

pub write-requires-clause-outside : goal.write-requires-clause-outside
write-requires-clause-outside g c ready = (c.requires.replaceable ready).outside

pub returns-in_err-write-clause-firmly : goal.returns-in_err-write-clause-firmly
returns-in_err-write-clause-firmly g c r t =
    let a = g.S.SlotCalls.state c.args.stock.now in
    let b = g.S.SlotCalls.state c.write.new.self in
    let p = g.S.Reclaim.counts c.args.stock.now in
    sets-as c.args.sector c.args.content.now c.from_residual.result _ a b p (g.S.Reclaim.counts c.write.new.self) c.from_residual.ensures.1
    (λ h cut. write-loses c.args.sector c.args.content.now (bits_in a) (bits_in b) p Zero h (c.in_err-write.ensures.cut_bits (ap Err cut) h t))

pub returns-clause-firmly : goal.returns-clause-firmly
returns-clause-firmly g c r t h = c.in_ok-write.ensures.disk h t
