use Rattle.std.proofs.Common.{refl}
use Rattle.sector_map.proofs.FirmFilling.{of-two}
use Rattle.firm_chip.proofs.Mounts.{read-again, fit-again, firm-disk}
use Rattle.firm_chip.proofs.mount.mount_firmly.Goals as goal

pub returns-in-Ok-clause-again : goal.returns-in-Ok-clause-again
returns-in-Ok-clause-again g c fit later drawn =
    let e = c.in-Ok.ensures in
    let a = g.N.Nor.state c.args.nor in
    let journals = e.journals refl (of-two a.memory fit.layout) fit.journals in
    let store = e.store refl (of-two a.memory fit.layout) fit.store in
    (read-again a c.in-Ok.map later fit e.ok e.settled journals store drawn, fit-again a c.in-Ok.map later fit e.ok e.settled journals store drawn)

pub returns-in-Ok-clause-disk : goal.returns-in-Ok-clause-disk
returns-in-Ok-clause-disk g c fit =
    let e = c.in-Ok.ensures in
    let a = g.N.Nor.state c.args.nor in
    firm-disk a c.in-Ok.map fit e.ok e.settled (e.journals refl (of-two a.memory fit.layout) fit.journals) (e.store refl (of-two a.memory fit.layout) fit.store)
