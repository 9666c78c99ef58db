use Rattle.std.proofs.Common.{◌≡◌, true, ap}
use Rattle.chip_model.specs.Chip.{Chip, is_idle}
use Rattle.chip_simulator.specs.Sim.{chip_of}
use Rattle.norbd_image.proofs.Mending.{fails-on}
use Rattle.norbd_image.proofs.mended.sectors_in.Goals as goal

pub returns-in-Err-clause-refused : goal.returns-in-Err-clause-refused
returns-in-Err-clause-refused c =
    let same = c.in-Ok.ensures.chip in
    let idle : is_idle (chip_of c.in-Ok.chip).operation ≡ true = ap (λ (x : Chip). is_idle x.operation) same in
    let e = c.in-Err.ensures in
    fails-on c.in-Err.error (chip_of c.in-Ok.chip) c.args.image.items _ _ _ same c.requires e.refused (e.left idle) (e.told idle)
