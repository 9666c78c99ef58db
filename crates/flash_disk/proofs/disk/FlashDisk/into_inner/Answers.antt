use Rattle.std.proofs.Common.{◌∙◌}
use Rattle.flash_disk.proofs.Drawn.{stops-there}
use Rattle.flash_disk.proofs.disk.FlashDisk.into_inner.Goals as goal

pub returns-clause-firmly : goal.returns-clause-firmly
returns-clause-firmly g c firm cuts slows =
    let chip = g.B.SpiBus.chip c.into_inner-2.result in
    let behind = c.into_inner.ensures.behind in
    stops-there _ chip.memory chip.weak c.args.self.map.memory c.into_inner-2.ensures.memory c.into_inner-2.ensures.weak (c.into_inner-2.ensures.memory ∙ behind.memory) (c.args.self.named slows).1
    (c.into_inner.ensures.firm firm cuts slows)
