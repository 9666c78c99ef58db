use Rattle.std.proofs.Common.{◌∙◌, ap, Err}
use Rattle.nor_driver.specs.State.{bits_in}
use Rattle.flash_disk.proofs.Drawn.{keeps-each, same-chip}
use Rattle.flash_disk.proofs.disk.FlashDisk.check.Goals as goal

pub returns-in-Err-Cut-clause-firmly : goal.returns-in-Err-Cut-clause-firmly
returns-in-Err-Cut-clause-firmly g c firm cuts slows cut ready clean =
    let m = c.args.self.now.map.memory in
    let b = c.is_clean.new.self in
    let lost = c.is_clean.ensures.firmly firm cuts slows (c.in-Err-Cut.is ∙ ap Err c.in-Err-Cut.field-0-is) in
    keeps-each m (bits_in b) (same-chip m b.memory c.is_clean.ensures.same) clean (c.args.self.now.named slows).1 lost.0 lost.1
