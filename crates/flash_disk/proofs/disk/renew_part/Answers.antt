use Rattle.nor_driver.specs.State.{bits_in}
use Rattle.flash_disk.proofs.Drawn.{keeps-each}
use Rattle.flash_disk.proofs.disk.renew_part.Goals as goal

pub returns-then-step-eq0-clause-firmly : goal.returns-then-step-eq0-clause-firmly
returns-then-step-eq0-clause-firmly g c firm cuts slows cut clean laid =
    let lost = c.renew_journals.ensures.firmly firm cuts slows cut in
    keeps-each c.args.map.now.memory (bits_in c.renew_journals.new.self) (c.renew_journals.ensures.cut cut).chip clean laid lost.0 lost.1

pub returns-else-step-eq0-clause-firmly : goal.returns-else-step-eq0-clause-firmly
returns-else-step-eq0-clause-firmly g c firm cuts slows cut clean laid =
    let lost = c.renew.ensures.firmly firm cuts slows cut in
    keeps-each c.args.map.now.memory (bits_in c.renew.new.self) (c.renew.ensures.cut cut).chip clean laid lost.0 lost.1
