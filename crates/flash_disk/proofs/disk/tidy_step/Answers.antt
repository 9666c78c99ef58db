use Rattle.nor_driver.specs.State.{bits_in}
use Rattle.flash_disk.proofs.Drawn.{keeps-each}
use Rattle.flash_disk.proofs.disk.tidy_step.Goals as goal

pub returns-then-lazy-clause-firmly : goal.returns-then-lazy-clause-firmly
returns-then-lazy-clause-firmly g c firm cuts slows cut clean laid =
    let lost = c.tidy_urgent.ensures.firmly firm cuts slows cut in
    keeps-each c.args.map.now.memory (bits_in c.tidy_urgent.new.self) (c.tidy_urgent.ensures.cut cut).chip clean laid lost.0 lost.1

pub returns-else-lazy-clause-firmly : goal.returns-else-lazy-clause-firmly
returns-else-lazy-clause-firmly g c firm cuts slows cut clean laid =
    let lost = c.tidy.ensures.firmly firm cuts slows cut in
    keeps-each c.args.map.now.memory (bits_in c.tidy.new.self) (c.tidy.ensures.cut cut).chip clean laid lost.0 lost.1
