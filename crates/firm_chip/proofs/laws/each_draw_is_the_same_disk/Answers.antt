use Rattle.firm_chip.proofs.Disks.{each-draw}
use Rattle.firm_chip.proofs.laws.each_draw_is_the_same_disk.Goals as goal

pub returns : goal.returns
returns c = each-draw
