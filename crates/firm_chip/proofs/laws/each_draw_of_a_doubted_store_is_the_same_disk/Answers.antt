use Rattle.firm_chip.proofs.Stores.{doubted-draw}
use Rattle.firm_chip.proofs.laws.each_draw_of_a_doubted_store_is_the_same_disk.Goals as goal

pub returns : goal.returns
returns c = doubted-draw
