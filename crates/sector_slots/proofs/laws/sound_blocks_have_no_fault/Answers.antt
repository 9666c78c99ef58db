use Rattle.sector_slots.proofs.BlockLaws.{sound-no_fault}
use Rattle.sector_slots.proofs.laws.sound_blocks_have_no_fault.Goals as goal

pub returns : goal.returns
returns c = sound-no_fault
