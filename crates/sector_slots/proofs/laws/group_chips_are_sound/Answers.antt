use Rattle.sector_slots.proofs.OldLaws.{old-sound}
use Rattle.sector_slots.proofs.laws.group_chips_are_sound.Goals as goal

pub returns : goal.returns
returns c = old-sound
