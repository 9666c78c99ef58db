-- A watched chip is one: its table is that of a chip of its size.
use Rattle.chip_model.specs.Chip.{IsChip}
use Rattle.chip_watch.specs.Watched.{shadow_chip}
use Rattle.chip_watch.specs.declared.shadow.Shadow.{Shadow}

pub lawful_shadow : (s : Shadow) → IsChip (shadow_chip s)
lawful_shadow s = record { sfdp = s.full; size = s.fits }
