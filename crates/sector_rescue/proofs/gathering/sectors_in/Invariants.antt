use Rattle.std.proofs.Common.{◌≡◌}
use Rattle.flash_disk.specs.Contents.{joined}
use Rattle.sector_rescue.specs.Rescue.{rescued_at}
use Rattle.sector_rescue.proofs.gathering.sectors_in.Given as goal

abbrev pub invariant-loop-sector : goal.invariant-loop-sector
invariant-loop-sector l = l.all.items ≡ joined (rescued_at l.fn.layout l.image) l.sector
