use Rattle.std.proofs.Common.{◌≡◌, ◌++◌}
use Rattle.sector_rescue.specs.Doubts.{doubts_below, layout_doubts}
use Rattle.sector_rescue.proofs.gathering.doubts_about.Given as goal

abbrev pub invariant-loop-slot : goal.invariant-loop-slot
invariant-loop-slot l = l.doubts.items ≡ layout_doubts l.image ++ doubts_below l.fn.layout l.image l.slot
