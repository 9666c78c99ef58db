use Rattle.std.proofs.Common.{◌≡◌, ◌++◌, take}
use Rattle.chip_watch.specs.Reading.{received_of}
use Rattle.chip_watch.proofs.pieces.put_pieces.Given as goal

-- what the turns so far received stands behind the memory
abbrev pub invariant-loop-turn : goal.invariant-loop-turn
invariant-loop-turn l = l.memory.items ≡ l.fn.memory.items ++ received_of (take l.turn-index l.answered)
