use Rattle.std.proofs.Common.{◌≡◌}
use Rattle.norbd_chip.proofs.progress.PacedProgrammer.look_at_each.Given as goal

-- nothing is exchanged
abbrev pub invariant-loop-turn : goal.invariant-loop-turn
invariant-loop-turn g l = l.self.programmer ≡ l.fn.self.programmer
