use Rattle.std.proofs.Common.{◌≤◌, vec_len}
use Rattle.test_kit.proofs.scarcity.hold.Given as goal

-- none of what was held is let go
abbrev pub invariant-loop : goal.invariant-loop
invariant-loop l = vec_len l.initial.held ≤ vec_len l.held
