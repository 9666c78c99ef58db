use Rattle.std.proofs.Common.{◌≤◌, vec_len}
use Rattle.test_kit.proofs.scarcity.spend.Given as goal

abbrev pub invariant-loop-power : goal.invariant-loop-power
invariant-loop-power l = 2 ≤ vec_len l.held

abbrev pub invariant-loop-small : goal.invariant-loop-small
invariant-loop-small l = 2 ≤ vec_len l.held
