use Rattle.std.proofs.Common.{ℕ, ◌<◌, ◌+◌, ◌*◌}
use Rattle.firm_chip.specs.FirmChips.{IsNeverLive}
use Rattle.firm_chip.proofs.block.are_never_live.Given as goal

abbrev pub invariant-loop-place : goal.invariant-loop-place
invariant-loop-place l = record {
  never : (i : ℕ) → i < l.place → IsNeverLive l.fn.memory l.fn.weak (7 * l.fn.block + i);
}
