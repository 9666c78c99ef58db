use Rattle.std.proofs.Common.{◌+◌, ◌*◌}
use Rattle.firm_chip.specs.FirmChips.{IsNeverLive}
use Rattle.firm_chip.proofs.Below.{below-next}
use Rattle.firm_chip.proofs.block.are_never_live.Goals as goal

pub loop-place-preserved : goal.loop-place-preserved
loop-place-preserved c = record {
  never = below-next (λ i. IsNeverLive c.args.memory.now c.args.weak.now (7 * c.args.block + i)) c.loop-place.place c.loop-place.invariant.never (c.is_never_live.ensures (cc c.if-not-is_never_live.false));
}
