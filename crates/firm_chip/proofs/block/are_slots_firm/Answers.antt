use Rattle.std.proofs.Common.{◌+◌, ◌*◌}
use Rattle.firm_chip.specs.FirmChips.{IsFirmSlot}
use Rattle.firm_chip.proofs.Below.{below-next}
use Rattle.firm_chip.proofs.block.are_slots_firm.Goals as goal

pub loop-place-preserved : goal.loop-place-preserved
loop-place-preserved c = record {
  firm = below-next (λ i. IsFirmSlot c.args.memory.now c.args.weak.now (7 * c.args.block + i)) c.loop-place.place c.loop-place.invariant.firm (c.is_firm_slot.ensures (cc c.if-not-is_firm_slot.false));
}
