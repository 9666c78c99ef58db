use Rattle.std.proofs.Common.{◌≡◌, ◌<◌, ℕ}
use Rattle.sector_slots.specs.Slots.{IsSpareIn}
use Rattle.erase_journal.proofs.Calls.{Repeated}
use Rattle.sector_map.proofs.scan.lowest_spare.Given as goal

abbrev pub invariant-loop-block : goal.invariant-loop-block
invariant-loop-block g l = record {
  same : (g.S.SlotCalls.state l.slots).memory ≡ (g.S.SlotCalls.state l.fn.slots).memory;
  since : Repeated l.block (g.S.SlotCalls.state l.fn.slots) (g.S.SlotCalls.state l.slots);
  none : (d : ℕ) → d < l.block → IsSpareIn (g.S.SlotCalls.state l.fn.slots).memory d → ⊥;
}
