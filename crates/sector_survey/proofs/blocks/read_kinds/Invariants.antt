use Rattle.std.proofs.Common.{◌≡◌, ◌<◌, ℕ, false}
use Rattle.sector_slots.specs.Slots.{is_group, data_blocks, kind_at}
use Rattle.sector_map.specs.Found.{FoundBelow}
use Rattle.erase_journal.proofs.Calls.{Repeated}
use Rattle.sector_survey.proofs.blocks.read_kinds.Given as goal

abbrev pub invariant-loop-block : goal.invariant-loop-block
invariant-loop-block g l = record {
  same : (g.S.SlotCalls.state l.slots).memory ≡ (g.S.SlotCalls.state l.fn.slots).memory;
  since : Repeated l.block (g.S.SlotCalls.state l.fn.slots) (g.S.SlotCalls.state l.slots);
  found : FoundBelow l.found (kind_at (g.S.SlotCalls.state l.fn.slots).memory) l.block (data_blocks (g.S.SlotCalls.state l.fn.slots).memory);
  alone : l.fn.groups ≡ false → (d : ℕ) → d < l.block → is_group (kind_at (g.S.SlotCalls.state l.fn.slots).memory d) ≡ false;
}
