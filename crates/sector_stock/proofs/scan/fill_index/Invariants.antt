use Rattle.std.proofs.Common.{◌≡◌, ◌<◌, length, ℕ}
use Rattle.erase_journal.specs.Steps.{SucceedsSettled}
use Rattle.sector_stock.specs.Index.{IsNoted}
use Rattle.sector_stock.proofs.scan.fill_index.Given as goal

abbrev pub invariant-loop-block : goal.invariant-loop-block
invariant-loop-block g l = record {
  same : (g.S.SlotCalls.state l.slots).memory ≡ (g.S.SlotCalls.state l.fn.slots).memory;
  weak : (g.S.SlotCalls.state l.slots).weak ≡ (g.S.SlotCalls.state l.fn.slots).weak;
  since : SucceedsSettled (g.S.SlotCalls.state l.fn.slots) (g.S.SlotCalls.state l.slots);
  states_size : length l.states ≡ length l.fn.states;
  blocks_size : length l.blocks ≡ length l.fn.blocks;
  noted : (c : ℕ) → c < l.block → IsNoted c l.states l.blocks (g.S.SlotCalls.state l.fn.slots).memory;
}
