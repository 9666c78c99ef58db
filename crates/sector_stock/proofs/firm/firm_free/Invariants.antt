use Rattle.std.proofs.Common.{◌≡◌, length}
use Rattle.erase_journal.specs.Steps.{SucceedsSettled}
use Rattle.nor_driver.specs.State.{bits_in}
use Rattle.sector_stock.specs.Index.{IsIndexOf, TrustsMore, AreTrusted, IsFirmIn}
use Rattle.sector_stock.specs.IndexSteps.{suspects}
use Rattle.sector_stock.specs.Losses.{IsFirmDiskIn}
use Rattle.sector_stock.specs.Room.{HasRoom}
use Rattle.sector_stock.specs.Takes.{MakesFirm, MadeTrusted}
use Rattle.sector_stock.proofs.firm.firm_free.Given as goal

abbrev pub invariant-loop-slot : goal.invariant-loop-slot
invariant-loop-slot g l = record {
  index : IsIndexOf l.states l.blocks l.at (g.S.SlotCalls.state l.slots).memory;
  room : HasRoom (g.S.SlotCalls.state l.slots).memory;
  firm : MakesFirm (g.S.SlotCalls.state l.fn.slots).memory (g.S.SlotCalls.state l.slots).memory;
  trusts : TrustsMore l.fn.blocks l.blocks;
  made : MadeTrusted l.fn.blocks l.blocks (g.S.SlotCalls.state l.fn.slots).memory (g.S.SlotCalls.state l.slots).memory;
  weak : IsFirmIn (bits_in (g.S.SlotCalls.state l.fn.slots)) l.fn.blocks → IsFirmIn (bits_in (g.S.SlotCalls.state l.slots)) l.blocks;
  disk : IsFirmDiskIn (bits_in (g.S.SlotCalls.state l.fn.slots)) l.fn.blocks → IsFirmDiskIn (bits_in (g.S.SlotCalls.state l.slots)) l.blocks;
  none : AreTrusted l.fn.blocks → (g.S.SlotCalls.state l.slots).memory ≡ (g.S.SlotCalls.state l.fn.slots).memory;
  policy : l.at.policy ≡ l.fn.at.policy;
  size : length (g.S.SlotCalls.state l.slots).memory ≡ length (g.S.SlotCalls.state l.fn.slots).memory;
  states_size : length l.states ≡ length l.fn.states;
  blocks_size : length l.blocks ≡ length l.fn.blocks;
  since : SucceedsSettled (g.S.SlotCalls.state l.fn.slots) (g.S.SlotCalls.state l.slots);
}

abbrev pub decreases-loop-slot : goal.decreases-loop-slot
decreases-loop-slot g l = suspects l.blocks
