use Rattle.std.proofs.Common.{◌≡◌, length}
use Rattle.erase_journal.specs.Steps.{SucceedsSettled}
use Rattle.sector_stock.specs.Copy.{IsCopyable}
use Rattle.sector_stock.specs.CopySteps.{CopyProgress}
use Rattle.sector_stock.proofs.copy.copy_all.Given as goal

abbrev pub invariant-loop-place : goal.invariant-loop-place
invariant-loop-place g l = record {
  progress : IsCopyable l.fn.source l.fn.target (g.S.SlotCalls.state l.fn.slots).memory → CopyProgress l.place l.source l.target (g.S.SlotCalls.state l.fn.slots).memory (g.S.SlotCalls.state l.slots).memory;
  size : length (g.S.SlotCalls.state l.slots).memory ≡ length (g.S.SlotCalls.state l.fn.slots).memory;
  since : SucceedsSettled (g.S.SlotCalls.state l.fn.slots) (g.S.SlotCalls.state l.slots);
}
