use Rattle.std.proofs.Common.{◌≡◌, ◌⊎◌}
use Rattle.erase_journal.specs.Steps.{SucceedsSettled}
use Rattle.sector_map.proofs.Grouping.{ApartBelow}
use Rattle.sector_survey.proofs.pairs.find_mixed.Given as goal

abbrev pub invariant-loop-sector : goal.invariant-loop-sector
invariant-loop-sector g l = record {
  same : (g.S.SlotCalls.state l.slots).memory ≡ (g.S.SlotCalls.state l.fn.slots).memory;
  since : (g.S.SlotCalls.state l.slots ≡ g.S.SlotCalls.state l.fn.slots) ⊎ SucceedsSettled (g.S.SlotCalls.state l.fn.slots) (g.S.SlotCalls.state l.slots);
  apart : ApartBelow l.fn.table (g.S.SlotCalls.state l.fn.slots).memory l.sector;
}
