use Rattle.std.proofs.Common.{◌≡◌, ◌<◌, ℕ, length}
use Rattle.std.specs.Prelude.{slice_index_or}
use Rattle.erase_journal.proofs.Calls.{Repeated}
use Rattle.sector_survey.specs.Summaries.{IsSummaryOf, no_summary}
use Rattle.sector_survey.proofs.summary.summarize_blocks.Given as goal

abbrev pub invariant-loop-block : goal.invariant-loop-block
invariant-loop-block g l = record {
  same : (g.S.SlotCalls.state l.slots).memory ≡ (g.S.SlotCalls.state l.fn.slots).memory;
  since : Repeated l.block (g.S.SlotCalls.state l.fn.slots) (g.S.SlotCalls.state l.slots);
  size : length l.all.items ≡ l.block;
  each : (c : ℕ) → c < l.block → IsSummaryOf (slice_index_or l.all.items c no_summary) (g.S.SlotCalls.state l.fn.slots).memory c;
}
