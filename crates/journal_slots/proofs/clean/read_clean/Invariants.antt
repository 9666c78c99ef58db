use Rattle.std.proofs.Common.{◌≡◌, ℕ, ◌<◌}
use Rattle.sector_slots.specs.Slots.{data_block}
use Rattle.journal_slots.specs.Clean.{IsCleanBlock}
use Rattle.erase_journal.proofs.Calls.{Repeated}
use Rattle.journal_slots.proofs.clean.read_clean.Given as goal

abbrev pub invariant-loop-block : goal.invariant-loop-block
invariant-loop-block g l = record {
  same : l.journal.memory ≡ l.fn.journal.memory;
  weak : l.journal.weak ≡ l.fn.journal.weak;
  since : Repeated l.block l.fn.journal l.journal;
  clean : (c : ℕ) → c < l.block → IsCleanBlock (data_block l.fn.journal.memory c);
}
