use Rattle.erase_journal.proofs.Calls.{Repeated}
use Rattle.sector_survey.proofs.Erasing.{ErasedTo}
use Rattle.sector_survey.proofs.groups.erase_free_blocks.Given as goal

abbrev pub invariant-loop-block : goal.invariant-loop-block
invariant-loop-block g l = record {
  since : Repeated l.block l.fn.journal l.journal;
  erased : ErasedTo l.block l.fn.journal.memory l.journal.memory;
}
