use Rattle.std.proofs.Common.{◌≡◌, ◌+◌, length}
use Rattle.nor_driver.specs.State.{IsNorReady, OnlyMemoryChanges}
use Rattle.erase_journal.specs.declared.phase.ErasePhase.TheVariants.{Doomed}
use Rattle.erase_journal.specs.Blocks.{SameBlocks}
use Rattle.erase_journal.specs.Journals.{first, tally_of}
use Rattle.erase_journal.specs.Steps.{IsNext}
use Rattle.erase_journal.proofs.journal_erase.close_older.Given as goal

abbrev pub invariant-loop : goal.invariant-loop
invariant-loop g l = record {
  size : length (g.N.Nor.state l.nor).memory ≡ length (g.N.Nor.state l.fn.nor).memory;
  ready : IsNorReady (g.N.Nor.state l.nor);
  next : IsNext (Doomed l.fn.journal) (g.N.Nor.state l.fn.nor).memory (Doomed l.fn.journal) (g.N.Nor.state l.nor).memory;
  left : (first (tally_of (g.N.Nor.state l.nor).memory) l.fn.journal).opened + l.counter ≡ (first (tally_of (g.N.Nor.state l.fn.nor).memory) l.fn.journal).opened;
  blocks : SameBlocks (g.N.Nor.state l.fn.nor).memory (g.N.Nor.state l.nor).memory;
  kept : OnlyMemoryChanges (g.N.Nor.state l.fn.nor) (g.N.Nor.state l.nor);
}
