use Rattle.std.proofs.Common.{◌≡◌, ◌≤◌, length}
use Rattle.nor_driver.specs.State.{OnlyMemoryChanges, bits_in}
use Rattle.erase_journal.specs.Torn.{SameData}
use Rattle.erase_journal.specs.Journals.{IsSettled, tally_of, unused, unused_of}
use Rattle.erase_journal.specs.declared.unused.Unused.{Unused}
use Rattle.erase_journal.specs.Spending.{Maintains}
use Rattle.erase_journal.specs.Blocks.{SameBlocks}
use Rattle.erase_journal.proofs.Lasting.{wear}
use Rattle.erase_journal.proofs.maintain.maintain.Given as goal

abbrev pub invariant-loop-journal : goal.invariant-loop-journal
invariant-loop-journal g l = record {
  size : 16384 ≤ length (g.N.Nor.state l.nor).memory;
  settled : IsSettled (g.N.Nor.state l.nor).memory;
  blocks : SameBlocks (g.N.Nor.state l.fn.nor).memory (g.N.Nor.state l.nor).memory;
  maintains : (rest : Unused) → Maintains rest (unused (g.N.Nor.state l.nor).memory) → Maintains rest (unused (g.N.Nor.state l.fn.nor).memory);
  since : OnlyMemoryChanges (g.N.Nor.state l.fn.nor) (g.N.Nor.state l.nor);
  aside : SameData (bits_in (g.N.Nor.state l.fn.nor)) (bits_in (g.N.Nor.state l.nor));
  tally : l.tally ≡ tally_of (g.N.Nor.state l.nor).memory;
}

abbrev pub decreases-loop-journal : goal.decreases-loop-journal
decreases-loop-journal g l = wear (unused_of l.tally)
