use Rattle.std.proofs.Common.{◌≡◌, length}
use Rattle.nor_driver.specs.State.{IsNorReady, OnlyMemoryChanges}
use Rattle.erase_journal.proofs.Reopening.{IsClosing}
use Rattle.erase_journal.proofs.open_entries.close_opened.Given as goal

abbrev pub invariant-loop-entry : goal.invariant-loop-entry
invariant-loop-entry g l = record {
  size : length (g.N.Nor.state l.nor).memory ≡ length (g.N.Nor.state l.fn.nor).memory;
  ready : IsNorReady (g.N.Nor.state l.nor);
  closing : IsClosing l.entry (g.N.Nor.state l.fn.nor).memory (g.N.Nor.state l.nor).memory;
  kept : OnlyMemoryChanges (g.N.Nor.state l.fn.nor) (g.N.Nor.state l.nor);
}
