use Rattle.std.proofs.Common.{◌≡◌, ◌*◌, ◌+◌, ◌≤◌}
use Rattle.nor_driver.specs.State.{bits_in, IsNorReady, OnlyMemoryChanges}
use Rattle.erase_journal.specs.Torn.{SameData}
use Rattle.erase_journal.specs.Weak.{AreZerosFirm}
use Rattle.erase_journal.proofs.again.program_pages_again.Given as goal

abbrev pub invariant-loop-page : goal.invariant-loop-page
invariant-loop-page g l = record {
  same : (g.N.Nor.state l.nor).memory ≡ (g.N.Nor.state l.fn.nor).memory;
  firm : AreZerosFirm (bits_in (g.N.Nor.state l.nor)) l.fn.from (256 * l.page);
  ready : IsNorReady (g.N.Nor.state l.nor);
  aside : l.fn.from + 2048 ≤ 16384 → SameData (bits_in (g.N.Nor.state l.fn.nor)) (bits_in (g.N.Nor.state l.nor));
  kept : OnlyMemoryChanges (g.N.Nor.state l.fn.nor) (g.N.Nor.state l.nor);
}
