use Rattle.std.proofs.Common.{◌≡◌, ◌*◌, ◌<◌, ℕ, false, length}
use Rattle.nor_driver.specs.State.{bits_in, IsNorReady, OnlyMemoryChanges}
use Rattle.erase_journal.specs.Journals.{IsSettled, is_free_entry}
use Rattle.erase_journal.specs.Blocks.{SameBlocks}
use Rattle.erase_journal.specs.Spending.{KeepsUse}
use Rattle.erase_journal.specs.Torn.{SameData}
use Rattle.erase_journal.specs.Weak.{IsUsedForGood}
use Rattle.erase_journal.proofs.firm.close_entries.Given as goal

abbrev pub invariant-loop-page : goal.invariant-loop-page
invariant-loop-page g l = record {
  size : length (g.N.Nor.state l.nor).memory ≡ length (g.N.Nor.state l.fn.nor).memory;
  ready : IsNorReady (g.N.Nor.state l.nor);
  settled : IsSettled (g.N.Nor.state l.nor).memory;
  blocks : SameBlocks (g.N.Nor.state l.fn.nor).memory (g.N.Nor.state l.nor).memory;
  uses : KeepsUse (g.N.Nor.state l.fn.nor).memory (g.N.Nor.state l.nor).memory;
  closed : (i : ℕ) → i < 64 * l.page → is_free_entry (g.N.Nor.state l.nor).memory i ≡ false → IsUsedForGood (bits_in (g.N.Nor.state l.nor)) i;
  aside : SameData (bits_in (g.N.Nor.state l.fn.nor)) (bits_in (g.N.Nor.state l.nor));
  kept : OnlyMemoryChanges (g.N.Nor.state l.fn.nor) (g.N.Nor.state l.nor);
}
