-- Which chips a firm mount leaves the same at each later power-on. Source: own, layout 2.
use Rattle.std.specs.Prelude.{◌≡◌}
use Rattle.chip_model.specs.Wavering.{Bits}
use Rattle.nor_layout.specs.Superblock.{layout_in}
use Rattle.erase_journal.specs.Weak.{AreInterruptedJournals}
use Rattle.sector_slots.specs.Slots.{IsClean}
use Rattle.sector_slots.specs.Weak.{IsHalfChip}

-- A clean chip of layout 2, of whose journals one operation and of whose data blocks one change was
-- interrupted.
pub record IsFitForFirmMount (b : Bits) : Type 0 where
  pub layout : layout_in b.shown ≡ 2
  pub journals : AreInterruptedJournals b
  pub store : IsHalfChip b
  pub clean : IsClean b.shown
