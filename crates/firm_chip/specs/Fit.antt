-- What a loss of power leaves of a chip that a firm mount left, for the next firm mount. Source:
-- own, layout 2.
use Rattle.std.specs.Prelude.{◌≡◌, ℕ, Bool, List}
use Rattle.chip_model.specs.Wavering.{Bits, Drawn}
use Rattle.nor_layout.specs.Superblock.{layout_in}
use Rattle.nor_layout.specs.declared.header.Tag.{Tag}
use Rattle.erase_journal.specs.Weak.{AreInterruptedAtEachDraw}
use Rattle.sector_slots.specs.Fit.{IsFitForFirmMount}
use Rattle.sector_slots.specs.Losses.{IsFirmDisk, StepInterrupted, WriteInterrupted}

-- A change of a firm disk was interrupted, or a write: however the weak bits read at the next
-- power-on, the chip is then fit for a firm mount, where of its journals one operation was
-- interrupted.
pub record LossesLeaveFitChips : Type 0 where
  pub change : (a : Bits) (suspect : ℕ → Bool) (b : Bits) (v : List ℕ) → IsFirmDisk a suspect
      → StepInterrupted a suspect b → layout_in b.shown ≡ 2 → AreInterruptedAtEachDraw b
      → Drawn b.weak b.shown v
      → IsFitForFirmMount (record { shown = v; weak = b.weak })
  pub write : (a : Bits) (suspect : ℕ → Bool) (tag : Tag) (content : List ℕ) (b : Bits) (v : List ℕ)
      → IsFirmDisk a suspect → WriteInterrupted a suspect tag content b → layout_in b.shown ≡ 2
      → AreInterruptedAtEachDraw b → Drawn b.weak b.shown v
      → IsFitForFirmMount (record { shown = v; weak = b.weak })
