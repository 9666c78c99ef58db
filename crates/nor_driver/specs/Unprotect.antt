-- What the end of protection leaves of a chip. Source: datasheet of the W25Q128JV, "Write Status
-- Register (01h)"; own: the steps.
use Rattle.std.specs.Prelude.{◌≡◌, ℕ, ◌+◌, true, false, Result, Ok, Err}
use Rattle.chip_model.specs.Chip.{Chip, Setting, completed}
use Rattle.chip_model.specs.Frames.{is_unprotected, starts, with_enabled, with_polls}
use Rattle.chip_model.specs.Cut as losses
use Rattle.nor_driver.specs.declared.error.ProbeError.{ProbeError}
use Rattle.nor_driver.specs.declared.error.ProbeError.TheVariants as refusals
use Rattle.nor_driver.specs.declared.error.NorError.{NorError}
use Rattle.nor_driver.specs.declared.error.NorError.TheVariants as errors

-- a change's error as a probe's
abbrev pub probe_error : NorError → ProbeError
probe_error errors.Cut = refusals.Cut
probe_error errors.Slow = refusals.Slow

-- a write of 0 to status register 1 of a chip whose power came anew is in progress
abbrev pub clearing : Chip → Chip
clearing off = starts (with_enabled (losses.with_power off) true) (Setting 0)

-- the power came anew, and status register 1 became 0
pub record Cleared (c new : Chip) : Type 0 where
  pub off : Chip
  pub left : losses.Cut c off
  pub is : new ≡ completed (clearing off)

-- a loss of power before that write, in it, or after it
pub data ClearingCut (c new : Chip) : Type 0 where
  before_it : losses.Cut c new → ClearingCut c new
  in_it : (off : Chip) → losses.Cut c off → losses.Cut (clearing off) new → ClearingCut c new
  after_it : (off : Chip) → losses.Cut c off → losses.Cut (completed (clearing off)) new
      → ClearingCut c new

-- that write didn't end
pub record StillClearing (c new : Chip) : Type 0 where
  pub off : Chip
  pub left : losses.Cut c off
  pub is : new ≡ with_polls (clearing off) 65535

-- what is left of the chip and the counts, by the answer: Ok where nothing is protected any more,
-- Protected where CMP or WPS stays set; a Cut only where a loss of power came in the call, a Slow
-- only where a slow operation did, and no other refusal
abbrev pub Unprotects : Result (Unit {0}) ProbeError → Chip → ℕ → ℕ → Chip → ℕ → ℕ → Type 0
Unprotects (Ok _) c cuts slows new cuts' slows' =
    Cleared c new × (is_unprotected new ≡ true) × (cuts' ≡ cuts) × (slows' ≡ slows)
Unprotects (Err refusals.Cut) c cuts slows new cuts' slows' =
    ClearingCut c new × (cuts' ≡ cuts + 1) × (slows' ≡ slows)
Unprotects (Err refusals.Slow) c cuts slows new cuts' slows' =
    StillClearing c new × (cuts' ≡ cuts) × (slows' ≡ slows + 1)
Unprotects (Err refusals.WrongId) c cuts slows new cuts' slows' = ⊥
Unprotects (Err (refusals.Sfdp e)) c cuts slows new cuts' slows' = ⊥
Unprotects (Err refusals.Protected) c cuts slows new cuts' slows' =
    Cleared c new × (is_unprotected new ≡ false) × (cuts' ≡ cuts) × (slows' ≡ slows)
