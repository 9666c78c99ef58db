-- What the steps of a mount and of a restore leave. Words of private functions: no claim rests on
-- them. Source: own.
use Rattle.std.specs.Prelude.{◌≡◌, ◌⊎◌, ◌<◌, ℕ, Bool, true, false, List, length, Option, Some, None}
use Rattle.chip_model.specs.Wavering.{Bits}
use Rattle.nor_driver.specs.State.{NorState, OnlyMemoryChanges, bits_in}
use Rattle.nor_driver.specs.declared.error.NorError.{NorError}
use Rattle.nor_layout.specs.Superblock.{layout_in, mixed_in}
use Rattle.erase_journal.specs.Weak.{AreRecoveredJournals}
use Rattle.erase_journal.specs.declared.firmness.Firmness.{Firmness}
use Rattle.erase_journal.specs.declared.firmness.Firmness.TheVariants.{Firm}
use Rattle.sector_slots.specs.Sectors.{IsSoundMap}
use Rattle.sector_slots.specs.Slots.{IsClean}
use Rattle.sector_slots.specs.Weak.{IsHalfStore}
use Rattle.sector_map.specs.Marking.{IsUnmarked, mixed_mark}
use Rattle.sector_map.specs.declared.table.LiveSlots.{LiveSlots}
use Rattle.sector_map.specs.declared.error.MapError.{MapError}
use Rattle.nor_driver.specs.declared.error.NorError.TheVariants as errors
use Rattle.sector_map.specs.declared.error.MapError.TheVariants as mounts
use Rattle.sector_map.specs.Maps.{IsStore, KeepsEach, IsServing}

-- the table of slots that were recovered was made: what comes between them and what comes of it
pub record Filled (old new : NorState) : Type 0 where
  pub slots : IsSoundMap old.memory
  pub keeps : KeepsEach old.memory new.memory
  pub marked : IsUnmarked old.memory → mixed_in new.memory ≡ mixed_mark
  pub kept : OnlyMemoryChanges old new

pub record FillCut (old new : NorState) : Type 0 where
  pub came : old.cuts < new.cuts
  pub slows : new.slows ≡ old.slows
  pub powered : new.powered ≡ false
  pub quick : old.is_slow ≡ false → new.is_slow ≡ false
  pub size : length new.memory ≡ length old.memory
  pub keeps : IsSoundMap old.memory → KeepsEach old.memory new.memory
  pub first : IsUnmarked old.memory → (new.memory ≡ old.memory) ⊎ (mixed_in new.memory ≡ mixed_mark)

pub record FillSlow (old new : NorState) : Type 0 where
  pub came : old.slows < new.slows
  pub cuts : new.cuts ≡ old.cuts
  pub size : length new.memory ≡ length old.memory

pub record FillCorrupt (old new : NorState) : Type 0 where
  pub corrupt : IsSoundMap old.memory → ⊥
  pub cuts : new.cuts ≡ old.cuts
  pub slows : new.slows ≡ old.slows
  pub quick : old.is_slow ≡ false → new.is_slow ≡ false
  pub same : new.memory ≡ old.memory

abbrev pub FillFails : MapError → NorState → NorState → Type 0
FillFails mounts.Cut old new = FillCut old new
FillFails mounts.Slow old new = FillSlow old new
FillFails mounts.Corrupt old new = FillCorrupt old new
FillFails mounts.OutOfMemory old new = ⊥
FillFails mounts.NotFormatted old new = ⊥

-- A chip that is fit for a firm mount, once its journals were recovered.
pub record IsRecoveredChip (b : Bits) : Type 0 where
  pub layout : layout_in b.shown ≡ 2
  pub journals : AreRecoveredJournals b
  pub store : IsHalfStore b
  pub clean : IsClean b.shown

-- the table is made of one, where so many losses of power and slow operations were counted
pub record FillsFirmly (cuts slows : ℕ) (firmness : Firmness) (slots : NorState) : Type 0 where
  pub firmness_is : firmness ≡ Firm
  pub cuts_are : slots.cuts ≡ cuts
  pub slows_are : slots.slows ≡ slows
  pub chip : IsRecoveredChip (bits_in slots)

-- the store was restarted, and the table made again
pub record Renewed (table : List LiveSlots) (old new : NorState) (indexed : Bool) : Type 0 where
  pub cuts : new.cuts ≡ old.cuts
  pub slows : new.slows ≡ old.slows
  pub served : IsServing table new indexed
  pub size : length new.memory ≡ length old.memory
  pub keeps : old.is_slow ≡ false → IsStore old.memory → KeepsEach old.memory new.memory

pub record RenewCorrupt (old new : NorState) : Type 0 where
  pub cuts : new.cuts ≡ old.cuts
  pub slows : new.slows ≡ old.slows
  pub powered : new.powered ≡ true
  pub size : length new.memory ≡ length old.memory
  pub still : IsStore new.memory → ⊥
  pub corrupt : old.is_slow ≡ false → IsStore old.memory → ⊥

pub record RenewCut (old new : NorState) : Type 0 where
  pub cuts : old.cuts < new.cuts
  pub slows : new.slows ≡ old.slows
  pub powered : new.powered ≡ false
  pub size : length new.memory ≡ length old.memory
  pub quick : old.is_slow ≡ false → new.is_slow ≡ false
  pub keeps : old.is_slow ≡ false → IsStore old.memory → KeepsEach old.memory new.memory

pub record RenewSlow (old new : NorState) : Type 0 where
  pub slows : old.slows < new.slows
  pub cuts : new.cuts ≡ old.cuts
  pub powered : new.powered ≡ true
  pub size : length new.memory ≡ length old.memory

abbrev pub RenewFails : NorError → NorState → NorState → Type 0
RenewFails errors.Cut old new = RenewCut old new
RenewFails errors.Slow old new = RenewSlow old new

-- the latched error after a restore that was cut
abbrev pub latched_after_cut : Option NorError → Option NorError
latched_after_cut None = Some errors.Cut
latched_after_cut (Some errors.Cut) = Some errors.Cut
latched_after_cut (Some errors.Slow) = Some errors.Slow
