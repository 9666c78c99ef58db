-- What a loss of power in a call of the map leaves of a chip that a firm mount left. Source: own,
-- layout 2.
use Rattle.std.specs.declared.result.Result.{Result}
use Rattle.std.specs.Prelude.{◌≡◌, ℕ, ◌≤◌, Bool, true, List, MatchResult, Option, None}
use Rattle.chip_model.specs.Wavering.{Bits}
use Rattle.nor_layout.specs.Superblock.{layout_in}
use Rattle.nor_layout.specs.declared.header.Tag.{Tag}
use Rattle.nor_driver.specs.State.{NorState, bits_in}
use Rattle.nor_driver.specs.declared.error.NorError.{NorError}
use Rattle.nor_driver.specs.declared.error.NorError.TheVariants.{Cut}
use Rattle.erase_journal.specs.Weak.{AreInterruptedAtEachDraw}
use Rattle.erase_journal.specs.declared.firmness.Firmness.{Firmness}
use Rattle.erase_journal.specs.declared.firmness.Firmness.TheVariants.{Firm}
use Rattle.sector_slots.specs.Blocks.{AreAtRest}
use Rattle.sector_slots.specs.Fit.{IsFitForFirmMount}
use Rattle.sector_slots.specs.Losses.{StepInterrupted, IsFirmDisk, WriteInterrupted}
use Rattle.sector_slots.specs.Slots.{data_blocks, kind_at}
use Rattle.sector_stock.specs.declared.index.BlockState.{BlockState}
use Rattle.sector_stock.specs.Losses.{IsFirmDiskIn}
use Rattle.sector_map.specs.Maps.{KeepsMap, Sets}

-- Before the change that the loss interrupted, which keeps the sectors, the chip was firm, and its
-- sectors were those of memory m.
pub record KeepsAtLoss (m : List ℕ) (b : Bits) : Type 0 where
  pub before : Bits
  pub suspect : ℕ → Bool
  pub disk : IsFirmDisk before suspect
  pub keeps : KeepsMap m before.shown
  pub change : StepInterrupted before suspect b

-- A call that writes x into sector g: the change was before the write; or it is the write; or after
-- it, and keeps the sectors.
pub data SetsAtLoss (g : ℕ) (x m : List ℕ) (b : Bits) : Type 0 where
  before_it : KeepsAtLoss m b → SetsAtLoss g x m b
  in_it : (before : Bits) (suspect : ℕ → Bool) (tag : Tag) → IsFirmDisk before suspect
      → KeepsMap m before.shown → tag.number ≡ g → WriteInterrupted before suspect tag x b
      → SetsAtLoss g x m b
  after_it : (before : Bits) (suspect : ℕ → Bool) → IsFirmDisk before suspect
      → Sets g x m before.shown → StepInterrupted before suspect b → SetsAtLoss g x m b

-- A chip of layout 2 whose journals, however the weak bits read at the next power-on, are healthy,
-- and ones of which one operation was interrupted.
pub record StandsAtEachDraw (b : Bits) : Type 0 where
  pub layout : layout_in b.shown ≡ 2
  pub journals : AreInterruptedAtEachDraw b

-- A call that writes no sector, on a chip that was firm: answered Ok it leaves a firm one, also by
-- what it lists as suspect; cut it keeps the sectors.
abbrev pub KeepsFirmly : {A : Type 0} → Result A NorError → NorState → List BlockState → NorState
    → List BlockState → Type 0
KeepsFirmly result old blocks new blocks' = IsFirmDiskIn (bits_in old) blocks
    → MatchResult result (λ _. IsFirmDiskIn (bits_in new) blocks')
    (λ e. e ≡ Cut → KeepsAtLoss old.memory (bits_in new))

-- and one that writes x into sector g
abbrev pub SetsFirmly : {A : Type 0} → ℕ → List ℕ → Result A NorError → NorState → List BlockState
    → NorState → List BlockState → Type 0
SetsFirmly g x result old blocks new blocks' = IsFirmDiskIn (bits_in old) blocks
    → MatchResult result (λ _. IsFirmDiskIn (bits_in new) blocks')
    (λ e. e ≡ Cut → SetsAtLoss g x old.memory (bits_in new))

-- A map is mounted firmly from a memory that is fit for it, where so many losses of power and slow
-- operations were counted.
pub record BeginsFirmly (cuts slows : ℕ) (firmness : Firmness) (state : NorState) : Type 0 where
  pub firmness_is : firmness ≡ Firm
  pub cuts_are : state.cuts ≡ cuts
  pub slows_are : state.slows ≡ slows
  pub fit : IsFitForFirmMount (bits_in state)

-- Something holds of a map that began so, while no loss of power and no slow operation was counted
-- since.
abbrev pub WhileFirm : Bool → ℕ → ℕ → NorState → Type 0 → Type 0
WhileFirm firm cuts slows state Holds =
    firm ≡ true → state.cuts ≡ cuts → state.slows ≡ slows → Holds

-- Then nothing is latched, torn bits are taken to waver, and the chip is a firm disk of layout 2,
-- also by what is listed as suspect.
pub record IsFirmMap (latched : Option NorError) (firmness : Firmness) (state : NorState)
    (blocks : List BlockState) : Type 0 where
  pub latched_is : latched ≡ None
  pub firmness_is : firmness ≡ Firm
  pub layout : layout_in state.memory ≡ 2
  pub disk : IsFirmDiskIn (bits_in state) blocks

-- no fewer losses and slow operations are counted than when it began
pub record IsSince (firm : Bool) (cuts slows : ℕ) (state : NorState) : Type 0 where
  pub cuts_are : firm ≡ true → cuts ≤ state.cuts
  pub slows_are : firm ≡ true → slows ≤ state.slows

-- the bits of a firm disk of layout 2, by some blocks that are suspect, while no copying goes on
pub record HoldsFirmDisk (b : Bits) : Type 0 where
  pub suspect : ℕ → Bool
  pub layout : layout_in b.shown ≡ 2
  pub disk : IsFirmDisk b suspect
  pub rest : AreAtRest (kind_at b.shown) (data_blocks b.shown)
