-- What the steps of a driver leave of the chip behind a bus, by how each ended. Source: own, over
-- the model of a frame and of a loss of power.
use Rattle.std.specs.Prelude.{◌≡◌, ℕ, ◌+◌, ◌⊎◌, Bool, true, false, List}
use Rattle.chip_model.specs.Chip.{Chip, Operation, is_idle, completed}
use Rattle.chip_model.specs.Wavering.{Bits}
use Rattle.chip_model.specs.Frames.{Command, Status1, Status2, Status3, Read, Id, Sfdp, command_of}
use Rattle.chip_model.specs.Frames.{after_command, with_enabled, with_polls, starts}
use Rattle.chip_model.specs.Chip.{is_setting}
use Rattle.chip_model.specs.Cut.{Cut, TornMemory, weakened, with_power}
use Rattle.nor_driver.specs.State.{IsOfUnit}
use Rattle.nor_driver.specs.declared.error.NorError.{NorError}
use Rattle.nor_driver.specs.declared.error.NorError.TheVariants as errors

-- the command asks and changes nothing
abbrev pub only_reads : Command → Bool
only_reads Status1 = true
only_reads Status2 = true
only_reads Status3 = true
only_reads (Read at) = true
only_reads Id = true
only_reads (Sfdp at) = true
only_reads _ = false

-- a frame that changes nothing wasn't answered: the power fell in it, or was off
pub data Lost (c : Chip) (cuts : ℕ) (new : Chip) (cuts' : ℕ) : Type 0 where
  fell : c.powered ≡ true → Cut c new → cuts' ≡ cuts + 1 → Lost c cuts new cuts'
  was_off : c.powered ≡ false → new ≡ c → cuts' ≡ cuts → Lost c cuts new cuts'

-- the power was turned off, and on again
pub record Woken (c new : Chip) : Type 0 where
  pub off : Chip
  pub left : Cut c off
  pub on : new ≡ with_power off

-- the wait for an operation in progress failed: the power fell while it was in progress or once it
-- had completed, or 65,535 status reads found it in progress
abbrev pub WaitFails : NorError → Chip → ℕ → ℕ → Chip → ℕ → ℕ → Type 0
WaitFails errors.Cut c cuts slows new cuts' slows' =
    (Cut c new ⊎ Cut (completed c) new) × (cuts' ≡ cuts + 1) × (slows' ≡ slows)
WaitFails errors.Slow c cuts slows new cuts' slows' =
    (new ≡ with_polls c 65535) × (cuts' ≡ cuts) × (slows' ≡ slows + 1)

-- the chip after a write enable and the frame of a change
abbrev pub started : Chip → List ℕ → Chip
started c sent = after_command (with_enabled c true) (command_of sent)

-- a change that a loss of power interrupted: before it began, in it, or once it had completed; or
-- the power was off
pub data ChangeInterrupted (c : Chip) (cuts : ℕ) (sent : List ℕ) (new : Chip)
    (cuts' : ℕ) : Type 0 where
  not_begun : c.powered ≡ true → Cut c new → cuts' ≡ cuts + 1
      → ChangeInterrupted c cuts sent new cuts'
  torn : c.powered ≡ true → Cut (started c sent) new → cuts' ≡ cuts + 1
      → ChangeInterrupted c cuts sent new cuts'
  whole : c.powered ≡ true → Cut (completed (started c sent)) new → cuts' ≡ cuts + 1
      → ChangeInterrupted c cuts sent new cuts'
  no_power : c.powered ≡ false → new ≡ c → cuts' ≡ cuts → ChangeInterrupted c cuts sent new cuts'

-- a change failed: a loss of power interrupted it, or it is still in progress
abbrev pub ChangeFails : NorError → Chip → ℕ → ℕ → List ℕ → Chip → ℕ → ℕ → Type 0
ChangeFails errors.Cut c cuts slows sent new cuts' slows' =
    ChangeInterrupted c cuts sent new cuts' × (slows' ≡ slows)
ChangeFails errors.Slow c cuts slows sent new cuts' slows' =
    (c.powered ≡ true) × (new ≡ with_polls (started c sent) 65535) × (cuts' ≡ cuts)
    × (slows' ≡ slows + 1)

-- what a loss leaves of the bits while the operation of this chip is in progress
abbrev pub TornIn : Chip → Bits → Type 0
TornIn c b = TornMemory c.operation c.memory b.shown
    × (b.weak ≡ weakened c.operation c.memory c.weak)

-- the frame starts a program or an erase once writes are enabled
pub record StartsChange (c : Chip) (sent : List ℕ) : Type 0 where
  pub operation : Operation
  pub is : started c sent ≡ starts (with_enabled c true) operation
  pub running : is_idle operation ≡ false
  pub in_memory : is_setting operation ≡ false
  pub unit : IsOfUnit operation
