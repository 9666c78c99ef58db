-- What a loss of power may leave of a chip, and what turning the power on does. Source: own; the
-- datasheet leaves open what an interrupted operation leaves.
use Rattle.std.specs.Prelude.{◌≡◌, ℕ, ◌+◌, ◌/◌, ◌⊎◌, true, false, List}
use Rattle.chip_model.specs.Memory.{erased, with_differences, IsMixed, Torn, TornErase}
use Rattle.chip_model.specs.Chip.{Chip, Operation, Idle, Programming, Erasing, Setting, programmed}
use Rattle.chip_model.specs.Frames.{Frame}

-- the memory that a loss leaves of an operation: of a program each bit old or new, of an erase any
-- bytes in its unit
abbrev pub TornMemory : Operation → List ℕ → List ℕ → Type 0
TornMemory (Programming at bytes) m torn = Torn m (programmed m at bytes) torn
TornMemory (Erasing at size) m torn = TornErase m at size torn
TornMemory _ m torn = torn ≡ m

-- the weak bits that a loss leaves of the operation, at worst: of a program each bit that it was to
-- change, of an erase all bits of its unit (an erase programs it first), and those that were weak
abbrev pub weakened : Operation → List ℕ → List ℕ → List ℕ
weakened (Programming at bytes) shown weak =
    with_differences shown (programmed shown at bytes) weak
weakened (Erasing at size) shown weak = erased weak at size
weakened _ shown weak = weak

-- bits 2 to 7 of status register 1 that a loss leaves of an operation: of a status write each old
-- or new
abbrev pub TornProtection : Operation → ℕ → ℕ → Type 0
TornProtection (Setting value) p torn = IsMixed p (value / 4) torn
TornProtection _ p torn = torn ≡ p

-- what a loss between two frames may leave: all else is as it was, WEL is 0, nothing is in
-- progress, the power is off
pub record Cut (c left : Chip) : Type 0 where
  pub memory : TornMemory c.operation c.memory left.memory
  pub weak : left.weak ≡ weakened c.operation c.memory c.weak
  pub sfdp : left.sfdp ≡ c.sfdp
  pub protection : TornProtection c.operation c.protection left.protection
  pub status2 : left.status2 ≡ c.status2
  pub status3 : left.status3 ≡ c.status3
  pub enabled : left.enabled ≡ false
  pub operation : left.operation ≡ Idle
  pub polls : left.polls ≡ 0
  pub powered : left.powered ≡ false

-- what a loss inside a frame may leave: of the chip before the frame, or of one that the frame
-- makes of it
pub data CutInside (c : Chip) (sent : List ℕ) (new : Chip) : Type 0 where
  before : Cut c new → CutInside c sent new
  after_it : (middle : Chip) (received : List ℕ) → Frame c sent received middle → Cut middle new
      → CutInside c sent new

-- what a frame that isn't answered leaves: the power fell in it, which counts, or was off already,
-- and then nothing changes
pub data Loses (c : Chip) (cuts : ℕ) (sent : List ℕ) (new : Chip) (cuts' : ℕ) : Type 0 where
  falls : c.powered ≡ true → CutInside c sent new → cuts' ≡ cuts + 1 → Loses c cuts sent new cuts'
  was_off : c.powered ≡ false → new ≡ c → cuts' ≡ cuts → Loses c cuts sent new cuts'

-- the power is on
abbrev pub with_power : Chip → Chip
with_power c = record c { powered = true }

-- turning the power on: first off, which is a loss that doesn't count, and then on; where it can't
-- be turned on, it stays off and that counts
pub record PowersOn (c : Chip) (cuts : ℕ) (new : Chip) (cuts' : ℕ) : Type 0 where
  pub off : Chip
  pub left : Cut c off
  pub on : ((new ≡ with_power off) × (cuts' ≡ cuts)) ⊎ ((new ≡ off) × (cuts' ≡ cuts + 1))
