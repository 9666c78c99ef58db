-- What went over the bus of a simulated chip, a row of eight bytes for each frame. Source: own,
-- over the frames of `chip_model` and the losses of `chip_simulator`.
use Rattle.std.specs.Prelude.{◌≡◌, ℕ, zero, suc, ◌+◌, ◌-◌, ◌*◌, true, false, List, [], ◌∷◌, ◌++◌}
use Rattle.std.specs.Prelude.{length, take, drop, min, replicate}
use Rattle.chip_model.specs.Memory.{byte}
use Rattle.chip_model.specs.Parts.{part}
use Rattle.chip_model.specs.Chip.{Chip}
use Rattle.chip_model.specs.Frames.{Frame}
use Rattle.chip_model.specs.Cut.{CutInside, PowersOn}
use Rattle.chip_simulator.specs.Plan.{Armed, one_frame_less, strikes}
use Rattle.chip_simulator.specs.Sim.{armed_of, chip_of, fresh_chip}
use Rattle.chip_simulator.specs.Simulated.{is_accepted}
use Rattle.chip_simulator.specs.declared.sim_chip.SimChip.{SimChip}

-- a chip, and the loss of power that is armed in it
pub record Bus : Type 0 where
  pub chip : Chip
  pub armed : Armed

abbrev pub bus_of : SimChip → Bus
bus_of s = record { chip = chip_of s; armed = armed_of s }

-- The row of a frame: its instruction and the three bytes behind it (0 where there are none), how
-- many bytes were sent and how many received (255 where there are more), the last one that was
-- received, and 1 where the frame wasn't answered.
abbrev pub row_shown : List ℕ → List ℕ → ℕ → List ℕ
row_shown sent received lost =
    byte sent 0 ∷ byte sent 1 ∷ byte sent 2 ∷ byte sent 3 ∷ min (length sent) 255
    ∷ min (length received) 255 ∷ byte received (length received - 1) ∷ lost ∷ []

-- the row of a turning on of the power
abbrev pub turning_on : List ℕ
turning_on = 254 ∷ 0 ∷ 0 ∷ 0 ∷ 0 ∷ 0 ∷ 0 ∷ 0 ∷ []

-- the row of an arming, or where its kind is 255 of the begin of a step
abbrev pub arming : ℕ → ℕ → ℕ → List ℕ
arming count kind mask = 0 ∷ kind ∷ mask ∷ min count 255 ∷ 0 ∷ 0 ∷ 0 ∷ 0 ∷ []

-- What a row says. A frame that was answered is one of the chip's model. One that wasn't lost its
-- power inside it, where a loss was armed for it, or found the power off and changed nothing.
pub data Happens (row : List ℕ) (old new : Bus) : Type 0 where
  answered : (sent received : List ℕ) → row ≡ row_shown sent received 0
      → Frame old.chip sent received new.chip
      → new.armed ≡ one_frame_less old.armed (is_accepted old.chip sent) → Happens row old new
  lost : (sent : List ℕ) → row ≡ row_shown sent [] 1
      → strikes old.armed (is_accepted old.chip sent) ≡ true
      → CutInside old.chip sent new.chip
      → new.armed ≡ one_frame_less old.armed (is_accepted old.chip sent) → Happens row old new
  off : (sent : List ℕ) → row ≡ row_shown sent [] 1 → old.chip.powered ≡ false
      → new.chip ≡ old.chip → new.armed ≡ old.armed → Happens row old new
  turned_on : row ≡ turning_on → PowersOn old.chip 0 new.chip 0 → new.armed ≡ old.armed
      → Happens row old new
  armed : (count kind mask : ℕ) → row ≡ arming count kind mask → new.chip ≡ old.chip
      → new.armed ≡ record { armed = count; kind = kind; mask = mask } → Happens row old new
  begins : (count mask : ℕ) → row ≡ arming count 255 mask → new.chip ≡ old.chip
      → new.armed ≡ old.armed → Happens row old new

-- THE TAPE: the first so many rows are a run of a chip of 64 KiB, which was erased and in which no
-- loss was armed, to this bus.
unfoldable pub Run : List ℕ → ℕ → Bus → Type 0
Run rows zero bus = (bus.chip ≡ fresh_chip (replicate 65536 255)) × (bus.armed.armed ≡ 0)
Run rows (suc k) bus = (before : Bus) × Run rows k before × Happens (part 8 rows k) before bus

-- rows in which this one stands at a place
abbrev pub row_put : List ℕ → ℕ → List ℕ → List ℕ
row_put rows k row = take (8 * k) rows ++ row ++ drop (8 * k + 8) rows
