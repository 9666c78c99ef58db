-- What a driver shows of the chip and the counts of its bus. Source: own.
use Rattle.std.specs.Prelude.{◌≡◌, ℕ, Bool, true, false, length, is_some, Ok}
use Rattle.sfdp.specs.declared.params.Params.{Params}
use Rattle.chip_model.specs.Chip.{Chip, is_idle}
use Rattle.chip_model.specs.Frames.{is_unprotected}
use Rattle.nor_driver.specs.State.{NorState}
use Rattle.nor_driver.specs.Steps.{Woken}
use Rattle.nor_driver.specs.Probe.{IsAcceptedChip, probe_answer, told}

-- the state of a driver over a bus with this chip and these counts
abbrev pub shown : Chip → ℕ → ℕ → Bool → Bool → NorState
shown c cuts slows is_slow has_large = record {
  memory = c.memory;
  weak = c.weak;
  cuts = cuts;
  slows = slows;
  powered = c.powered;
  is_slow = is_slow;
  has_large = has_large;
}

-- the driver that a probe gives: over the chip as it is since its power came, which has the table's
-- size
pub record Found (c : Chip) (cuts slows : ℕ) (state : NorState) : Type 0 where
  pub new : Chip
  pub woken : Woken c new
  pub params : Params
  pub table : probe_answer (told new) ≡ Ok params
  -- where nothing was in progress, that is the answer of the chip as it was
  pub known : is_idle c.operation ≡ true → probe_answer (told c) ≡ Ok params
  pub size : length new.memory ≡ params.bytes
  pub state_is : state ≡ shown new cuts slows false (is_some params.large)

-- a bus with this chip and these counts stands behind a driver in this state: the chip still passes
-- the checks of a probe, nothing is protected, and nothing is in progress but where a Slow is
-- latched
pub record IsBehindDriver (state : NorState) (c : Chip) (cut_count slow_count : ℕ) : Type 0 where
  pub memory : c.memory ≡ state.memory
  pub weak : c.weak ≡ state.weak
  pub cuts : cut_count ≡ state.cuts
  pub slows : slow_count ≡ state.slows
  pub powered : c.powered ≡ state.powered
  pub accepted : IsAcceptedChip c
  pub unprotected : is_unprotected c ≡ true
  pub idle : state.is_slow ≡ false → is_idle c.operation ≡ true
