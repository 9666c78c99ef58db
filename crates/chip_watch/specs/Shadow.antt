-- The chip in memory beside a watched one. Source: own.
use Rattle.std.specs.Prelude.{◌≡◌, ℕ, false, true, List, [], IfOk, if◌then◌else◌}
use Rattle.sfdp.specs.Params.{params_of}
use Rattle.chip_model.specs.Chip.{Chip, is_idle}
use Rattle.chip_model.specs.Frames.{with_polls}
use Rattle.chip_simulator.specs.declared.sim_chip.SimChip.{SimChip}
use Rattle.chip_simulator.specs.Sim.{armed_of, chip_of, pace_of, slows_of}

-- the simulated chip with other registers 2 and 3 and another table, and with a count of its own
-- of status reads
abbrev pub overlaid : Chip → List ℕ → ℕ → ℕ → ℕ → Chip
overlaid c sfdp status2 status3 polls = record c {
  sfdp = sfdp;
  status2 = status2;
  status3 = status3;
  polls = polls;
}

-- nothing is armed, no operation is slow, no bit is weak, and the power is on
pub record IsCalm (s : SimChip) : Type 0 where
  pub powered : (chip_of s).powered ≡ true
  pub unarmed : (armed_of s).armed ≡ 0
  pub prompt : pace_of s ≡ record { next = false; stuck = false }
  pub quick : slows_of s ≡ 0
  pub steady : (chip_of s).weak ≡ []

-- the chip after the first status read of an operation, or after one where nothing is in progress
abbrev pub looked_at : Chip → Chip
looked_at c = if is_idle c.operation then c else with_polls c 1

-- the SFDP bytes are no table, or that of a chip of so many bytes
abbrev pub FitsSize : List ℕ → ℕ → Type 0
FitsSize sfdp size = IfOk (params_of sfdp) (λ p. p.bytes ≡ size)
