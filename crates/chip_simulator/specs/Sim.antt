-- The chip that a simulator represents, and what it was armed for. Source: own.
use Rattle.std.specs.Prelude.{◌≡◌, ◌⊎◌, ℕ, false, true, List, [], length}
use Rattle.chip_model.specs.Chip.{Chip, Operation, Idle, completed}
use Rattle.chip_model.specs.Frames.{Receives, Status1, with_polls, one_more_poll}
use Rattle.chip_simulator.specs.Fits.{operation_of}
use Rattle.chip_simulator.specs.Plan.{Armed}
use Rattle.chip_simulator.specs.Simulated.{Pace}
use Rattle.chip_simulator.specs.Table.{sfdp_table}
use Rattle.chip_simulator.specs.declared.frame.Cells.{Cells}
use Rattle.chip_simulator.specs.declared.plan.Plan.{Plan}
use Rattle.chip_simulator.specs.declared.sim_chip.SimChip.{SimChip}

-- the operation in progress
abbrev pub operation_in : Cells → Operation
operation_in s = operation_of s.latched.bytes s.operation

-- the modelled chip has no bit of status registers 2 and 3 set
abbrev pub chip_in : Cells → Chip
chip_in s = record {
  memory = s.memory.items;
  weak = s.weak.items;
  sfdp = sfdp_table s.size s.spoiled;
  protection = s.protection;
  status2 = 0;
  status3 = 0;
  enabled = s.enabled;
  operation = operation_in s;
  polls = s.polls;
  powered = s.powered;
}

abbrev pub pace_in : Cells → Pace
pace_in s = record { next = s.slow_next; stuck = s.stuck }

abbrev pub chip_of : SimChip → Chip
chip_of s = chip_in s.cells

abbrev pub pace_of : SimChip → Pace
pace_of s = pace_in s.cells

abbrev pub cuts_of : SimChip → ℕ
cuts_of s = s.cells.cuts

abbrev pub slows_of : SimChip → ℕ
slows_of s = s.cells.slows

abbrev pub armed_in : Plan → Armed
armed_in p = record { armed = p.armed; kind = p.kind; mask = p.mask }

abbrev pub armed_of : SimChip → Armed
armed_of s = armed_in s.plan

-- a status read of an operation in progress
abbrev pub Polls : Chip → List ℕ → Chip → Type 0
Polls c received new = (Receives c Status1 received × (new ≡ with_polls c (one_more_poll c.polls)))
    ⊎ (Receives (completed c) Status1 received × (new ≡ completed c))

-- a steady chip with this memory, as it is when the power comes for the first time
abbrev pub fresh_chip : List ℕ → Chip
fresh_chip m = record {
  memory = m;
  weak = [];
  sfdp = sfdp_table (length m) false;
  protection = 0;
  status2 = 0;
  status3 = 0;
  enabled = false;
  operation = Idle;
  polls = 0;
  powered = true;
}

-- the chip with other SFDP bytes
abbrev pub with_sfdp : Chip → List ℕ → Chip
with_sfdp c sfdp = record c { sfdp = sfdp }

-- the chip with these weak bits
abbrev pub with_weak : Chip → List ℕ → Chip
with_weak c weak = record c { weak = weak }

-- the chip with another memory
abbrev pub with_memory : Chip → List ℕ → Chip
with_memory c m = record c { memory = m }
