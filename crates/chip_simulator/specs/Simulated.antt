-- What the simulator makes of a frame where the model leaves a choice: an operation shows BUSY in
-- one status read, but where it is stuck it stays busy until the power goes. Source: own.
use Rattle.std.specs.Prelude.{ℕ, Bool, false, not, ◌&&◌, if◌then◌else◌, nat_lt, List}
use Rattle.chip_model.specs.Chip.{Chip, is_idle, completed}
use Rattle.chip_model.specs.Frames.{Command, Status1, command_of, after_command, with_polls}
use Rattle.chip_model.specs.Frames.{one_more_poll}

-- the frame starts a program, an erase or a status write
abbrev pub is_accepted : Chip → List ℕ → Bool
is_accepted c sent = is_idle c.operation
    && not (is_idle (after_command c (command_of sent)).operation)

-- a status read of an operation in progress
abbrev pub polled : Bool → Chip → Chip
polled stuck c = if nat_lt 0 c.polls && not stuck then completed c
    else with_polls c (one_more_poll c.polls)

-- a frame to a chip with an operation in progress
abbrev pub after_busy : Bool → Chip → Command → Chip
after_busy stuck c Status1 = polled stuck c
after_busy stuck c _ = c

-- the whole effect of a frame
abbrev pub after_frame : Bool → Chip → List ℕ → Chip
after_frame stuck c sent = if is_idle c.operation then after_command c (command_of sent)
    else after_busy stuck c (command_of sent)

-- whether the next operation will be stuck, and whether the one in progress is
pub record Pace : Type 0 where
  pub next : Bool
  pub stuck : Bool

-- an operation that starts is stuck where that was armed, and so is none after it
abbrev pub paced : Pace → Bool → Pace
paced p starts = if starts then record { next = false; stuck = p.next } else p
