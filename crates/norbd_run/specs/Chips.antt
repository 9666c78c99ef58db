-- What `chip` says, and what a fault of a chip behind a programmer is. Source: own.
use Rattle.std.specs.Prelude.{◌≡◌, ◌⊎◌, ◌==◌, ◌||◌, ℕ, Bool, List, ◌++◌, codes, Option, Result, Ok}
use Rattle.std.specs.Prelude.{Err, if◌then◌else◌}
use Rattle.std.specs.Fmt.{decimal}
use Rattle.std.specs.Io.KnownBytes.{Appends}
use Rattle.block_device.specs.Streams.{FailsToSend}
use Rattle.norbd_chip.specs.declared.fault.ChipFault.{ChipFault}
use Rattle.norbd_chip.specs.declared.fault.ChipFault.TheVariants as chips
use Rattle.norbd_line.specs.declared.fault.Cause.TheVariants as causes
use Rattle.norbd_line.specs.declared.fault.Fault.{Fault}
use Rattle.norbd_line.specs.declared.fault.Fault.TheVariants as ends
use Rattle.norbd_run.specs.Formatting.{NothingWritten}

-- flashrom knows chips of so many KiB by their ids: the powers of two from 512 on
abbrev pub is_known_by_id : ℕ → Bool
is_known_by_id kib = (kib == 512) || (kib == 1024) || (kib == 2048) || (kib == 4096)
    || (kib == 8192) || (kib == 16384)

-- any other size it reads in the chip's table, where it is told to
abbrev pub after_port : Bool → List ℕ
after_port known = if known then codes "\n"
    else codes "\nflashrom reads its size by -c 'SFDP-capable chip' alone\n"

-- what is told before the first client is accepted
abbrev pub chip_text : ℕ → ℕ → List ℕ
chip_text kib port = codes "chip of "
    ++ (decimal kib ++ (codes " KiB on port " ++ (decimal port ++ after_port (is_known_by_id kib))))

-- What `chip` writes: the line about a chip of some size once it answers, a beginning of it where
-- the output fails, and nothing with a fault that comes before.
abbrev pub ChipTells : {T : Type 0} → ℕ → Option (List ℕ) → ℕ → Result T Fault
    → Option (List ℕ) → ℕ → Type 0
ChipTells port old faults (Ok _) new faults' =
    (kib : ℕ) × Appends old new (chip_text kib port) × (faults' ≡ faults)
ChipTells port old faults (Err e) new faults' = NothingWritten old faults new faults'
    ⊎ (((kib : ℕ) × Appends old new (chip_text kib port) × (faults' ≡ faults))
    ⊎ ((e ≡ ends.OutputFailed)
    × ((kib : ℕ) × FailsToSend old faults (chip_text kib port) new faults')))

-- what a fault of a chip behind a programmer is for the program
abbrev pub told_of_chip : ChipFault → Fault
told_of_chip chips.NoMemory = ends.NoMemory
told_of_chip (chips.Failed cause) = ends.ImageFailed (causes.Chip cause)
told_of_chip chips.BadTable = ends.BadSfdp
told_of_chip chips.WrongId = ends.WrongId
told_of_chip chips.Protected = ends.Protected
told_of_chip chips.Slow = ends.Slow
