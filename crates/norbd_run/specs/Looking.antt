-- What `status` says, and how it ends. Source: own.
use Rattle.std.specs.Prelude.{◌≡◌, ◌⊎◌, ℕ, List, Bool, Option, Result, Ok, Err}
use Rattle.std.specs.Io.KnownBytes.{Appends}
use Rattle.block_device.specs.Streams.{FailsToSend}
use Rattle.norbd_line.specs.declared.fault.Cause.{Cause}
use Rattle.norbd_line.specs.declared.fault.Fault.{Fault}
use Rattle.norbd_line.specs.declared.fault.Fault.TheVariants.{NoMemory, NoSocket, OutputFailed}
use Rattle.norbd_run.specs.Formatting.{NothingWritten}
use Rattle.norbd_status.specs.Status.{told_status}
use Rattle.norbd_status.specs.declared.status.Status.{Status}

-- no status was had
abbrev pub HasNoStatus : Fault → Type 0
HasNoStatus e = (e ≡ NoMemory) ⊎ ((cause : Cause) × (e ≡ NoSocket cause))

-- What `status` writes: done, all that is told of some status, as a line for programs or as a page;
-- a fault of the output, a beginning of that; and nothing where no status was had.
abbrev pub StatusTells : {T : Type 0} → Bool → Option (List ℕ) → ℕ → Result T Fault
    → Option (List ℕ) → ℕ → Type 0
StatusTells tells_json old faults (Ok _) new faults' =
    (s : Status) × Appends old new (told_status tells_json s) × (faults' ≡ faults)
StatusTells tells_json old faults (Err e) new faults' =
    (HasNoStatus e × NothingWritten old faults new faults')
    ⊎ ((e ≡ OutputFailed)
    × ((s : Status) × FailsToSend old faults (told_status tells_json s) new faults'))
