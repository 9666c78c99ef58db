-- What `show` says of an image, and how it ends. Source: own.
use Rattle.std.specs.Prelude.{◌≡◌, ◌⊎◌, ℕ, List, Option, Result, Ok, Err}
use Rattle.std.specs.Io.KnownBytes.{Appends}
use Rattle.block_device.specs.Streams.{FailsToSend}
use Rattle.norbd_run.specs.Formatting.{NothingWritten}
use Rattle.norbd_run.specs.Listening.{IsRefusal}
use Rattle.norbd_line.specs.declared.fault.Fault.{Fault}
use Rattle.norbd_line.specs.declared.fault.Fault.TheVariants.{Corrupt, OutputFailed}

-- What `show` writes: done, a picture, of which nothing is said here; with a fault of the output a
-- beginning of it; of a corrupt image a picture or nothing; and nothing with another refusal of it.
abbrev pub ShowTells : {T : Type 0} → Option (List ℕ) → ℕ → Result T Fault → Option (List ℕ) → ℕ
    → Type 0
ShowTells old faults (Ok _) new faults' =
    (picture : List ℕ) × Appends old new picture × (faults' ≡ faults)
ShowTells old faults (Err e) new faults' =
    (IsRefusal e × NothingWritten old faults new faults')
    ⊎ (((e ≡ Corrupt) × ((picture : List ℕ) × Appends old new picture × (faults' ≡ faults)))
    ⊎ ((e ≡ OutputFailed) × ((picture : List ℕ) × FailsToSend old faults picture new faults')))
