-- What `unprotect` says, and how it ends. Source: own.
use Rattle.std.specs.Prelude.{◌≡◌, ◌⊎◌, ℕ, Bool, List, codes, Option, Result, Ok, Err}
use Rattle.std.specs.Prelude.{true}
use Rattle.std.specs.Io.KnownBytes.{Appends}
use Rattle.block_device.specs.Streams.{FailsToSend}
use Rattle.norbd_line.specs.declared.fault.Fault.{Fault}
use Rattle.norbd_line.specs.declared.fault.Fault.TheVariants.{OutputFailed}
use Rattle.norbd_run.specs.Formatting.{NothingWritten}
use Rattle.norbd_run.specs.Listening.{IsRefusal}

abbrev pub unprotected_text : List ℕ
unprotected_text = codes "nothing is protected\n"

-- What `unprotect` writes: done, which it is only where that was said to be meant, its line; a
-- fault of the output, a beginning of it; and nothing with any other fault.
abbrev pub UnprotectTells : {T : Type 0} → Bool → Option (List ℕ) → ℕ → Result T Fault
    → Option (List ℕ) → ℕ → Type 0
UnprotectTells sure old faults (Ok _) new faults' = (sure ≡ true)
    × Appends old new unprotected_text × (faults' ≡ faults)
UnprotectTells sure old faults (Err e) new faults' =
    (IsRefusal e × NothingWritten old faults new faults')
    ⊎ ((e ≡ OutputFailed) × FailsToSend old faults unprotected_text new faults')
