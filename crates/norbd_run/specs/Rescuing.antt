-- What `rescue` gives of an image, and how it ends. Source: own.
use Rattle.std.specs.Prelude.{◌≡◌, ◌⊎◌, ℕ, List, [], Option, Result, Ok, Err}
use Rattle.std.specs.Io.KnownBytes.{Appends}
use Rattle.block_device.specs.Streams.{FailsToSend}
use Rattle.sector_map.specs.Maps.{IsMountable}
use Rattle.flash_disk.specs.Contents.{contents_of}
use Rattle.sector_rescue.specs.Doubts.{doubts_of}
use Rattle.sector_rescue.specs.Rescue.{rescued}
use Rattle.sector_rescue.specs.declared.doubt.Doubt.{Doubt}
use Rattle.norbd_run.specs.Formatting.{NothingWritten}
use Rattle.norbd_run.specs.Moving.{MoveFails}
use Rattle.norbd_run.specs.Opening.{IsReason}
use Rattle.norbd_line.specs.declared.fault.Fault.{Fault}
use Rattle.norbd_line.specs.declared.fault.Fault.TheVariants.{Corrupt, NotFormatted, NotClean}
use Rattle.norbd_line.specs.declared.fault.Fault.TheVariants.{OutputFailed}

-- a refusal of what is on a chip: a mount's, or that it isn't clean
abbrev pub IsDamage : Fault → Type 0
IsDamage e = (e ≡ Corrupt) ⊎ ((e ≡ NotFormatted) ⊎ (e ≡ NotClean))

-- Any other refusal of a rescue. So whatever is on a chip, its sectors are given.
abbrev pub RescueFails : Fault → Type 0
RescueFails e = MoveFails e × (IsDamage e → ⊥)

-- What is given of the bytes of an image: done, a mount accepts it, and it is its disk, of which
-- nothing is doubtful; with a refusal of what is on the chip, which is right, it is what its slots
-- tell, with all that is doubtful of that.
abbrev pub SavesFrom : {T : Type 0} → List ℕ → Result T Fault → List ℕ → List Doubt → Type 0
SavesFrom m (Ok _) bytes doubts = IsMountable m × (bytes ≡ contents_of m) × (doubts ≡ [])
SavesFrom m (Err e) bytes doubts =
    IsDamage e × IsReason e m × (bytes ≡ rescued m) × (doubts ≡ doubts_of m)

-- these bytes are written, and it ends so; or the output failed, and a beginning of them is
abbrev pub EndsWith : {T : Type 0} → Result T Fault → List ℕ → Option (List ℕ) → ℕ
    → Result T Fault → Option (List ℕ) → ℕ → Type 0
EndsWith end bytes old faults result new faults' =
    ((result ≡ end) × Appends old new bytes × (faults' ≡ faults))
    ⊎ ((result ≡ Err OutputFailed) × FailsToSend old faults bytes new faults')

-- What is written of the bytes of an image: done, its disk, and a mount accepts it; with a refusal
-- of what is on the chip what its slots tell; a fault of the output, a beginning of either; and
-- nothing with any other refusal.
abbrev pub WritesRescued : {T : Type 0} → List ℕ → Option (List ℕ) → ℕ → Result T Fault
    → Option (List ℕ) → ℕ → Type 0
WritesRescued m old faults (Ok _) new faults' =
    IsMountable m × Appends old new (contents_of m) × (faults' ≡ faults)
WritesRescued m old faults (Err e) new faults' =
    (RescueFails e × NothingWritten old faults new faults')
    ⊎ ((IsDamage e × IsReason e m × Appends old new (rescued m) × (faults' ≡ faults))
    ⊎ ((e ≡ OutputFailed) × (FailsToSend old faults (contents_of m) new faults'
    ⊎ FailsToSend old faults (rescued m) new faults')))

-- What `rescue` writes of an image in a file, whose bytes no contract tells: done, some bytes, all
-- of them, and so with a refusal of what is on the chip; a fault of the output, a beginning of
-- them; and nothing with another refusal.
abbrev pub RescueTells : {T : Type 0} → Option (List ℕ) → ℕ → Result T Fault → Option (List ℕ) → ℕ
    → Type 0
RescueTells old faults (Ok _) new faults' =
    (bytes : List ℕ) × Appends old new bytes × (faults' ≡ faults)
RescueTells old faults (Err e) new faults' =
    (MoveFails e × NothingWritten old faults new faults')
    ⊎ ((IsDamage e × ((bytes : List ℕ) × Appends old new bytes × (faults' ≡ faults)))
    ⊎ ((e ≡ OutputFailed) × ((bytes : List ℕ) × FailsToSend old faults bytes new faults')))
