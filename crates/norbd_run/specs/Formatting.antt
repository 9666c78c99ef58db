-- What `format` says of a chip, and how it ends. Source: own.
use Rattle.std.specs.Prelude.{◌≡◌, ℕ, ◌*◌, List, ◌++◌, codes, Option, Result, Ok, Err}
use Rattle.std.specs.Fmt.{decimal}
use Rattle.std.specs.Io.KnownBytes.{Appends}
use Rattle.block_device.specs.Streams.{FailsToSend}
use Rattle.chip_model.specs.Geometry.{sector_count}
use Rattle.nor_driver.specs.declared.error.ProbeError.TheVariants as probes
use Rattle.norbd_image.specs.declared.error.ImageError.{ImageError}
use Rattle.norbd_image.specs.declared.error.ImageError.TheVariants as images
use Rattle.norbd_line.specs.declared.fault.Cause.TheVariants.{System, NotAFile, Write}
use Rattle.norbd_line.specs.declared.fault.Fault.{Fault}
use Rattle.norbd_line.specs.declared.fault.Fault.TheVariants.{Words, NoMemory, BadSize, InputFailed}
use Rattle.norbd_line.specs.declared.fault.Fault.TheVariants.{OutputFailed, ImageFailed, WrongId}
use Rattle.norbd_line.specs.declared.fault.Fault.TheVariants.{BadSfdp, Protected, Slow, BadRecord}
use Rattle.norbd_line.specs.declared.fault.Fault.TheVariants.{NotFormatted, Corrupt, NotClean}
use Rattle.norbd_line.specs.declared.fault.Fault.TheVariants.{BadImageSize, BadAddress, EmptyName}
use Rattle.norbd_line.specs.declared.fault.Fault.TheVariants.{NoSocket, NoThread, BadSync, NotText}
use Rattle.norbd_line.specs.declared.fault.Fault.TheVariants.{BadTidy, BadRange, BadInput}
use Rattle.norbd_line.specs.declared.fault.Fault.TheVariants.{InUse, Formatted, NotEmpty}

-- the line about a formatted chip of so many KiB
abbrev pub text_about : ℕ → List ℕ
text_about kib = codes "formatted " ++ (decimal (sector_count (1024 * kib)) ++ codes " sectors\n")

-- what a fault of an image is for the program; a chip loses its power where its image fails
abbrev pub told_as : ImageError → Fault
told_as images.OutOfMemory = NoMemory
told_as (images.File kind) = ImageFailed (System kind)
told_as images.NotAFile = ImageFailed NotAFile
told_as images.InUse = InUse
told_as images.Formatted = Formatted
told_as images.NotEmpty = NotEmpty
told_as (images.Refused probes.Cut) = ImageFailed Write
told_as (images.Refused probes.Slow) = Slow
told_as (images.Refused probes.WrongId) = WrongId
told_as (images.Refused (probes.Sfdp e)) = BadSfdp
told_as (images.Refused probes.Protected) = Protected

-- nothing was written and no write failed
abbrev pub NothingWritten : Option (List ℕ) → ℕ → Option (List ℕ) → ℕ → Type 0
NothingWritten old faults new faults' = (new ≡ old) × (faults' ≡ faults)

-- What `format` of so many KiB writes: done, exactly the line about the chip; a fault of the
-- output, a beginning of it; and nothing with any other fault, which is one of an image or of its
-- file.
abbrev pub FormatTells : {T : Type 0} → ℕ → Option (List ℕ) → ℕ → Result T Fault → Option (List ℕ)
    → ℕ → Type 0
FormatTells kib old faults (Ok _) new faults' =
    Appends old new (text_about kib) × (faults' ≡ faults)
FormatTells kib old faults (Err (Words error)) new faults' = ⊥
FormatTells kib old faults (Err (BadSize kib')) new faults' = ⊥
FormatTells kib old faults (Err BadSync) new faults' = ⊥
FormatTells kib old faults (Err BadTidy) new faults' = ⊥
FormatTells kib old faults (Err BadAddress) new faults' = ⊥
FormatTells kib old faults (Err NotText) new faults' = ⊥
FormatTells kib old faults (Err EmptyName) new faults' = ⊥
FormatTells kib old faults (Err NoMemory) new faults' = NothingWritten old faults new faults'
FormatTells kib old faults (Err InputFailed) new faults' = ⊥
FormatTells kib old faults (Err OutputFailed) new faults' =
    FailsToSend old faults (text_about kib) new faults'
FormatTells kib old faults (Err (ImageFailed cause)) new faults' =
    NothingWritten old faults new faults'
FormatTells kib old faults (Err InUse) new faults' = NothingWritten old faults new faults'
FormatTells kib old faults (Err Formatted) new faults' = NothingWritten old faults new faults'
FormatTells kib old faults (Err NotEmpty) new faults' = NothingWritten old faults new faults'
FormatTells kib old faults (Err WrongId) new faults' = NothingWritten old faults new faults'
FormatTells kib old faults (Err BadSfdp) new faults' = NothingWritten old faults new faults'
FormatTells kib old faults (Err Protected) new faults' = NothingWritten old faults new faults'
FormatTells kib old faults (Err Slow) new faults' = NothingWritten old faults new faults'
FormatTells kib old faults (Err BadRecord) new faults' = ⊥
FormatTells kib old faults (Err NotFormatted) new faults' = ⊥
FormatTells kib old faults (Err Corrupt) new faults' = ⊥
FormatTells kib old faults (Err NotClean) new faults' = ⊥
FormatTells kib old faults (Err (BadImageSize length)) new faults' = ⊥
FormatTells kib old faults (Err (NoSocket cause)) new faults' = ⊥
FormatTells kib old faults (Err NoThread) new faults' = ⊥
FormatTells kib old faults (Err (BadRange count)) new faults' = ⊥
FormatTells kib old faults (Err (BadInput length)) new faults' = ⊥
