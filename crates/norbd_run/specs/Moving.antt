-- What `read` and `write` tell, and how they end. Source: own.
use Rattle.std.specs.Prelude.{◌≡◌, ◌⊎◌, ◌-◌, ℕ, List, ◌++◌, codes, Option, Result, Ok, Err}
use Rattle.std.specs.Fmt.{decimal}
use Rattle.std.specs.Io.KnownBytes.{Appends}
use Rattle.block_device.specs.Streams.{FailsToSend}
use Rattle.sector_slots.specs.Slots.{IsClean}
use Rattle.sector_map.specs.Maps.{IsMountable}
use Rattle.flash_disk.specs.Contents.{contents_of}
use Rattle.norbd_run.specs.Formatting.{NothingWritten}
use Rattle.norbd_line.specs.declared.fault.Fault.{Fault}
use Rattle.norbd_line.specs.declared.fault.Fault.TheVariants.{Words, NoMemory, BadSize, InputFailed}
use Rattle.norbd_line.specs.declared.fault.Fault.TheVariants.{OutputFailed, ImageFailed, WrongId}
use Rattle.norbd_line.specs.declared.fault.Fault.TheVariants.{BadSfdp, Protected, Slow, BadRecord}
use Rattle.norbd_line.specs.declared.fault.Fault.TheVariants.{NotFormatted, Corrupt, NotClean}
use Rattle.norbd_line.specs.declared.fault.Fault.TheVariants.{BadImageSize, BadRange, BadInput}
use Rattle.norbd_line.specs.declared.fault.Fault.TheVariants.{BadAddress, EmptyName}
use Rattle.norbd_line.specs.declared.fault.Fault.TheVariants.{NoSocket, NoThread, BadSync, NotText}
use Rattle.norbd_line.specs.declared.fault.Fault.TheVariants.{InUse, Formatted, NotEmpty, BadTidy}

-- A refusal of the image, of the part of the disk or of the input.
abbrev pub MoveFails : Fault → Type 0
MoveFails NoMemory = Unit {0}
MoveFails (ImageFailed cause) = Unit {0}
MoveFails InUse = Unit {0}
MoveFails Formatted = Unit {0}
MoveFails NotEmpty = ⊥
MoveFails (BadImageSize length) = Unit {0}
MoveFails NotFormatted = Unit {0}
MoveFails Corrupt = Unit {0}
MoveFails NotClean = Unit {0}
MoveFails WrongId = Unit {0}
MoveFails BadSfdp = Unit {0}
MoveFails Protected = Unit {0}
MoveFails Slow = Unit {0}
MoveFails (BadRange count) = Unit {0}
MoveFails (BadInput length) = Unit {0}
MoveFails InputFailed = Unit {0}
MoveFails OutputFailed = ⊥
MoveFails (Words error) = ⊥
MoveFails (BadSize kib) = ⊥
MoveFails BadSync = ⊥
MoveFails BadTidy = ⊥
MoveFails BadAddress = ⊥
MoveFails NotText = ⊥
MoveFails EmptyName = ⊥
MoveFails BadRecord = ⊥
MoveFails (NoSocket cause) = ⊥
MoveFails NoThread = ⊥

-- all of these bytes are written, or the output failed and a beginning of them is
abbrev pub WritesBytes : {T : Type 0} → List ℕ → Option (List ℕ) → ℕ → Result T Fault
    → Option (List ℕ) → ℕ → Type 0
WritesBytes bytes old faults (Ok _) new faults' = Appends old new bytes × (faults' ≡ faults)
WritesBytes bytes old faults (Err e) new faults' =
    (e ≡ OutputFailed) × FailsToSend old faults bytes new faults'

-- What `read` writes: done, some bytes, all of them; a fault of the output, a beginning of them;
-- and nothing with a refusal.
abbrev pub ReadTells : {T : Type 0} → Option (List ℕ) → ℕ → Result T Fault → Option (List ℕ) → ℕ
    → Type 0
ReadTells old faults (Ok _) new faults' =
    (bytes : List ℕ) × Appends old new bytes × (faults' ≡ faults)
ReadTells old faults (Err e) new faults' =
    (MoveFails e × NothingWritten old faults new faults')
    ⊎ ((e ≡ OutputFailed) × ((bytes : List ℕ) × FailsToSend old faults bytes new faults'))

-- the line before `write` reads, and the one after it: they name the first sector and the last
abbrev pub replacing_text : ℕ → ℕ → List ℕ
replacing_text first end = codes "replacing sectors "
    ++ (decimal first ++ (codes " to " ++ (decimal (end - 1) ++ codes "\n")))

abbrev pub written_text : ℕ → ℕ → List ℕ
written_text first end = codes "replaced sectors "
    ++ (decimal first ++ (codes " to " ++ (decimal (end - 1) ++ codes "\n")))

-- What `write` tells: done, both lines about the same sectors; with a refusal nothing, or the first
-- line; with a fault of the output a beginning of them.
abbrev pub WriteTells : {T : Type 0} → Option (List ℕ) → ℕ → Result T Fault → Option (List ℕ) → ℕ
    → Type 0
WriteTells old faults (Ok _) new faults' = (first : ℕ) × (end : ℕ)
    × Appends old new (replacing_text first end ++ written_text first end) × (faults' ≡ faults)
WriteTells old faults (Err e) new faults' =
    NothingWritten old faults new faults'
    ⊎ (((first : ℕ) × (end : ℕ) × Appends old new (replacing_text first end) × (faults' ≡ faults))
    ⊎ ((e ≡ OutputFailed) × ((first : ℕ) × (end : ℕ)
    × FailsToSend old faults (replacing_text first end ++ written_text first end) new faults')))

-- The bytes of a healthy and clean chip whose disk holds this.
pub record IsWritten (contents bytes : List ℕ) : Type 0 where
  pub mountable : IsMountable bytes
  pub clean : IsClean bytes
  pub holds : contents_of bytes ≡ contents
