-- What `serve` says, and how it ends. Source: own.
use Rattle.std.specs.Prelude.{◌≡◌, ◌⊎◌, ℕ, List, [], ◌++◌, codes, Bool, true, false, Option, Result}
use Rattle.std.specs.Prelude.{Ok, Err, IsOkAnd, String, if◌then◌else◌, ◌==◌, None, Some}
use Rattle.std.specs.List.{list_any}
use Rattle.std.specs.String.{string_bytes}
use Rattle.std.specs.Fmt.{decimal}
use Rattle.std.specs.Io.KnownBytes.{Appends}
use Rattle.block_device.specs.Streams.{FailsToSend}
use Rattle.chip_simulator.specs.declared.error.SimError.{SimError}
use Rattle.chip_simulator.specs.declared.error.SimError.TheVariants as files
use Rattle.flash_disk.specs.declared.error.MountError.{MountError}
use Rattle.flash_disk.specs.declared.error.MountError.TheVariants as mounts
use Rattle.nbd_share.specs.declared.shared.RecordError.{RecordError}
use Rattle.nbd_share.specs.declared.shared.RecordError.TheVariants as records
use Rattle.norbd_serve.specs.declared.fault.ServeFault.{ServeFault}
use Rattle.norbd_serve.specs.declared.fault.ServeFault.TheVariants as serves
use Rattle.nbd_durable.specs.declared.durable.Policy.{Policy}
use Rattle.nbd_durable.specs.declared.durable.Policy.TheVariants as policies
use Rattle.norbd_run.specs.Scripting.{told_of_probe}
use Rattle.norbd_line.specs.declared.line.Place.{Place}
use Rattle.norbd_line.specs.declared.line.Place.TheVariants as places
use Rattle.norbd_line.specs.declared.line.SyncPolicy.{SyncPolicy}
use Rattle.norbd_line.specs.declared.line.SyncPolicy.TheVariants as syncs
use Rattle.norbd_line.specs.declared.fault.Cause.TheVariants.{Accept, Read, Write, Sync}
use Rattle.norbd_line.specs.declared.fault.Fault.{Fault}
use Rattle.norbd_line.specs.declared.fault.Fault.TheVariants.{Words, NoMemory, BadSize, InputFailed}
use Rattle.norbd_line.specs.declared.fault.Fault.TheVariants.{OutputFailed, ImageFailed, WrongId}
use Rattle.norbd_line.specs.declared.fault.Fault.TheVariants.{BadSfdp, Protected, Slow, BadRecord}
use Rattle.norbd_line.specs.declared.fault.Fault.TheVariants.{NotFormatted, Corrupt, NotClean}
use Rattle.norbd_line.specs.declared.fault.Fault.TheVariants.{BadImageSize, BadAddress, EmptyName}
use Rattle.norbd_line.specs.declared.fault.Fault.TheVariants.{NoSocket, NoThread, BadSync, NotText}
use Rattle.norbd_line.specs.declared.fault.Fault.TheVariants.{BadTidy, BadRange, BadInput}
use Rattle.norbd_line.specs.declared.fault.Fault.TheVariants.{InUse, Formatted, NotEmpty}

-- an IP address with a colon is one of IPv6, which stands in brackets before a port. Source: RFC
-- 3986, 3.2.2
abbrev pub has_colon : List ℕ → Bool
has_colon ip = list_any (λ byte. byte == 58) ip

-- the address and the port of a place, or its path, and the end of the line
abbrev pub place_line : Place → List ℕ
place_line (places.Port port None) = codes "127.0.0.1:" ++ (decimal port ++ codes "\n")
place_line (places.Port port (Some ip)) =
    if has_colon ip.now
    then codes "[" ++ (ip.now ++ (codes "]:" ++ (decimal port ++ codes "\n")))
    else ip.now ++ (codes ":" ++ (decimal port ++ codes "\n"))
place_line (places.Unix path) = path.now ++ codes "\n"

-- the line before the first connection is accepted
abbrev pub serving_text : ℕ → Place → List ℕ
serving_text sectors place = codes "serving "
    ++ (decimal sectors ++ (codes " sectors on " ++ place_line place))

-- the line after the last connection has ended, and where rows are kept the one about them
abbrev pub ended_text : Bool → ℕ → ℕ → List ℕ
ended_text true conns rows = codes "served "
    ++ (decimal conns ++ (codes " connections\nrecorded " ++ (decimal rows ++ codes " rows\n")))
ended_text false conns rows = codes "served " ++ (decimal conns ++ codes " connections\n")

-- all that is told
abbrev pub all_text : Place → ℕ → Bool → ℕ → ℕ → List ℕ
all_text place conns keeps sectors rows = serving_text sectors place ++ ended_text keeps conns rows

-- what a refusal of an image's file of so many bytes is for the program
abbrev pub told_of_file : ℕ → SimError → Fault
told_of_file length files.BadSize = BadImageSize length
told_of_file length files.OutOfMemory = NoMemory
told_of_file length files.File = ImageFailed Read

-- what one of a mount is; a chip in a file loses its power where the file fails
abbrev pub told_of_mount : MountError → Fault
told_of_mount (mounts.Probe e) = told_of_probe e
told_of_mount mounts.OutOfMemory = NoMemory
told_of_mount mounts.NotFormatted = NotFormatted
told_of_mount mounts.Corrupt = Corrupt

-- what one of a server's record is
abbrev pub told_of_record : RecordError → Fault
told_of_record records.Cut = ImageFailed Write
told_of_record records.Slow = Slow
told_of_record records.OutOfMemory = NoMemory

-- what a fault of serving is; a lost command's image has failed
abbrev pub told_of_serving : ServeFault → Fault
told_of_serving serves.NoMemory = NoMemory
told_of_serving serves.NoSocket = NoSocket Accept
told_of_serving serves.NoThread = NoThread
told_of_serving serves.Lost = ImageFailed Write
told_of_serving serves.Unsynced = ImageFailed Sync

-- whose replies wait for a sync, by what the line asks
abbrev pub policy_of : SyncPolicy → Policy
policy_of syncs.AtFlush = policies.AtFlush
policy_of syncs.Never = policies.Never
policy_of syncs.Always = policies.Always

-- a refusal of the image, which comes before anything is told
abbrev pub IsRefusal : Fault → Type 0
IsRefusal NoMemory = Unit {0}
IsRefusal (ImageFailed cause) = Unit {0}
IsRefusal InUse = Unit {0}
IsRefusal Formatted = ⊥
IsRefusal NotEmpty = ⊥
IsRefusal (BadImageSize length) = Unit {0}
IsRefusal NotFormatted = Unit {0}
IsRefusal Corrupt = Unit {0}
IsRefusal NotClean = Unit {0}
IsRefusal WrongId = Unit {0}
IsRefusal BadSfdp = Unit {0}
IsRefusal Protected = Unit {0}
IsRefusal Slow = Unit {0}
IsRefusal (Words error) = ⊥
IsRefusal (BadSize kib) = ⊥
IsRefusal BadSync = ⊥
IsRefusal BadTidy = ⊥
IsRefusal BadAddress = ⊥
IsRefusal NotText = ⊥
IsRefusal EmptyName = ⊥
IsRefusal InputFailed = ⊥
IsRefusal OutputFailed = ⊥
IsRefusal BadRecord = ⊥
IsRefusal (NoSocket cause) = ⊥
IsRefusal NoThread = ⊥
IsRefusal (BadRange count) = ⊥
IsRefusal (BadInput length) = ⊥

-- a refusal of the place to listen at, which comes before the image is looked for
abbrev pub IsPlaceRefusal : Fault → Type 0
IsPlaceRefusal BadAddress = Unit {0}
IsPlaceRefusal (NoSocket cause) = Unit {0}
IsPlaceRefusal (Words error) = ⊥
IsPlaceRefusal NoMemory = ⊥
IsPlaceRefusal (BadSize kib) = ⊥
IsPlaceRefusal BadSync = ⊥
IsPlaceRefusal BadTidy = ⊥
IsPlaceRefusal NotText = ⊥
IsPlaceRefusal EmptyName = ⊥
IsPlaceRefusal InputFailed = ⊥
IsPlaceRefusal OutputFailed = ⊥
IsPlaceRefusal (ImageFailed cause) = ⊥
IsPlaceRefusal InUse = ⊥
IsPlaceRefusal Formatted = ⊥
IsPlaceRefusal NotEmpty = ⊥
IsPlaceRefusal WrongId = ⊥
IsPlaceRefusal BadSfdp = ⊥
IsPlaceRefusal Protected = ⊥
IsPlaceRefusal Slow = ⊥
IsPlaceRefusal BadRecord = ⊥
IsPlaceRefusal NotFormatted = ⊥
IsPlaceRefusal Corrupt = ⊥
IsPlaceRefusal NotClean = ⊥
IsPlaceRefusal (BadImageSize length) = ⊥
IsPlaceRefusal NoThread = ⊥
IsPlaceRefusal (BadRange count) = ⊥
IsPlaceRefusal (BadInput length) = ⊥

-- What writing a text says: all of it is written, there was no memory for it, or a beginning of it
-- is written.
abbrev pub WritesText : {Z T X : Type 0} → Result (String Z) X → Option (List ℕ) → ℕ
    → Result T Fault → Option (List ℕ) → ℕ → Type 0
WritesText text old faults (Ok _) new faults' =
    IsOkAnd text (λ t. Appends old new (string_bytes t)) × (faults' ≡ faults)
WritesText text old faults (Err e) new faults' =
    ((e ≡ NoMemory) × (new ≡ old) × (faults' ≡ faults))
    ⊎ ((e ≡ OutputFailed) × IsOkAnd text (λ t. FailsToSend old faults (string_bytes t) new faults'))

-- nothing was told, and no write failed
abbrev pub IsSilent : Option (List ℕ) → ℕ → Option (List ℕ) → ℕ → Type 0
IsSilent old faults new faults' = Appends old new [] × (faults' ≡ faults)

-- nothing was told, or the first line alone
abbrev pub HasBegun : Place → Option (List ℕ) → ℕ → Option (List ℕ) → ℕ → Type 0
HasBegun place old faults new faults' =
    IsSilent old faults new faults' ⊎
    ((sectors : ℕ) × Appends old new (serving_text sectors place) × (faults' ≡ faults))

-- What `serve` at this place for so many connections tells: done, all lines, and the last of them
-- with a number of rows; with a fault of the output a beginning of them; with another fault that
-- comes before it listens nothing, and else nothing or the first line.
abbrev pub TellsServing : {T : Type 0} → Place → ℕ → Bool → Option (List ℕ) → ℕ → Result T Fault
    → Option (List ℕ) → ℕ → Type 0
TellsServing place conns keeps old faults (Ok _) new faults' =
    (sectors : ℕ) × (rows : ℕ) × Appends old new (all_text place conns keeps sectors rows)
    × (faults' ≡ faults)
TellsServing place conns keeps old faults (Err OutputFailed) new faults' =
    (sectors : ℕ) × (rows : ℕ)
    × FailsToSend old faults (all_text place conns keeps sectors rows) new faults'
TellsServing place conns keeps old faults (Err NoMemory) new faults' =
    HasBegun place old faults new faults'
TellsServing place conns keeps old faults (Err (ImageFailed cause)) new faults' =
    HasBegun place old faults new faults'
TellsServing place conns keeps old faults (Err InUse) new faults' =
    IsSilent old faults new faults'
TellsServing place conns keeps old faults (Err Formatted) new faults' = ⊥
TellsServing place conns keeps old faults (Err NotEmpty) new faults' = ⊥
TellsServing place conns keeps old faults (Err (NoSocket cause)) new faults' =
    HasBegun place old faults new faults'
TellsServing place conns keeps old faults (Err NoThread) new faults' =
    HasBegun place old faults new faults'
TellsServing place conns keeps old faults (Err (BadImageSize length)) new faults' =
    IsSilent old faults new faults'
TellsServing place conns keeps old faults (Err NotFormatted) new faults' =
    IsSilent old faults new faults'
TellsServing place conns keeps old faults (Err Corrupt) new faults' =
    IsSilent old faults new faults'
TellsServing place conns keeps old faults (Err NotClean) new faults' =
    IsSilent old faults new faults'
TellsServing place conns keeps old faults (Err WrongId) new faults' =
    IsSilent old faults new faults'
TellsServing place conns keeps old faults (Err BadSfdp) new faults' =
    IsSilent old faults new faults'
TellsServing place conns keeps old faults (Err Protected) new faults' =
    IsSilent old faults new faults'
TellsServing place conns keeps old faults (Err Slow) new faults' = IsSilent old faults new faults'
TellsServing place conns keeps old faults (Err (Words error)) new faults' = ⊥
TellsServing place conns keeps old faults (Err (BadSize kib)) new faults' = ⊥
TellsServing place conns keeps old faults (Err BadSync) new faults' = ⊥
TellsServing place conns keeps old faults (Err BadTidy) new faults' = ⊥
TellsServing place conns keeps old faults (Err BadAddress) new faults' =
    IsSilent old faults new faults'
TellsServing place conns keeps old faults (Err NotText) new faults' = ⊥
TellsServing place conns keeps old faults (Err EmptyName) new faults' = ⊥
TellsServing place conns keeps old faults (Err (BadRange count)) new faults' = ⊥
TellsServing place conns keeps old faults (Err (BadInput length)) new faults' = ⊥
TellsServing place conns keeps old faults (Err InputFailed) new faults' = ⊥
TellsServing place conns keeps old faults (Err BadRecord) new faults' = ⊥
