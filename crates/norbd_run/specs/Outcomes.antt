-- How the program ended. Source: own.
use Rattle.std.specs.Prelude.{◌≡◌, ◌⊎◌, ℕ, ◌-◌, ◌^◌, ◌<◌, ◌≤◌, List, length, Option, Result, Ok}
use Rattle.std.specs.Prelude.{Err}
use Rattle.std.specs.Io.KnownBytes.{Consumes}
use Rattle.norbd_line.specs.Fault.{HasStatus}
use Rattle.norbd_line.specs.declared.fault.Fault.{Fault}
use Rattle.norbd_line.specs.declared.fault.Fault.TheVariants.{Words, NoMemory, BadSize, InputFailed}
use Rattle.norbd_line.specs.declared.fault.Fault.TheVariants.{OutputFailed, ImageFailed, WrongId}
use Rattle.norbd_line.specs.declared.fault.Fault.TheVariants.{BadSfdp, Protected, Slow, BadRecord}
use Rattle.norbd_line.specs.declared.fault.Fault.TheVariants.{NotFormatted, Corrupt, NotClean}
use Rattle.norbd_line.specs.declared.fault.Fault.TheVariants.{BadImageSize, BadAddress, EmptyName}
use Rattle.norbd_line.specs.declared.fault.Fault.TheVariants.{NoSocket, NoThread, BadSync, NotText}
use Rattle.norbd_line.specs.declared.fault.Fault.TheVariants.{BadTidy, BadRange, BadInput}
use Rattle.norbd_line.specs.declared.fault.Fault.TheVariants.{InUse, Formatted, NotEmpty}
use Rattle.nbd_worker.specs.declared.attending.End.{End}
use Rattle.nbd_worker.specs.declared.attending.End.TheVariants.{Closed, EndOfInput, Input, Output}
use Rattle.nbd_worker.specs.declared.attending.End.TheVariants.{Lost}
use Rattle.nbd_worker.specs.declared.attending.End.TheVariants.{OutOfMemory}

-- a result that is Ok
abbrev pub IsDone : {T : Type 0} → Result T Fault → Type 0
IsDone (Ok _) = Unit {0}
IsDone (Err _) = ⊥

-- a result that is this fault
abbrev pub IsFault : {T : Type 0} → Fault → Result T Fault → Type 0
IsFault fault (Ok _) = ⊥
IsFault fault (Err e) = e ≡ fault

-- what the end of a connection means for the program: a close and the end of the input are no
-- faults; a loss can't come
abbrev pub Means : {T : Type 0} → End → Result T Fault → Type 0
Means Closed result = IsDone result
Means EndOfInput result = IsDone result
Means Input result = IsFault InputFailed result
Means Output result = IsFault OutputFailed result
Means Lost result = ⊥
Means OutOfMemory result = IsFault NoMemory result

-- A read failed, or 2^64 - 1 bytes were read.
abbrev pub InputFails : Option (List ℕ) → Option (List ℕ) → ℕ → ℕ → Type 0
InputFails had left reads reads' =
    (text : List ℕ) × Consumes had left text × ((reads < reads') ⊎ (2 ^ 64 - 1 ≤ length text))

-- The cause of a fault, by the bytes that the reader had and has left, and the failed calls of the
-- reader and of the writer before and after. Only a fault of a stream counts a failed call, and
-- that of its own; serving has no fault of the words nor of an image.
abbrev pub HasCause : Fault → Option (List ℕ) → Option (List ℕ) → ℕ → ℕ → ℕ → ℕ → Type 0
HasCause (Words error) had left reads reads' writes writes' = ⊥
HasCause NoMemory had left reads reads' writes writes' = (reads' ≡ reads) × (writes' ≡ writes)
HasCause InputFailed had left reads reads' writes writes' =
    InputFails had left reads reads' × (writes' ≡ writes)
HasCause OutputFailed had left reads reads' writes writes' = (reads' ≡ reads) × (writes < writes')
HasCause (BadSize kib) had left reads reads' writes writes' = ⊥
HasCause BadSync had left reads reads' writes writes' = ⊥
HasCause BadTidy had left reads reads' writes writes' = ⊥
HasCause BadAddress had left reads reads' writes writes' = ⊥
HasCause NotText had left reads reads' writes writes' = ⊥
HasCause EmptyName had left reads reads' writes writes' = ⊥
HasCause (ImageFailed cause) had left reads reads' writes writes' = ⊥
HasCause InUse had left reads reads' writes writes' = ⊥
HasCause Formatted had left reads reads' writes writes' = ⊥
HasCause NotEmpty had left reads reads' writes writes' = ⊥
HasCause WrongId had left reads reads' writes writes' = ⊥
HasCause BadSfdp had left reads reads' writes writes' = ⊥
HasCause Protected had left reads reads' writes writes' = ⊥
HasCause Slow had left reads reads' writes writes' = ⊥
HasCause BadRecord had left reads reads' writes writes' = ⊥
HasCause NotFormatted had left reads reads' writes writes' = ⊥
HasCause Corrupt had left reads reads' writes writes' = ⊥
HasCause NotClean had left reads reads' writes writes' = ⊥
HasCause (BadImageSize length) had left reads reads' writes writes' = ⊥
HasCause (NoSocket cause) had left reads reads' writes writes' = ⊥
HasCause NoThread had left reads reads' writes writes' = ⊥
HasCause (BadRange count) had left reads reads' writes writes' = ⊥
HasCause (BadInput length) had left reads reads' writes writes' = ⊥

-- How serving ended: done, and no call of a stream failed, or with a fault that has its cause.
abbrev pub Ended : {T : Type 0} → Result T Fault → Option (List ℕ) → Option (List ℕ) → ℕ → ℕ → ℕ → ℕ
    → Type 0
Ended (Ok _) had left reads reads' writes writes' = (reads' ≡ reads) × (writes' ≡ writes)
Ended (Err fault) had left reads reads' writes writes' =
    HasCause fault had left reads reads' writes writes'

-- the exit status: 0 where the line is done, and else that of its fault
abbrev pub EndsWith : {T : Type 0} → Result T Fault → ℕ → Type 0
EndsWith (Ok _) status = status ≡ 0
EndsWith (Err fault) status = HasStatus fault status
