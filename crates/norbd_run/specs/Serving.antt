-- What `plain` writes: the replies of an array of zeros to the requests of its input. Source: NBD
-- proto.md for the replies.
use Rattle.std.specs.Prelude.{ℕ, ◌*◌, List, [], Bool, replicate, Option, Result, Ok, Err}
use Rattle.std.specs.Io.KnownBytes.{Appends}
use Rattle.nbd_wire.specs.declared.phase.Phase.TheVariants.{Transmitting}
use Rattle.nbd_wire.specs.Commands.{default_export}
use Rattle.norbd_line.specs.declared.fault.Fault.{Fault}
use Rattle.norbd_line.specs.declared.fault.Fault.TheVariants.{Words, NoMemory, BadSize, InputFailed}
use Rattle.norbd_line.specs.declared.fault.Fault.TheVariants.{OutputFailed, ImageFailed, WrongId}
use Rattle.norbd_line.specs.declared.fault.Fault.TheVariants.{BadSfdp, Protected, Slow, BadRecord}
use Rattle.norbd_line.specs.declared.fault.Fault.TheVariants.{NotFormatted, Corrupt, NotClean}
use Rattle.norbd_line.specs.declared.fault.Fault.TheVariants.{BadImageSize, BadAddress, EmptyName}
use Rattle.norbd_line.specs.declared.fault.Fault.TheVariants.{NoSocket, NoThread, BadSync, NotText}
use Rattle.norbd_line.specs.declared.fault.Fault.TheVariants.{BadTidy, BadRange, BadInput}
use Rattle.norbd_line.specs.declared.fault.Fault.TheVariants.{InUse, Formatted, NotEmpty}
use Rattle.nbd_worker.specs.ConnectionState.{setting}
use Rattle.nbd_worker.specs.Plain.{AnswersAll, AnswersSome}

-- so many sectors of zeros
abbrev pub zero_sectors : ℕ → List ℕ
zero_sectors sectors = replicate (512 * sectors) 0

-- All requests of the input up to the first that closes are answered as an array of zeros answers
-- them, but that where rows are kept a command may be answered ENOMEM for want of memory for its
-- row; where a stream fails, a beginning of these replies is written.
abbrev pub PlainServes : {T : Type 0} → Bool → ℕ → List ℕ → Option (List ℕ) → Option (List ℕ)
    → Result T Fault → Type 0
PlainServes keeps sectors input old new (Ok _) = (contents : List ℕ) × (closes : Bool)
    × AnswersAll keeps (setting Transmitting (default_export sectors)) (zero_sectors sectors)
    contents input old new closes
PlainServes keeps sectors input old new (Err (Words error)) = ⊥
PlainServes keeps sectors input old new (Err NoMemory) = Appends old new []
PlainServes keeps sectors input old new (Err InputFailed) = (contents : List ℕ)
    × AnswersSome keeps (setting Transmitting (default_export sectors)) (zero_sectors sectors)
    contents input old new
PlainServes keeps sectors input old new (Err OutputFailed) = (contents : List ℕ)
    × AnswersSome keeps (setting Transmitting (default_export sectors)) (zero_sectors sectors)
    contents input old new
PlainServes keeps sectors input old new (Err (BadSize kib)) = ⊥
PlainServes keeps sectors input old new (Err BadSync) = ⊥
PlainServes keeps sectors input old new (Err BadTidy) = ⊥
PlainServes keeps sectors input old new (Err BadAddress) = ⊥
PlainServes keeps sectors input old new (Err NotText) = ⊥
PlainServes keeps sectors input old new (Err EmptyName) = ⊥
PlainServes keeps sectors input old new (Err (ImageFailed cause)) = ⊥
PlainServes keeps sectors input old new (Err InUse) = ⊥
PlainServes keeps sectors input old new (Err Formatted) = ⊥
PlainServes keeps sectors input old new (Err NotEmpty) = ⊥
PlainServes keeps sectors input old new (Err WrongId) = ⊥
PlainServes keeps sectors input old new (Err BadSfdp) = ⊥
PlainServes keeps sectors input old new (Err Protected) = ⊥
PlainServes keeps sectors input old new (Err Slow) = ⊥
PlainServes keeps sectors input old new (Err BadRecord) = ⊥
PlainServes keeps sectors input old new (Err NotFormatted) = ⊥
PlainServes keeps sectors input old new (Err Corrupt) = ⊥
PlainServes keeps sectors input old new (Err NotClean) = ⊥
PlainServes keeps sectors input old new (Err (BadImageSize length)) = ⊥
PlainServes keeps sectors input old new (Err (NoSocket cause)) = ⊥
PlainServes keeps sectors input old new (Err NoThread) = ⊥
PlainServes keeps sectors input old new (Err (BadRange count)) = ⊥
PlainServes keeps sectors input old new (Err (BadInput length)) = ⊥
