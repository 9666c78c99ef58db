use Rattle.std.specs.Prelude.{ℕ, List, ◌≡◌, ◌≢◌, ◌⊎◌}
use Rattle.clap.specs.Words.{IsAmong, Row, Text, fault_of, kind_of}
use Rattle.norbd_line.specs.CommandLine.{norbd_app}
use Rattle.norbd_line.specs.Line.{HasOddSize, HasOddSizeIn, HasBadSync, HasBadSyncIn}
use Rattle.norbd_line.specs.Line.{HasBadTidy, HasBadTidyIn}
use Rattle.norbd_line.specs.Line.{HasBadPlace, HasBadPlaceIn, HasEmptyName}
use Rattle.clap.specs.declared.error.kind.ErrorKind.{ErrorKind}
use Rattle.clap.specs.declared.error.kind.ErrorKind.TheVariants.{DisplayHelp, DisplayVersion}
use Rattle.clap.specs.declared.error.kind.ErrorKind.TheVariants.{OutOfMemory}
use Rattle.norbd_line.specs.declared.fault.Fault.{Fault}
use Rattle.norbd_line.specs.declared.fault.Fault.TheVariants.{Words, NoMemory, BadSize, InputFailed}
use Rattle.norbd_line.specs.declared.fault.Fault.TheVariants.{OutputFailed, ImageFailed, WrongId}
use Rattle.norbd_line.specs.declared.fault.Fault.TheVariants.{BadSfdp, Protected, Slow, BadRecord}
use Rattle.norbd_line.specs.declared.fault.Fault.TheVariants.{NotFormatted, Corrupt, NotClean}
use Rattle.norbd_line.specs.declared.fault.Fault.TheVariants.{BadImageSize, BadAddress, EmptyName}
use Rattle.norbd_line.specs.declared.fault.Fault.TheVariants.{NoSocket, NoThread, BadSync, NotText}
use Rattle.norbd_line.specs.declared.fault.Fault.TheVariants.{InUse, Formatted, NotEmpty}
use Rattle.norbd_line.specs.declared.fault.Fault.TheVariants.{BadTidy, BadRange, BadInput}

-- the words asked for help or for the version, so they are no mistake
abbrev pub AsksForText : ErrorKind → Type 0
AsksForText kind = (kind ≡ DisplayHelp) ⊎ (kind ≡ DisplayVersion)

-- the exit status of a fault: 2 for a bad line, 0 for help and the version, 1 for each other fault
abbrev pub HasStatus : Fault → ℕ → Type 0
HasStatus (Words error) status =
    (AsksForText (kind_of error) → status ≡ 0) × ((AsksForText (kind_of error) → ⊥) → status ≡ 2)
HasStatus (BadSize kib) status = status ≡ 2
HasStatus BadSync status = status ≡ 2
HasStatus BadTidy status = status ≡ 2
HasStatus BadAddress status = status ≡ 2
HasStatus NotText status = status ≡ 2
HasStatus EmptyName status = status ≡ 2
HasStatus NoMemory status = status ≡ 1
HasStatus InputFailed status = status ≡ 1
HasStatus OutputFailed status = status ≡ 1
HasStatus (ImageFailed cause) status = status ≡ 1
HasStatus InUse status = status ≡ 1
HasStatus Formatted status = status ≡ 1
HasStatus NotEmpty status = status ≡ 1
HasStatus WrongId status = status ≡ 1
HasStatus BadSfdp status = status ≡ 1
HasStatus Protected status = status ≡ 1
HasStatus Slow status = status ≡ 1
HasStatus BadRecord status = status ≡ 1
HasStatus NotFormatted status = status ≡ 1
HasStatus Corrupt status = status ≡ 1
HasStatus NotClean status = status ≡ 1
HasStatus (BadImageSize length) status = status ≡ 1
HasStatus (NoSocket cause) status = status ≡ 1
HasStatus NoThread status = status ≡ 1
HasStatus (BadRange count) status = status ≡ 2
HasStatus (BadInput length) status = status ≡ 1

-- a fault that comes of what was matched of the words of a command: a number that is no size, a
-- word that says no syncing or no tidying, no place to listen at, or want of memory
abbrev pub ComesFromMatches : Text → List Row → Fault → Type 0
ComesFromMatches name rows (Words error) = ⊥
ComesFromMatches name rows (BadSize kib) = HasOddSizeIn name rows kib
ComesFromMatches name rows BadSync = HasBadSyncIn name rows
ComesFromMatches name rows BadTidy = HasBadTidyIn name rows
ComesFromMatches name rows BadAddress = HasBadPlaceIn name rows
ComesFromMatches name rows NotText = ⊥
ComesFromMatches name rows EmptyName = ⊥
ComesFromMatches name rows NoMemory = Unit {0}
ComesFromMatches name rows InputFailed = ⊥
ComesFromMatches name rows OutputFailed = ⊥
ComesFromMatches name rows (ImageFailed cause) = ⊥
ComesFromMatches name rows InUse = ⊥
ComesFromMatches name rows Formatted = ⊥
ComesFromMatches name rows NotEmpty = ⊥
ComesFromMatches name rows WrongId = ⊥
ComesFromMatches name rows BadSfdp = ⊥
ComesFromMatches name rows Protected = ⊥
ComesFromMatches name rows Slow = ⊥
ComesFromMatches name rows BadRecord = ⊥
ComesFromMatches name rows NotFormatted = ⊥
ComesFromMatches name rows Corrupt = ⊥
ComesFromMatches name rows NotClean = ⊥
ComesFromMatches name rows (BadImageSize length) = ⊥
ComesFromMatches name rows (NoSocket cause) = ⊥
ComesFromMatches name rows NoThread = ⊥
ComesFromMatches name rows (BadRange count) = ⊥
ComesFromMatches name rows (BadInput length) = ⊥

-- a fault that reading these words may answer: one of those that they have, which isn't want of
-- memory, a number that is no size, a word that says no syncing or no tidying, no place, an image
-- without a name, or want of memory
abbrev pub ComesFromWords : List Text → Fault → Type 0
ComesFromWords words (Words error) =
    (kind_of error ≢ OutOfMemory) × IsAmong (kind_of error) (fault_of norbd_app words)
ComesFromWords words (BadSize kib) = HasOddSize words kib
ComesFromWords words BadSync = HasBadSync words
ComesFromWords words BadTidy = HasBadTidy words
ComesFromWords words BadAddress = HasBadPlace words
ComesFromWords words NotText = ⊥
ComesFromWords words EmptyName = HasEmptyName words
ComesFromWords words NoMemory = Unit {0}
ComesFromWords words InputFailed = ⊥
ComesFromWords words OutputFailed = ⊥
ComesFromWords words (ImageFailed cause) = ⊥
ComesFromWords words InUse = ⊥
ComesFromWords words Formatted = ⊥
ComesFromWords words NotEmpty = ⊥
ComesFromWords words WrongId = ⊥
ComesFromWords words BadSfdp = ⊥
ComesFromWords words Protected = ⊥
ComesFromWords words Slow = ⊥
ComesFromWords words BadRecord = ⊥
ComesFromWords words NotFormatted = ⊥
ComesFromWords words Corrupt = ⊥
ComesFromWords words NotClean = ⊥
ComesFromWords words (BadImageSize length) = ⊥
ComesFromWords words (NoSocket cause) = ⊥
ComesFromWords words NoThread = ⊥
ComesFromWords words (BadRange count) = ⊥
ComesFromWords words (BadInput length) = ⊥
