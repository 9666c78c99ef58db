-- What a watched chip is asked, and which answers pass. Source: own, over the instruction table of
-- `chip_model`.
use Rattle.std.specs.Prelude.{◌≡◌, ℕ, ◌%◌, ◌==◌, Bool, false, true, ◌&&◌, not, if◌then◌else◌, min}
use Rattle.std.specs.Prelude.{List, map}
use Rattle.chip_model.specs.Chip.{Chip, is_idle}
use Rattle.chip_model.specs.Frames.{Command, Status1, Status2, Status3, Read}
use Rattle.chip_model.specs.Frames.{Id, Sfdp, Unknown, is_status}

-- the instruction table has it
abbrev pub is_instruction : Command → Bool
is_instruction Unknown = false
is_instruction _ = true

-- a chip of the model doesn't ignore the frame: such a frame alone is sent to the chip
abbrev pub heeds : Chip → Command → Bool
heeds c command = if is_idle c.operation then is_instruction command else is_status command

-- the frame changes nothing
abbrev pub changes_nothing : Command → Bool
changes_nothing Status1 = true
changes_nothing Status2 = true
changes_nothing Status3 = true
changes_nothing (Read at) = true
changes_nothing Id = true
changes_nothing (Sfdp at) = true
changes_nothing _ = false

abbrev pub reads_memory : Command → Bool
reads_memory (Read at) = true
reads_memory _ = false

-- the chip is sent the frame: it is none that the model ignores, and no READ while the memory is
-- fresh, read as a whole and not changed since
abbrev pub is_put_to_chip : Bool → Chip → Command → Bool
is_put_to_chip fresh c command = heeds c command && not (fresh && reads_memory command)

-- of n bytes that a caller asks for, how many the chip is asked for: none where the model answers
-- FFh by rule, and a status register once, since a chip may end its operation between two bytes
abbrev pub asked_of : Command → ℕ → ℕ
asked_of Status1 n = min n 1
asked_of Status2 n = min n 1
asked_of Status3 n = min n 1
asked_of (Read at) n = n
asked_of Id n = n
asked_of (Sfdp at) n = n
asked_of _ n = 0

-- what counts of status register 1: all of it, but while BUSY is 1 only bits 0 and 1, BUSY and WEL,
-- since a chip may show the others new before a status write has ended
abbrev pub judged_status : ℕ → ℕ
judged_status status = if status % 2 == 1 then status % 4 else status

-- what was heard is taken for the answer that the model allows
abbrev pub Passes : Command → List ℕ → List ℕ → Type 0
Passes Status1 heard allowed = map judged_status heard ≡ map judged_status allowed
Passes _ heard allowed = heard ≡ allowed
