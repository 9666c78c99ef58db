-- What each line of the program does. Source: own.
use Rattle.std.specs.Prelude.{◌≡◌, ℕ, List, Option, Some, None, Result, unwrap_or, IsErr}
use Rattle.norbd_line.specs.Line.{IsChipInRange, IsServeInRange, IsSize}
use Rattle.norbd_line.specs.declared.fault.Fault.{Fault}
use Rattle.norbd_line.specs.declared.line.Line.{Line}
use Rattle.norbd_line.specs.declared.line.Line.TheVariants.{Chip, Plain, Format, Script, Serve}
use Rattle.norbd_line.specs.declared.line.Line.TheVariants.{Check, Show, Read, Unprotect, Write}
use Rattle.norbd_line.specs.declared.line.Line.TheVariants.{Rescue, Settle, Status}
use Rattle.norbd_run.specs.Checking.{CheckTells}
use Rattle.norbd_run.specs.Chips.{ChipTells}
use Rattle.norbd_run.specs.Formatting.{FormatTells}
use Rattle.norbd_run.specs.Listening.{TellsServing}
use Rattle.norbd_run.specs.Looking.{StatusTells}
use Rattle.norbd_run.specs.Moving.{ReadTells, WriteTells}
use Rattle.norbd_run.specs.Outcomes.{Ended}
use Rattle.norbd_run.specs.Rescuing.{RescueTells}
use Rattle.norbd_run.specs.Scripting.{Scripts, Streams}
use Rattle.norbd_run.specs.Serving.{PlainServes}
use Rattle.norbd_run.specs.Settling.{SettleTells}
use Rattle.norbd_run.specs.Showing.{ShowTells}
use Rattle.norbd_run.specs.Unprotecting.{UnprotectTells}

-- a chip has a size of chips, and what is served numbers in their ranges
abbrev pub HasNumbers : Line → Type 0
HasNumbers (Chip asked) = IsChipInRange asked
HasNumbers (Plain sectors keeps_rows) = Unit {0}
HasNumbers (Format image kib forced sure) = IsSize kib
HasNumbers (Script kib) = IsSize kib
HasNumbers (Serve asked) = IsServeInRange asked
HasNumbers (Status path tells_json) = Unit {0}
HasNumbers (Check image mends tells_json dump) = Unit {0}
HasNumbers (Unprotect image sure) = Unit {0}
HasNumbers (Settle image) = Unit {0}
HasNumbers (Show image) = Unit {0}
HasNumbers (Read image range) = Unit {0}
HasNumbers (Write image range firm) = Unit {0}
HasNumbers (Rescue image) = Unit {0}

-- standard input isn't read
abbrev pub ReadsNothing : Line → Type 0
ReadsNothing (Chip asked) = Unit {0}
ReadsNothing (Plain sectors keeps_rows) = ⊥
ReadsNothing (Format image kib forced sure) = Unit {0}
ReadsNothing (Script kib) = ⊥
ReadsNothing (Serve asked) = Unit {0}
ReadsNothing (Status path tells_json) = Unit {0}
ReadsNothing (Check image mends tells_json dump) = Unit {0}
ReadsNothing (Unprotect image sure) = Unit {0}
ReadsNothing (Settle image) = Unit {0}
ReadsNothing (Show image) = Unit {0}
ReadsNothing (Read image range) = Unit {0}
ReadsNothing (Write image range firm) = ⊥
ReadsNothing (Rescue image) = Unit {0}

-- what each line makes of the streams, and its end: `serve` without a number of connections ends by
-- a fault alone
abbrev pub LineDoes : {T : Type 0} → Line → Streams → Result T Fault → Streams → Type 0
LineDoes (Chip asked) old result new =
    ChipTells asked.port old.written old.writes result new.written new.writes
LineDoes (Plain sectors keeps_rows) old result new =
    Ended result old.left new.left old.reads new.reads old.writes new.writes
    × ((input : List ℕ) → old.left ≡ Some input
    → PlainServes keeps_rows sectors input old.written new.written result)
LineDoes (Format image kib forced sure) old result new =
    FormatTells kib old.written old.writes result new.written new.writes
LineDoes (Script kib) old result new = Scripts kib old result new
LineDoes (Serve asked) old result new =
    TellsServing asked.place (unwrap_or asked.conns 64) asked.record old.written old.writes result
    new.written new.writes
    × (asked.conns ≡ None → IsErr result)
LineDoes (Status path tells_json) old result new =
    StatusTells tells_json old.written old.writes result new.written new.writes
LineDoes (Check image mends tells_json dump) old result new =
    CheckTells mends tells_json old.written old.writes result new.written new.writes
LineDoes (Unprotect image sure) old result new =
    UnprotectTells sure old.written old.writes result new.written new.writes
LineDoes (Settle image) old result new =
    SettleTells old.written old.writes result new.written new.writes
LineDoes (Show image) old result new =
    ShowTells old.written old.writes result new.written new.writes
LineDoes (Read image range) old result new =
    ReadTells old.written old.writes result new.written new.writes
LineDoes (Write image range firm) old result new =
    WriteTells old.written old.writes result new.written new.writes
LineDoes (Rescue image) old result new =
    RescueTells old.written old.writes result new.written new.writes
