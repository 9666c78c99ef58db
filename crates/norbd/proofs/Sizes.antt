-- The numbers of a line are those that it may have.
use Rattle.norbd_line.specs.Line.{IsLineInRange}
use Rattle.norbd_line.specs.declared.line.Line.{Line}
use Rattle.norbd_line.specs.declared.line.Line.TheVariants.{Chip, Plain, Format, Script, Serve, Status, Check, Unprotect, Settle, Show, Read, Write, Rescue}
use Rattle.norbd_run.specs.Lines.{HasNumbers}

pub numbers_of_line : (line : Line) → IsLineInRange line → HasNumbers line
numbers_of_line (Chip asked) range = range
numbers_of_line (Plain sectors keeps_rows) range = tt
numbers_of_line (Format image kib forced sure) range = range
numbers_of_line (Script kib) range = range
numbers_of_line (Serve asked) range = range
numbers_of_line (Status path tells_json) range = tt
numbers_of_line (Check image mends tells_json dump) range = tt
numbers_of_line (Unprotect image sure) range = tt
numbers_of_line (Settle image) range = tt
numbers_of_line (Show image) range = tt
numbers_of_line (Read image asked) range = tt
numbers_of_line (Write image asked firm) range = tt
numbers_of_line (Rescue image) range = tt
