use Rattle.std.specs.Prelude.{ℕ, Bool, true, false, not, List, [], Option, Some, None, codes}
use Rattle.std.specs.Prelude.{option_map, if◌then◌else◌, IfSome}
use Rattle.std.specs.Prelude.{◌≡◌, ◌≢◌, ◌%◌, ◌≤◌, ◌⊎◌}
use Rattle.std.specs.Str.{bytes_eq}
use Rattle.std.specs.Str.Parse.{digits_value, without_leading_plus}
use Rattle.clap.specs.Words.{Row, Text, fault_of, first_of, one_of, subcommand_of}
use Rattle.norbd_line.specs.CommandLine.{norbd_app}
use Rattle.norbd_line.specs.declared.chip.ChipLine.{ChipLine}
use Rattle.norbd_line.specs.declared.line.Line.{Line}
use Rattle.norbd_line.specs.declared.line.Line.TheVariants.{Chip, Plain, Format, Script, Serve}
use Rattle.norbd_line.specs.declared.line.Line.TheVariants.{Check, Unprotect, Show, Read, Write}
use Rattle.norbd_line.specs.declared.line.Line.TheVariants.{Rescue, Settle, Status}
use Rattle.norbd_line.specs.declared.line.Place.{Place}
use Rattle.norbd_line.specs.declared.line.Place.TheVariants as places
use Rattle.norbd_line.specs.declared.line.ServeLine.{ServeLine}
use Rattle.norbd_line.specs.declared.line.SyncPolicy.{SyncPolicy}
use Rattle.norbd_line.specs.declared.line.SyncPolicy.TheVariants.{AtFlush, Never, Always}
use Rattle.norbd_line.specs.declared.line.TidyPolicy.{TidyPolicy}
use Rattle.norbd_line.specs.declared.line.TidyPolicy.TheVariants.{Lazily, Eagerly}

-- a chip's size in KiB: a multiple of 64 from 64 to 16,384
abbrev pub IsSize : ℕ → Type 0
IsSize kib = (64 ≤ kib) × (kib ≤ 16384) × (kib % 64 ≡ 0)

-- a number that is in the range of the sizes, and no size
abbrev pub IsOddSize : ℕ → Type 0
IsOddSize kib = (64 ≤ kib) × (kib ≤ 16384) × (kib % 64 ≢ 0)

-- a port, and a number of connections
abbrev pub IsPort : ℕ → Type 0
IsPort port = (1 ≤ port) × (port ≤ 65535)

abbrev pub IsConns : ℕ → Type 0
IsConns conns = (1 ≤ conns) × (conns ≤ 64)

-- the port of a place is one
abbrev pub IsPlace : Place → Type 0
IsPlace (places.Port port bind) = IsPort port
IsPlace (places.Unix path) = Unit {0}

-- the largest length of a READ or WRITE, in KiB
abbrev pub IsMaxRequest : ℕ → Type 0
IsMaxRequest kib = (64 ≤ kib) × (kib ≤ 32768)

-- the numbers of a line `serve` are in their ranges
abbrev pub IsServeInRange : ServeLine → Type 0
IsServeInRange asked = IsPlace asked.place × IfSome asked.conns IsConns
    × IfSome asked.max_request IsMaxRequest

-- the numbers of a line `chip` are in their ranges
abbrev pub IsChipInRange : ChipLine → Type 0
IsChipInRange asked = IsPort asked.port × IfSome asked.conns IsConns

-- the numbers of a line are in their ranges: a plain disk has from 1 to 65,536 sectors, and a chip,
-- in a file or in memory, a size of chips
abbrev pub IsLineInRange : Line → Type 0
IsLineInRange (Chip asked) = IsChipInRange asked
IsLineInRange (Plain sectors keeps_rows) = (1 ≤ sectors) × (sectors ≤ 65536)
IsLineInRange (Format image kib forced sure) = IsSize kib
IsLineInRange (Script kib) = IsSize kib
IsLineInRange (Serve asked) = IsServeInRange asked
IsLineInRange (Status path tells_json) = Unit {0}
IsLineInRange (Check image mends tells_json dump) = Unit {0}
IsLineInRange (Unprotect image sure) = Unit {0}
IsLineInRange (Settle image) = Unit {0}
IsLineInRange (Show image) = Unit {0}
IsLineInRange (Read image range) = Unit {0}
IsLineInRange (Write image range firm) = Unit {0}
IsLineInRange (Rescue image) = Unit {0}

-- the number that a text writes in decimal digits
abbrev pub number_of : Text → ℕ
number_of text = digits_value 10 (without_leading_plus text)

-- the number after `--NAME`, in what was matched of the words of a command
abbrev pub number_in : Text → List Row → Option ℕ
number_in name rows = option_map number_of (one_of name rows)

-- when a server syncs, by the word after `--sync`: at each FLUSH where there is none
abbrev pub sync_of : Option Text → Option SyncPolicy
sync_of None = Some AtFlush
sync_of (Some word) =
    if bytes_eq word (codes "flush") then Some AtFlush else
    if bytes_eq word (codes "never") then Some Never else
    if bytes_eq word (codes "always") then Some Always else None

abbrev pub sync_in : List Row → Option SyncPolicy
sync_in rows = sync_of (first_of (codes "sync") rows)

-- when it tidies, by the word after `--tidy`: lazily where there is none
abbrev pub tidy_of : Option Text → Option TidyPolicy
tidy_of None = Some Lazily
tidy_of (Some word) =
    if bytes_eq word (codes "lazy") then Some Lazily else
    if bytes_eq word (codes "eager") then Some Eagerly else None

abbrev pub tidy_in : List Row → Option TidyPolicy
tidy_in rows = tidy_of (first_of (codes "tidy") rows)

-- Where a server listens, by what follows `--port`, `--bind` and `--unix`: a port of an address, or
-- a Unix socket, whose path isn't empty, and never both.
abbrev pub IsPlaceIn : List Row → Place → Type 0
IsPlaceIn rows (places.Port port bind) =
    (number_in (codes "port") rows ≡ Some port)
    × (first_of (codes "bind") rows ≡ option_map (λ text. text.now) bind)
    × (first_of (codes "unix") rows ≡ None)
IsPlaceIn rows (places.Unix path) =
    (number_in (codes "port") rows ≡ None) × (first_of (codes "bind") rows ≡ None)
    × (first_of (codes "unix") rows ≡ Some path.now) × (path.now ≢ [])

-- the words say no such place
abbrev pub HasNoPlace : List Row → Type 0
HasNoPlace rows = (place : Place) → IsPlaceIn rows place → ⊥

-- whether the flag of this name is among the words of a command
abbrev pub IsSet : Text → List Row → Bool → Type 0
IsSet name rows true = first_of name rows ≡ Some (codes "true")
IsSet name rows false = first_of name rows ≢ Some (codes "true")

-- the line is that of the command of this name, with the numbers and the text of these matches
abbrev pub IsLineIn : Text → List Row → Line → Type 0
IsLineIn name rows (Chip asked) =
    (name ≡ codes "chip") × (first_of (codes "IMAGE") rows ≡ Some asked.image.now)
    × (number_in (codes "port") rows ≡ Some asked.port)
    × (number_in (codes "conns") rows ≡ asked.conns)
IsLineIn name rows (Plain sectors keeps_rows) =
    (name ≡ codes "plain") × (number_in (codes "sectors") rows ≡ Some sectors)
    × IsSet (codes "no-record") rows (not keeps_rows)
IsLineIn name rows (Format image kib forced sure) =
    (name ≡ codes "format") × (first_of (codes "IMAGE") rows ≡ Some image.now)
    × (number_in (codes "kib") rows ≡ Some kib) × IsSet (codes "force") rows forced
    × IsSet (codes "yes") rows sure
IsLineIn name rows (Script kib) =
    (name ≡ codes "script") × (number_in (codes "kib") rows ≡ Some kib)
IsLineIn name rows (Serve asked) =
    (name ≡ codes "serve") × (first_of (codes "IMAGE") rows ≡ Some asked.image.now)
    × IsPlaceIn rows asked.place
    × (number_in (codes "conns") rows ≡ asked.conns) × IsSet (codes "record") rows asked.record
    × (sync_in rows ≡ Some asked.sync)
    × (tidy_in rows ≡ Some asked.tidy)
    × (number_in (codes "max-request") rows ≡ asked.max_request)
    × IsSet (codes "read-only") rows asked.read_only
    × IsSet (codes "verbose") rows asked.verbose
    × IsSet (codes "trust") rows asked.trust
    × (first_of (codes "status") rows ≡ option_map (λ text. text.now) asked.status)
    × IsSet (codes "firm") rows asked.firm
IsLineIn name rows (Status path tells_json) =
    (name ≡ codes "status") × (first_of (codes "PATH") rows ≡ Some path.now)
    × IsSet (codes "json") rows tells_json
IsLineIn name rows (Check image mends tells_json dump) =
    (name ≡ codes "check") × (first_of (codes "IMAGE") rows ≡ Some image.now)
    × IsSet (codes "mend") rows mends × IsSet (codes "json") rows tells_json
    × (first_of (codes "against") rows ≡ option_map (λ text. text.now) dump)
IsLineIn name rows (Unprotect image sure) =
    (name ≡ codes "unprotect") × (first_of (codes "IMAGE") rows ≡ Some image.now)
    × IsSet (codes "yes") rows sure
IsLineIn name rows (Settle image) =
    (name ≡ codes "settle") × (first_of (codes "IMAGE") rows ≡ Some image.now)
IsLineIn name rows (Show image) =
    (name ≡ codes "show") × (first_of (codes "IMAGE") rows ≡ Some image.now)
IsLineIn name rows (Read image range) =
    (name ≡ codes "read") × (first_of (codes "IMAGE") rows ≡ Some image.now)
    × (first_of (codes "sectors") rows ≡ option_map (λ text. text.now) range)
IsLineIn name rows (Write image range firm) =
    (name ≡ codes "write") × (first_of (codes "IMAGE") rows ≡ Some image.now)
    × (first_of (codes "sectors") rows ≡ option_map (λ text. text.now) range)
    × IsSet (codes "firm") rows firm
IsLineIn name rows (Rescue image) =
    (name ≡ codes "rescue") × (first_of (codes "IMAGE") rows ≡ Some image.now)

-- the commands that take the size of a chip: `format` and `script`
abbrev pub TakesSize : Text → Type 0
TakesSize name = (name ≡ codes "format") ⊎ (name ≡ codes "script")

-- the matches are those of a command that takes a size, whose number is this one, in the range of
-- the sizes, and no size
abbrev pub HasOddSizeIn : Text → List Row → ℕ → Type 0
HasOddSizeIn name rows kib = TakesSize name × (number_in (codes "kib") rows ≡ Some kib)
    × IsOddSize kib

-- the words are without fault, and name this command, of whose words these matches were made
pub record Names (words : List Text) (name : Text) (rows : List Row) : Type 0 where
  pub faultless : fault_of norbd_app words ≡ []
  pub command : subcommand_of norbd_app words ≡ Some (name, rows)

-- the line is what the words say
abbrev pub IsLineOf : List Text → Line → Type 0
IsLineOf words line = (name : Text) × (rows : List Row) × Names words name rows
    × IsLineIn name rows line

-- the clock in Hz that a programmer is to set is what the words say after `--spi-hz`
abbrev pub IsClockOf : List Text → Option ℕ → Type 0
IsClockOf words clock = (name : Text) × (rows : List Row) × Names words name rows
    × (number_in (codes "spi-hz") rows ≡ clock)

-- the image of a line `serve` has a name, and so has its socket for a status, where it has one
abbrev pub IsServeNamed : ServeLine → Type 0
IsServeNamed asked = (asked.image.now ≢ []) × IfSome asked.status (λ path. path.now ≢ [])

-- the image or the socket of the line, where it has one, has a name
abbrev pub IsNamed : Line → Type 0
IsNamed (Chip asked) = asked.image.now ≢ []
IsNamed (Plain sectors keeps_rows) = Unit {0}
IsNamed (Format image kib forced sure) = image.now ≢ []
IsNamed (Script kib) = Unit {0}
IsNamed (Serve asked) = IsServeNamed asked
IsNamed (Status path tells_json) = path.now ≢ []
IsNamed (Check image mends tells_json dump) = (image.now ≢ []) × IfSome dump (λ path. path.now ≢ [])
IsNamed (Unprotect image sure) = image.now ≢ []
IsNamed (Settle image) = image.now ≢ []
IsNamed (Show image) = image.now ≢ []
IsNamed (Read image range) = image.now ≢ []
IsNamed (Write image range firm) = image.now ≢ []
IsNamed (Rescue image) = image.now ≢ []

-- the words say a line, with its numbers in their ranges, whose image or socket has no name
abbrev pub HasEmptyName : List Text → Type 0
HasEmptyName words = (line : Line) × IsLineOf words line × IsLineInRange line
    × (IsNamed line → ⊥)

-- the words say `format` or `script`, with this number, in the range of the sizes, and no size
abbrev pub HasOddSize : List Text → ℕ → Type 0
HasOddSize words kib = (name : Text) × (rows : List Row) × Names words name rows
    × HasOddSizeIn name rows kib

-- the matches are those of `serve`, with a word after `--sync` that says no syncing
abbrev pub HasBadSyncIn : Text → List Row → Type 0
HasBadSyncIn name rows = (name ≡ codes "serve") × (sync_in rows ≡ None)

-- the words say `serve`, with such a word
abbrev pub HasBadSync : List Text → Type 0
HasBadSync words = (name : Text) × (rows : List Row) × Names words name rows
    × HasBadSyncIn name rows

-- the matches are those of `serve`, with a word after `--tidy` that says no tidying
abbrev pub HasBadTidyIn : Text → List Row → Type 0
HasBadTidyIn name rows = (name ≡ codes "serve") × (tidy_in rows ≡ None)

-- the words say `serve`, with such a word
abbrev pub HasBadTidy : List Text → Type 0
HasBadTidy words = (name : Text) × (rows : List Row) × Names words name rows
    × HasBadTidyIn name rows

-- the matches are those of `serve`, and say no place to listen at
abbrev pub HasBadPlaceIn : Text → List Row → Type 0
HasBadPlaceIn name rows = (name ≡ codes "serve") × HasNoPlace rows

-- the words say `serve`, and no such place
abbrev pub HasBadPlace : List Text → Type 0
HasBadPlace words = (name : Text) × (rows : List Row) × Names words name rows
    × HasBadPlaceIn name rows
