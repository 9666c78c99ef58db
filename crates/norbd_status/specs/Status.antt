-- What a server tells of itself: in JSON, one object in one line, and for a person. Source: own;
-- RFC 8259 for JSON; NBD proto.md for the names of commands.
use Rattle.std.specs.Prelude.{ℕ, List, [], ◌++◌, codes, Bool, true, false, Option, Some, None}
use Rattle.std.specs.Fmt.{decimal}
use Rattle.norbd_status.specs.declared.status.Commands.{Commands}
use Rattle.norbd_status.specs.declared.status.Status.{Status}
use Rattle.norbd_status.specs.declared.wear.Extremes.{Extremes}
use Rattle.norbd_status.specs.declared.wear.Worn.{Worn}

abbrev pub flag_text : Bool → List ℕ
flag_text true = codes "true"
flag_text false = codes "false"

-- seconds, or null where there is no clock
abbrev pub seconds_text : Option ℕ → List ℕ
seconds_text None = codes "null"
seconds_text (Some seconds) = decimal seconds

-- commands, in all and by kind
abbrev pub commands_text : Commands → List ℕ
commands_text c = codes "{\"all\":" ++ decimal c.all
    ++ codes ",\"read\":" ++ decimal c.read
    ++ codes ",\"write\":" ++ decimal c.write
    ++ codes ",\"trim\":" ++ decimal c.trim
    ++ codes ",\"write_zeroes\":" ++ decimal c.write_zeroes
    ++ codes ",\"flush\":" ++ decimal c.flush
    ++ codes "}"

-- a block, and how often it was erased
abbrev pub worn_text : Worn → List ℕ
worn_text worn = codes "{\"block\":" ++ decimal worn.block
    ++ codes ",\"erases\":" ++ decimal worn.erases
    ++ codes "}"

-- the blocks with the most and the fewest erases, or null where none are counted
abbrev pub extremes_text : Option Extremes → List ℕ
extremes_text None = codes "\"most_worn\":null,\"least_worn\":null"
extremes_text (Some worn) = codes "\"most_worn\":" ++ worn_text worn.most
    ++ codes ",\"least_worn\":" ++ worn_text worn.least

-- the version, the disk, and who is served
abbrev pub begun_line : Status → List ℕ
begun_line s = codes "{\"version\":1,\"sectors\":" ++ decimal s.sectors
    ++ codes ",\"read_only\":" ++ flag_text s.read_only
    ++ codes ",\"seconds\":" ++ seconds_text s.seconds
    ++ codes ",\"connections\":{\"now\":" ++ decimal s.connections
    ++ codes ",\"all\":" ++ decimal s.all_connections

-- the whole line
abbrev pub status_line : Status → List ℕ
status_line s = begun_line s
    ++ codes "},\"commands\":" ++ commands_text s.commands
    ++ codes ",\"errors\":" ++ decimal s.errors
    ++ codes ",\"erases\":" ++ decimal s.erases
    ++ codes "," ++ extremes_text s.worn
    ++ codes "}\n"

-- for a person: whether the disk can be changed, and for how long it has been served
abbrev pub mode_words : Bool → List ℕ
mode_words true = codes ", read-only"
mode_words false = codes ""

abbrev pub seconds_words : Option ℕ → List ℕ
seconds_words None = codes "\n"
seconds_words (Some seconds) = codes ", served for " ++ decimal seconds ++ codes " seconds\n"

-- commands by kind
abbrev pub commands_words : Commands → List ℕ
commands_words c = codes "commands: " ++ decimal c.all
    ++ codes " in all; READ " ++ decimal c.read
    ++ codes ", WRITE " ++ decimal c.write
    ++ codes ", TRIM " ++ decimal c.trim
    ++ codes ", WRITE_ZEROES " ++ decimal c.write_zeroes
    ++ codes ", FLUSH " ++ decimal c.flush
    ++ codes "\n"

-- the data blocks with the most and the fewest erases
abbrev pub extremes_words : Option Extremes → List ℕ
extremes_words None = codes "\n"
extremes_words (Some worn) = codes "; most of block " ++ decimal worn.most.block
    ++ codes ", " ++ decimal worn.most.erases
    ++ codes "; fewest of block " ++ decimal worn.least.block
    ++ codes ", " ++ decimal worn.least.erases
    ++ codes "\n"

-- the disk, and who is served
abbrev pub begun_page : Status → List ℕ
begun_page s = codes "sectors: " ++ decimal s.sectors
    ++ codes "" ++ mode_words s.read_only
    ++ codes "" ++ seconds_words s.seconds
    ++ codes "connections: " ++ decimal s.connections
    ++ codes " now, " ++ decimal s.all_connections

-- the five lines
abbrev pub status_page : Status → List ℕ
status_page s = begun_page s
    ++ codes " in all\n" ++ commands_words s.commands
    ++ codes "errors: " ++ decimal s.errors
    ++ codes "\nerases: " ++ decimal s.erases
    ++ codes "" ++ extremes_words s.worn

-- what is told of a status, to programs or to a person
abbrev pub told_status : Bool → Status → List ℕ
told_status true s = status_line s
told_status false s = status_page s
