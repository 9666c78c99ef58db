-- Options and their replies. Source: NBD proto.md; own are the limit of 8,192 bytes, the one export
-- `flash`, and that INFO and GO are told all that there is to tell, whatever they ask for.
use Rattle.std.specs.Prelude.{ℕ, ◌+◌, ◌*◌, ◌==◌, ◌&&◌, ◌||◌, not, Bool, nat_lt, nat_le, nat_eq}
use Rattle.std.specs.Prelude.{List, [], ◌++◌, length, take, drop, replicate, codes, Option, Some}
use Rattle.std.specs.Prelude.{None, if◌then◌else◌}
use Rattle.std.specs.Cmp.Lexicographic.{pointwise}
use Rattle.byteorder.specs.Endian.{big_bytes, big_number}
use Rattle.nbd_wire.specs.Numbers.{OPTION_MAGIC, OPTION_REPLY_MAGIC, OPT_EXPORT_NAME, OPT_ABORT}
use Rattle.nbd_wire.specs.Numbers.{OPT_LIST, OPT_INFO, OPT_GO, REP_ACK, REP_SERVER, REP_INFO}
use Rattle.nbd_wire.specs.Numbers.{REP_ERR_UNSUP, REP_ERR_INVALID, REP_ERR_UNKNOWN, REP_ERR_TOO_BIG}
use Rattle.nbd_wire.specs.Numbers.{INFO_EXPORT, INFO_BLOCK_SIZE, MINIMUM_BLOCK_LEN}
use Rattle.nbd_wire.specs.Numbers.{PREFERRED_BLOCK_LEN, MAX_OPTION_LEN}
use Rattle.nbd_wire.specs.Numbers.{EXPORT_NAME_ZEROES_LEN, TRANSMISSION_FLAGS}
use Rattle.nbd_wire.specs.Numbers.{READ_ONLY_TRANSMISSION_FLAGS}
use Rattle.nbd_wire.specs.declared.export.Export.{Export as Exported}
use Rattle.nbd_wire.specs.declared.option.OptionHead.{OptionHead}
use Rattle.nbd_wire.specs.declared.option.OptionCase.{OptionCase}
use Rattle.nbd_wire.specs.declared.option.OptionCase.TheVariants.{Export, NoExport, Abort, Listed}
use Rattle.nbd_wire.specs.declared.option.OptionCase.TheVariants.{Described, TooBig, Invalid}
use Rattle.nbd_wire.specs.declared.option.OptionCase.TheVariants.{UnknownName, Unsupported}
use Rattle.nbd_wire.specs.declared.phase.Phase.{Phase}
use Rattle.nbd_wire.specs.declared.phase.Phase.TheVariants.{Negotiating, Transmitting, Closed}

-- the option whose head begins here, where the magic is right
unfoldable pub option_at : List ℕ → Option OptionHead
option_at bytes = if big_number 8 bytes == OPTION_MAGIC
    then Some record { option = big_number 4 (drop 8 bytes); length = big_number 4 (drop 12 bytes) }
    else None

-- the 20 bytes of the head of a reply to an option, for so many bytes of content
unfoldable pub option_reply_head : ℕ → ℕ → ℕ → List ℕ
option_reply_head option type len =
    big_bytes 8 OPTION_REPLY_MAGIC ++ big_bytes 4 option ++ big_bytes 4 type ++ big_bytes 4 len

-- a reply to an option
abbrev pub option_reply_bytes : ℕ → ℕ → List ℕ → List ℕ
option_reply_bytes option type content = option_reply_head option type (length content) ++ content

-- the names of the one export: `flash` and the empty name
abbrev pub is_known : List ℕ → Bool
is_known name = nat_eq (length name) 0 || pointwise nat_eq name (codes "flash")

-- The content of INFO and GO: a name's length in 4 bytes, the name, a count in 2 bytes, and that
-- many numbers of 2 bytes. Whether these lengths add up to all of it.
abbrev pub adds_up : List ℕ → Bool
adds_up content = let name_len = big_number 4 content in
    nat_le 6 (length content) && length content == 4 + name_len + 2
    + 2 * big_number 2 (drop (4 + name_len) content)

-- the name in the content of INFO and GO
abbrev pub name_of : List ℕ → List ℕ
name_of content = take (big_number 4 content) (drop 4 content)

-- The case of an option, by its head and its content, which is as long as the head says. The
-- length's limit is looked at first.
abbrev pub case_of : OptionHead → List ℕ → OptionCase
case_of o content =
    if nat_lt MAX_OPTION_LEN o.length
    then (if o.option == OPT_EXPORT_NAME then NoExport else TooBig)
    else if o.option == OPT_EXPORT_NAME then (if is_known content then Export else NoExport)
    else if o.option == OPT_ABORT then Abort
    else if o.option == OPT_LIST then (if o.length == 0 then Listed else Invalid)
    else if o.option == OPT_INFO || o.option == OPT_GO
    then (if not (adds_up content) then Invalid else if not (is_known (name_of content))
    then UnknownName else Described)
    else Unsupported

-- the phase after an option: EXPORT_NAME and GO begin the transmission where the name is known,
-- ABORT and any other name in EXPORT_NAME close
abbrev pub phase_after : OptionCase → ℕ → Bool → Phase
phase_after Export option no_zeroes = Transmitting
phase_after NoExport option no_zeroes = Closed
phase_after Abort option no_zeroes = Closed
phase_after Described option no_zeroes =
    if option == OPT_GO then Transmitting else Negotiating no_zeroes
phase_after TooBig option no_zeroes = Negotiating no_zeroes
phase_after Listed option no_zeroes = Negotiating no_zeroes
phase_after Invalid option no_zeroes = Negotiating no_zeroes
phase_after UnknownName option no_zeroes = Negotiating no_zeroes
phase_after Unsupported option no_zeroes = Negotiating no_zeroes

-- what clients are told of what they may send: nothing that changes a read-only export
abbrev pub transmission_flags : Bool → ℕ
transmission_flags read_only =
    if read_only then READ_ONLY_TRANSMISSION_FLAGS else TRANSMISSION_FLAGS

-- the size of the disk in bytes, and the transmission flags
abbrev pub size_bytes : Exported → List ℕ
size_bytes export =
    big_bytes 8 (MINIMUM_BLOCK_LEN * export.sectors)
    ++ big_bytes 2 (transmission_flags export.read_only)

-- the contents of replies
abbrev pub server_content : List ℕ
server_content = big_bytes 4 5 ++ codes "flash"

abbrev pub export_content : Exported → List ℕ
export_content export = big_bytes 2 INFO_EXPORT ++ size_bytes export

abbrev pub block_size_content : ℕ → List ℕ
block_size_content told_len = big_bytes 2 INFO_BLOCK_SIZE ++ big_bytes 4 MINIMUM_BLOCK_LEN
    ++ big_bytes 4 PREFERRED_BLOCK_LEN ++ big_bytes 4 told_len

-- the bytes that answer an option, by its case
unfoldable pub reply_in_case : OptionCase → ℕ → Bool → Exported → List ℕ
reply_in_case Export option no_zeroes export =
    size_bytes export ++ (if no_zeroes then [] else replicate EXPORT_NAME_ZEROES_LEN 0)
reply_in_case NoExport option no_zeroes export = []
reply_in_case Abort option no_zeroes export = option_reply_bytes option REP_ACK []
reply_in_case Listed option no_zeroes export =
    option_reply_bytes option REP_SERVER server_content ++ option_reply_bytes option REP_ACK []
reply_in_case Described option no_zeroes export =
    option_reply_bytes option REP_INFO (export_content export)
    ++ option_reply_bytes option REP_INFO (block_size_content export.told_len)
    ++ option_reply_bytes option REP_ACK []
reply_in_case TooBig option no_zeroes export = option_reply_bytes option REP_ERR_TOO_BIG []
reply_in_case Invalid option no_zeroes export = option_reply_bytes option REP_ERR_INVALID []
reply_in_case UnknownName option no_zeroes export = option_reply_bytes option REP_ERR_UNKNOWN []
reply_in_case Unsupported option no_zeroes export = option_reply_bytes option REP_ERR_UNSUP []
