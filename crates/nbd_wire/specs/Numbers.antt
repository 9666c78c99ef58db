-- The numbers of the protocol, by the names that proto.md gives them without `NBD_`.
-- Source: NBD proto.md; own are the sizes at the end.
use Rattle.std.specs.Prelude.{ℕ}

-- ---- lengths of heads in bytes

-- the client's flags
abbrev pub CLIENT_FLAGS_LEN : ℕ
CLIENT_FLAGS_LEN = 4

-- the head of an option: magic, option, length of its data
abbrev pub OPTION_LEN : ℕ
OPTION_LEN = 16

-- the head of a request: magic, flags, command, cookie, offset, length
abbrev pub REQUEST_LEN : ℕ
REQUEST_LEN = 28

-- the head of a simple reply: magic, error, cookie
abbrev pub REPLY_LEN : ℕ
REPLY_LEN = 16

-- the zero bytes that end the answer to EXPORT_NAME where the client did not set NO_ZEROES
abbrev pub EXPORT_NAME_ZEROES_LEN : ℕ
EXPORT_NAME_ZEROES_LEN = 124

-- ---- magics

-- 4E42444D41474943h, `NBDMAGIC` in ASCII: begins the greeting
abbrev pub GREETING_MAGIC : ℕ
GREETING_MAGIC = 5639144782019643715

-- 49484156454F5054h, `IHAVEOPT` in ASCII: follows it there, and begins an option
abbrev pub OPTION_MAGIC : ℕ
OPTION_MAGIC = 5280542401877725268

-- 0003E889045565A9h: begins a reply to an option
abbrev pub OPTION_REPLY_MAGIC : ℕ
OPTION_REPLY_MAGIC = 1100100111001001

-- 25609513h: begins a request
abbrev pub REQUEST_MAGIC : ℕ
REQUEST_MAGIC = 627086611

-- 67446698h: begins a simple reply
abbrev pub REPLY_MAGIC : ℕ
REPLY_MAGIC = 1732535960

-- ---- flags

-- of the greeting: FIXED_NEWSTYLE (bit 0) and NO_ZEROES (bit 1)
abbrev pub GREETING_FLAGS : ℕ
GREETING_FLAGS = 3

-- 016Dh, of the export: HAS_FLAGS (bit 0), SEND_FLUSH (2), SEND_FUA (3), SEND_TRIM (5),
-- SEND_WRITE_ZEROES (6) and CAN_MULTI_CONN (8)
abbrev pub TRANSMISSION_FLAGS : ℕ
TRANSMISSION_FLAGS = 365

-- 010Fh, of a read-only export: READ_ONLY (1) beside HAS_FLAGS (0), SEND_FLUSH (2), SEND_FUA (3)
-- and CAN_MULTI_CONN (8)
abbrev pub READ_ONLY_TRANSMISSION_FLAGS : ℕ
READ_ONLY_TRANSMISSION_FLAGS = 271

-- ---- options

abbrev pub OPT_EXPORT_NAME : ℕ
OPT_EXPORT_NAME = 1

abbrev pub OPT_ABORT : ℕ
OPT_ABORT = 2

abbrev pub OPT_LIST : ℕ
OPT_LIST = 3

abbrev pub OPT_INFO : ℕ
OPT_INFO = 6

abbrev pub OPT_GO : ℕ
OPT_GO = 7

-- ---- types of replies to options; those of errors have bit 31

abbrev pub REP_ACK : ℕ
REP_ACK = 1

abbrev pub REP_SERVER : ℕ
REP_SERVER = 2

abbrev pub REP_INFO : ℕ
REP_INFO = 3

-- 80000001h
abbrev pub REP_ERR_UNSUP : ℕ
REP_ERR_UNSUP = 2147483649

-- 80000003h
abbrev pub REP_ERR_INVALID : ℕ
REP_ERR_INVALID = 2147483651

-- 80000006h
abbrev pub REP_ERR_UNKNOWN : ℕ
REP_ERR_UNKNOWN = 2147483654

-- 80000009h
abbrev pub REP_ERR_TOO_BIG : ℕ
REP_ERR_TOO_BIG = 2147483657

-- ---- types of information about an export

abbrev pub INFO_EXPORT : ℕ
INFO_EXPORT = 0

abbrev pub INFO_BLOCK_SIZE : ℕ
INFO_BLOCK_SIZE = 3

-- ---- commands

abbrev pub CMD_READ : ℕ
CMD_READ = 0

abbrev pub CMD_WRITE : ℕ
CMD_WRITE = 1

abbrev pub CMD_DISC : ℕ
CMD_DISC = 2

abbrev pub CMD_FLUSH : ℕ
CMD_FLUSH = 3

abbrev pub CMD_TRIM : ℕ
CMD_TRIM = 4

abbrev pub CMD_WRITE_ZEROES : ℕ
CMD_WRITE_ZEROES = 6

-- ---- errors

-- a command that would change a read-only export
abbrev pub EPERM : ℕ
EPERM = 1

-- a command whose run failed
abbrev pub EIO : ℕ
EIO = 5

-- a command for which no memory was left
abbrev pub ENOMEM : ℕ
ENOMEM = 12

-- a command that is refused for its form, and a READ or TRIM past the end
abbrev pub EINVAL : ℕ
EINVAL = 22

-- a WRITE or WRITE_ZEROES past the end
abbrev pub ENOSPC : ℕ
ENOSPC = 28

-- ---- sizes in bytes, which are own

-- the minimum block size, as it is told to the client: a sector; offsets and lengths of commands
-- are multiples of it
abbrev pub MINIMUM_BLOCK_LEN : ℕ
MINIMUM_BLOCK_LEN = 512

-- the length that serves best, as it is told to the client: an erase block of the chip
abbrev pub PREFERRED_BLOCK_LEN : ℕ
PREFERRED_BLOCK_LEN = 4096

-- the largest length of a READ or WRITE where nothing else is asked for
abbrev pub MAX_LEN : ℕ
MAX_LEN = 65536

-- the largest length of an option's data that is looked at
abbrev pub MAX_OPTION_LEN : ℕ
MAX_OPTION_LEN = 8192
