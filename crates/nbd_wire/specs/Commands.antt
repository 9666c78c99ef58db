-- Commands, and which of them are refused. Source: NBD proto.md; own is the order of the checks.
use Rattle.std.specs.Prelude.{ℕ, ◌+◌, ◌*◌, ◌%◌, ◌==◌, ◌&&◌, ◌||◌, not, Bool, true, false, nat_lt}
use Rattle.std.specs.Prelude.{List, [], ◌∷◌, Option, Some, None, if◌then◌else◌}
use Rattle.std.specs.Int.RustNames.{bit_and}
use Rattle.nbd_wire.specs.Numbers.{CMD_READ, CMD_WRITE, CMD_DISC, CMD_FLUSH, CMD_TRIM}
use Rattle.nbd_wire.specs.Numbers.{CMD_WRITE_ZEROES, EPERM, EINVAL, ENOSPC, MINIMUM_BLOCK_LEN}
use Rattle.nbd_wire.specs.Numbers.{MAX_LEN}
use Rattle.nbd_wire.specs.declared.command.Request.{Request}
use Rattle.nbd_wire.specs.declared.export.Export.{Export}
use Rattle.nbd_wire.specs.declared.command.Command.{Command}
use Rattle.nbd_wire.specs.declared.command.CommandKind.{CommandKind}
use Rattle.nbd_wire.specs.declared.command.CommandKind.TheVariants.{Read, Write, Disconnect, Flush}
use Rattle.nbd_wire.specs.declared.command.CommandKind.TheVariants.{Trim, WriteZeroes}
use Rattle.nbd_wire.specs.declared.command.CommandKind.TheVariants.{Unknown}

-- what a disk of so many sectors is served as where nothing else is asked for (own)
abbrev pub default_export : ℕ → Export
default_export sectors =
    record { sectors = sectors; told_len = MAX_LEN; max_len = MAX_LEN; read_only = false }

-- what the numbers on the wire mean (NBD proto.md; all others are not served)
abbrev pub command_kind : ℕ → CommandKind
command_kind n = if n == CMD_READ then Read else if n == CMD_WRITE then Write else if n == CMD_DISC
    then Disconnect else if n == CMD_FLUSH then Flush else if n == CMD_TRIM then Trim
    else if n == CMD_WRITE_ZEROES then WriteZeroes else Unknown n

-- the command of a request: its fields, and the meaning of its number
abbrev pub command_in : Request → Command
command_in r = record {
  kind = command_kind r.kind;
  flags = r.flags;
  cookie = r.cookie;
  offset = r.offset;
  length = r.length;
}

abbrev pub is_read : CommandKind → Bool
is_read Read = true
is_read _ = false

abbrev pub is_write : CommandKind → Bool
is_write Write = true
is_write _ = false

abbrev pub is_flush : CommandKind → Bool
is_flush Flush = true
is_flush _ = false

-- the commands that make their range zeros
abbrev pub is_zeroing : CommandKind → Bool
is_zeroing Trim = true
is_zeroing WriteZeroes = true
is_zeroing _ = false

-- The commands to which the bytes of their range are lent: a WRITE's payload, the room for a READ's
-- data.
abbrev pub lends_data : CommandKind → Bool
lends_data kind = is_read kind || is_write kind

-- so their length has a limit
abbrev pub has_limit : CommandKind → Bool
has_limit kind = lends_data kind

-- the commands that have a range of sectors
abbrev pub has_range : CommandKind → Bool
has_range kind = lends_data kind || is_zeroing kind

-- the commands that change the disk, which a read-only export refuses (NBD proto.md)
abbrev pub changes_disk : CommandKind → Bool
changes_disk kind = is_write kind || is_zeroing kind

-- They touch the chip: a loss of power or a slow operation may meet them. A FLUSH finds nothing to
-- do.
abbrev pub touches_chip : CommandKind → Bool
touches_chip kind = has_range kind

-- the commands that are answered by a reply with error 0 where nothing is wrong with them
abbrev pub is_served : CommandKind → Bool
is_served kind = has_range kind || is_flush kind

abbrev pub is_disconnect : CommandKind → Bool
is_disconnect Disconnect = true
is_disconnect _ = false

-- the flags that a command may have: FUA, which is bit 0, and WRITE_ZEROES also NO_HOLE, bit 1
abbrev pub allowed_flags : CommandKind → ℕ
allowed_flags WriteZeroes = 3
allowed_flags _ = 1

-- no other is set
abbrev pub has_allowed_flags : Command → Bool
has_allowed_flags c = bit_and (allowed_flags c.kind) c.flags.0 == c.flags.0

-- the error of a range that ends past the end of the disk
abbrev pub past_end_error : CommandKind → ℕ
past_end_error Write = ENOSPC
past_end_error WriteZeroes = ENOSPC
past_end_error _ = EINVAL

abbrev pub is_multiple : ℕ → Bool
is_multiple n = n % MINIMUM_BLOCK_LEN == 0

-- The request table, row by row: whether the check fails for this export, and the error then. The
-- sum is unbounded. The errors are those of NBD proto.md, the order is own.
abbrev pub checks : Command → Export → List (Bool × ℕ)
checks c export =
    (not (is_served c.kind), EINVAL)
    ∷ (export.read_only && changes_disk c.kind, EPERM)
    ∷ (not (has_allowed_flags c), EINVAL)
    ∷ (is_flush c.kind && not (c.offset == 0 && c.length == 0), EINVAL)
    ∷ (
      has_range c.kind && (c.length == 0 || not (is_multiple c.offset)
          || not (is_multiple c.length)),
      EINVAL,
    )
    ∷ (has_limit c.kind && nat_lt export.max_len c.length, EINVAL)
    ∷ (
      has_range c.kind && nat_lt (MINIMUM_BLOCK_LEN * export.sectors) (c.offset + c.length),
      past_end_error c.kind,
    )
    ∷ []

-- the error of the first row that fails
abbrev pub first_failing : List (Bool × ℕ) → Option ℕ
first_failing [] = None
first_failing (row ∷ rows) = if row.0 then Some row.1 else first_failing rows

-- the error that refuses a command of this export
unfoldable pub judge_of : Command → Export → Option ℕ
judge_of c export = first_failing (checks c export)
