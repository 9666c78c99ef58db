-- What the server sends first. Source: NBD proto.md.
use Rattle.std.specs.Prelude.{ℕ, List, ◌++◌}
use Rattle.byteorder.specs.Endian.{big_bytes}
use Rattle.nbd_wire.specs.Numbers.{GREETING_MAGIC, OPTION_MAGIC, GREETING_FLAGS}

-- two magics, and 16 bits of flags: FIXED_NEWSTYLE and NO_ZEROES
unfoldable pub greeting_bytes : List ℕ
greeting_bytes = big_bytes 8 GREETING_MAGIC ++ big_bytes 8 OPTION_MAGIC
    ++ big_bytes 2 GREETING_FLAGS
