-- What the first eight bytes of a data block say of it: a block of seven slots (layout 2), or a
-- block with a group of seven sectors (layout 1). Source: own.
use Rattle.std.specs.Prelude.{ℕ, Bool, true, false, ◌&&◌, if◌then◌else◌, ◌==◌, nat_lt, List}
use Rattle.byteorder.specs.Endian.{little_from}
use Rattle.chip_model.specs.Memory.{byte}
use Rattle.nor_layout.specs.declared.header.Header.{Header}
use Rattle.nor_layout.specs.declared.header.Header.TheVariants as headers
use Rattle.nor_layout.specs.declared.kind.Kind.{Kind}
use Rattle.nor_layout.specs.declared.kind.Kind.TheVariants.{Plain, Void, Committed, Settled}
use Rattle.nor_layout.specs.declared.kind.Kind.TheVariants.{Group, DeadGroup}
use Rattle.nor_layout.specs.declared.kind.Kind.TheVariants.{SpoiltGroup, Unknown}
use Rattle.nor_layout.specs.Headers.{header_of}

-- bytes 4 to 7: state, FFh, and the number of the block that was copied, low byte first
abbrev pub mark_of : List ℕ → Kind
mark_of b =
    if (byte b 4 == 255) && (byte b 5 == 255) && (byte b 6 == 255) && (byte b 7 == 255) then Plain
    else
    if (byte b 4 == 255) then Void else
    if (byte b 4 == 254) then Void else
    if (byte b 4 == 252) then Committed (little_from 6 2 b) else
    if (byte b 4 == 248) then Settled else
    Unknown

-- so many groups have sectors whose numbers, 7g to 7g + 6, fit 16 bits: more than any chip has
abbrev pub group_limit : ℕ
group_limit = 9362

-- what the header of a group block says of it; one without a generation, or of a group that no chip
-- has, is corrupt where it counts
abbrev pub group_kind : Header → Kind
group_kind headers.Free = Unknown
group_kind (headers.Live tag) = if nat_lt tag.number group_limit then Group tag
    else SpoiltGroup
group_kind headers.NoGeneration = SpoiltGroup
group_kind headers.Dead = DeadGroup

-- a block of slots begins with four FFh; any other is a block of a group, and these are its header
abbrev pub kind_of : List ℕ → Kind
kind_of b = if (byte b 0 == 255) && (byte b 1 == 255) && (byte b 2 == 255) && (byte b 3 == 255)
    then mark_of b else group_kind (header_of b)

-- whether its slots were written one by one
abbrev pub is_plain : Kind → Bool
is_plain Plain = true
is_plain Void = false
is_plain (Committed source) = false
is_plain Settled = false
is_plain (Group tag) = false
is_plain DeadGroup = false
is_plain SpoiltGroup = false
is_plain Unknown = false

-- whether a block is of a group, live or dead
abbrev pub is_group : Kind → Bool
is_group Plain = false
is_group Void = false
is_group (Committed source) = false
is_group Settled = false
is_group (Group tag) = true
is_group DeadGroup = true
is_group SpoiltGroup = true
is_group Unknown = false
