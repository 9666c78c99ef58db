-- The parameters that a list of SFDP bytes gives, or why it gives none. Source: JESD216 for the
-- header, the parameter headers and the words of the basic table; the order of the rules is own.
use Rattle.std.specs.Prelude.{ℕ, zero, suc, ◌+◌, ◌*◌, ◌/◌, ◌%◌, ◌^◌, Bool, not, ◌&&◌, ◌||◌}
use Rattle.std.specs.Prelude.{if◌then◌else◌, nat_lt, ◌==◌, List, length, slice_index, Option, Some}
use Rattle.std.specs.Prelude.{None, Result, Ok, Err}
use Rattle.sfdp.specs.declared.params.Params.{Params}
use Rattle.sfdp.specs.declared.error.SfdpError.{SfdpError}
use Rattle.sfdp.specs.declared.error.SfdpError.TheVariants as refusals

-- `53 46 44 50`, the letters SFDP
abbrev pub has_signature : List ℕ → Bool
has_signature b = (slice_index b 0 == 83) && (slice_index b 1 == 70) && (slice_index b 2 == 68)
    && (slice_index b 3 == 80)

-- how many parameter headers there are: byte 6 is their number less one
abbrev pub headers : List ℕ → ℕ
headers b = slice_index b 6 + 1

-- where the parameter header k begins; a header has 8 bytes, and the first stands at 8
abbrev pub header_at : ℕ → ℕ
header_at k = 8 + 8 * k

-- the id of the basic table: low byte 00h, high byte FFh
abbrev pub is_basic : List ℕ → ℕ → Bool
is_basic b k = (slice_index b (header_at k) == 0) && (slice_index b (header_at k + 7) == 255)

-- of n headers from the header k on, the first with the basic id
abbrev pub first_basic : List ℕ → ℕ → ℕ → Option ℕ
first_basic b k zero = None
first_basic b k (suc n) = if is_basic b k then Some k else first_basic b (k + 1) n

-- the length of a header's table, in words of 4 bytes
abbrev pub words_of : List ℕ → ℕ → ℕ
words_of b k = slice_index b (header_at k + 3)

-- where a header's table begins: three bytes, the least significant first
abbrev pub pointer_of : List ℕ → ℕ → ℕ
pointer_of b k = slice_index b (header_at k + 4) + 256 * slice_index b (header_at k + 5)
    + 65536 * slice_index b (header_at k + 6)

-- the number that the four bytes from a place on make, the least significant first
abbrev pub number_at : List ℕ → ℕ → ℕ
number_at b i = slice_index b i + 256 * slice_index b (i + 1) + 65536 * slice_index b (i + 2)
    + 16777216 * slice_index b (i + 3)

-- word 2 of the table at `at`; where bit 31 is clear, the chip's size in bits less one
abbrev pub density : List ℕ → ℕ → ℕ
density b at = number_at b (at + 4)

-- bit 31 is clear, and the size is a multiple of 64 KiB (524,288 bits) from 64 KiB to 16 MiB
-- (134,217,728 bits)
abbrev pub is_size : ℕ → Bool
is_size d = nat_lt d (2 ^ 31) && ((d + 1) % 524288 == 0) && nat_lt d 134217728

-- word 11, bits 7 to 4: the page has two to this power of bytes
abbrev pub page_exponent : List ℕ → ℕ → ℕ
page_exponent b at = slice_index b (at + 40) / 16

-- words 8 and 9 are four pairs, a size exponent and a code: one of them is this one
abbrev pub is_pair : List ℕ → ℕ → ℕ → ℕ → ℕ → Bool
is_pair b at exponent code k = (slice_index b (at + 28 + 2 * k) == exponent)
    && (slice_index b (at + 29 + 2 * k) == code)

abbrev pub has_pair : List ℕ → ℕ → ℕ → ℕ → Bool
has_pair b at exponent code = is_pair b at exponent code 0 || is_pair b at exponent code 1
    || is_pair b at exponent code 2 || is_pair b at exponent code 3

-- word 1: bits 1 and 0 are 01, bits 15 to 8 are the code 20h; and a pair has it for 4 KiB
abbrev pub has_small_erase : List ℕ → ℕ → Bool
has_small_erase b at = (slice_index b at % 4 == 1) && (slice_index b (at + 1) == 32)
    && has_pair b at 12 32

-- word 1, bits 18 and 17: 0 where addresses have three bytes only
abbrev pub address_bits : List ℕ → ℕ → ℕ
address_bits b at = slice_index b (at + 2) / 2 % 4

-- what an accepted table says; its page size is 256 bytes, its small erase is 20h
abbrev pub params_at : List ℕ → ℕ → Params
params_at b at = record {
  bytes = (density b at + 1) / 8;
  page = 256;
  small = 32;
  large = (if has_pair b at 16 216 then Some 216 else None);
}

-- the rules on a table of so many words at `at`: the first that fails decides
abbrev pub table_params : List ℕ → ℕ → ℕ → Result Params SfdpError
table_params b at words =
    if nat_lt words 9 then Err refusals.Short else
    if nat_lt (length b) (at + 4 * words) then Err refusals.Short else
    if not (is_size (density b at)) then Err refusals.Density else
    if not (nat_lt words 11) && not (page_exponent b at == 8) then Err refusals.PageSize else
    if not (has_small_erase b at) then Err refusals.NoSmallErase else
    if not (address_bits b at == 0) then Err refusals.AddressBytes else
    Ok (params_at b at)

-- the rule that there is a basic table
abbrev pub basic_params : List ℕ → Option ℕ → Result Params SfdpError
basic_params b None = Err refusals.NoBasicTable
basic_params b (Some k) = table_params b (pointer_of b k) (words_of b k)

-- the parameters of a whole list of bytes: the first rule that fails decides
unfoldable pub params_of : List ℕ → Result Params SfdpError
params_of b =
    if nat_lt (length b) 8 then Err refusals.Short else
    if not (has_signature b) then Err refusals.Signature else
    if nat_lt (length b) (header_at (headers b)) then Err refusals.Short else
    basic_params b (first_basic b 0 (headers b))
