-- A record of a log. Source: own; the sum is the one of SQLite's write-ahead log.
use Rattle.std.specs.Prelude.{ℕ, suc, ◌+◌, ◌*◌, ◌&&◌, ◌==◌, Bool, false, nat_lt}
use Rattle.std.specs.Prelude.{if◌then◌else◌, List, [], ◌∷◌, length, take, drop, replicate}
use Rattle.byteorder.specs.Endian.{little_from}
use Rattle.sqlite_wal.specs.Format.{checksum}
use Rattle.block_device.specs.Contents.{replaced}
use Rattle.disk_log.specs.declared.record.Head.{Head}

-- a change: from the sector `first` on the disk has these bytes, which are whole sectors
pub record Change : Type 0 where
  pub first : ℕ
  pub bytes : List ℕ

-- the contents of a disk after a change
abbrev pub with_change : List ℕ → Change → List ℕ
with_change contents change = replaced contents (512 * change.first) change.bytes

-- the contents of a disk after these changes, the first of them first
unfoldable pub replayed : List Change → List ℕ → List ℕ
replayed [] contents = contents
replayed (change ∷ changes) contents = replayed changes (with_change contents change)

-- two numbers of four bytes each: a sum. All numbers have the least significant byte first.
abbrev pub sum_at : ℕ → List ℕ → ℕ × ℕ
sum_at i b = (little_from i 4 b, little_from (i + 4) 4 b)

-- Bytes 0 to 3: 0 where the bytes of the sectors follow the head, 1 where they are zeros, 2 where a
-- checkpoint follows.
abbrev pub kind_in : List ℕ → ℕ
kind_in b = little_from 0 4 b

-- bytes 4 to 7: the first sector; bytes 8 to 11: how many sectors, or blocks of a checkpoint. Bytes
-- 12 to 15 say nothing.
abbrev pub first_in : List ℕ → ℕ
first_in b = little_from 4 4 b

abbrev pub count_in : List ℕ → ℕ
count_in b = little_from 8 4 b

-- bytes 16 to 23: the record's sum
abbrev pub sum_in : List ℕ → ℕ × ℕ
sum_in b = (little_from 16 4 b, little_from 20 4 b)

-- how many bytes follow the head of 24, by the kind and the count
abbrev pub body_len_of : ℕ → ℕ → ℕ
body_len_of kind count =
    if kind == 0 then 512 * count else (if kind == 2 then 8 + 4104 * count else 0)

abbrev pub body_len : List ℕ → ℕ
body_len b = body_len_of (kind_in b) (count_in b)

abbrev pub record_len : List ℕ → ℕ
record_len b = 24 + body_len b

-- the bytes that follow the head
abbrev pub body_in : List ℕ → List ℕ
body_in b = take (body_len b) (drop 24 b)

-- the change that a record says
abbrev pub record_change : ℕ → ℕ → ℕ → List ℕ → Change
record_change kind first count body = record {
  first = first;
  bytes = if kind == 0 then body else replicate (512 * count) 0;
}

abbrev pub change_in : List ℕ → Change
change_in b = record_change (kind_in b) (first_in b) (count_in b) (body_in b)

-- the sum over the first 16 bytes and those that follow the head, which goes on from the sum of the
-- record before
abbrev pub sum_over : ℕ × ℕ → List ℕ → ℕ × ℕ
sum_over before b = checksum false (checksum false before (take 16 b)) (body_in b)

-- whether all of a record is there, behind one with this sum, and its sum is right
abbrev pub is_whole : ℕ × ℕ → List ℕ → Bool
is_whole before b =
    nat_lt 23 (length b) && nat_lt (23 + body_len b) (length b)
    && (sum_in b).0 == (sum_over before b).0 && (sum_in b).1 == (sum_over before b).1

-- whether bytes begin with a change of a disk of n sectors, on which its sectors are
abbrev pub begins_record : ℕ → ℕ × ℕ → List ℕ → Bool
begins_record n before b =
    is_whole before b && nat_lt (kind_in b) 2 && nat_lt (first_in b + count_in b) (suc n)

-- whether bytes begin with a checkpoint
abbrev pub begins_checkpoint : ℕ × ℕ → List ℕ → Bool
begins_checkpoint before b = is_whole before b && kind_in b == 2

-- what its head says
abbrev pub head_in : List ℕ → Head
head_in b = record {
  kind = kind_in b;
  first = first_in b;
  count = count_in b;
  sum = sum_in b;
}
