-- A checkpoint: the blocks of 4,096 bytes in which an image is to change. Source: own.
use Rattle.std.specs.Prelude.{◌≡◌, ◌⊎◌, ℕ, zero, suc, ◌+◌, ◌-◌, ◌*◌, ◌/◌, ◌%◌, ◌^◌, ◌<◌, ◌≤◌}
use Rattle.std.specs.Prelude.{nat_lt, false, ◌++◌}
use Rattle.std.specs.Prelude.{if◌then◌else◌, List, length, take, drop, slice_index}
use Rattle.byteorder.specs.Endian.{little_from}
use Rattle.sqlite_wal.specs.Format.{checksum}
use Rattle.block_device.specs.Contents.{replaced}
use Rattle.disk_log.specs.Records.{count_in, sum_at}

-- A block takes 4,104 bytes: its number in the image, four bytes that say nothing, its bytes.
abbrev pub entry_number : List ℕ → ℕ
entry_number b = little_from 0 4 b

abbrev pub bytes_of_entry : List ℕ → List ℕ
bytes_of_entry b = take 4096 (drop 8 b)

-- the image with a block in its place; a block that the image doesn't have says nothing
abbrev pub with_block : List ℕ → List ℕ → List ℕ
with_block image b = if nat_lt (4096 * entry_number b + 4095) (length image)
    then replaced image (4096 * entry_number b) (bytes_of_entry b)
    else image

-- the image with so many blocks in their places
unfoldable pub with_blocks : ℕ → List ℕ → List ℕ → List ℕ
with_blocks zero b image = image
with_blocks (suc k) b image = with_blocks k (drop 4104 b) (with_block image b)

-- one of so many blocks has this number and these bytes
unfoldable pub HasBlock : ℕ → List ℕ → ℕ → List ℕ → Type 0
HasBlock zero b number bytes = ⊥
HasBlock (suc k) b number bytes = ((entry_number b ≡ number) × (bytes_of_entry b ≡ bytes))
    ⊎ HasBlock k (drop 4104 b) number bytes

-- Of a record that is a checkpoint: the first 8 bytes behind its head are the sum of the image's
-- bytes once its blocks are placed, and the blocks follow.
abbrev pub placed_in : List ℕ → List ℕ → List ℕ
placed_in b image = with_blocks (count_in b) (drop 32 b) image

abbrev pub image_sum_in : List ℕ → ℕ × ℕ
image_sum_in b = sum_at 24 b

-- the sum of an image's bytes
abbrev pub image_sum : List ℕ → ℕ × ℕ
image_sum image = checksum false (0, 0) image

-- all bytes but n from a place on are the same
pub record KeepsOthers (at n : ℕ) (old new : List ℕ) : Type 0 where
  pub size : length new ≡ length old
  pub before : (i : ℕ) → i < at → slice_index new i ≡ slice_index old i
  pub behind : (i : ℕ) → at + n ≤ i → slice_index new i ≡ slice_index old i

-- An image of so many bytes can be settled: it is whole blocks of 4,096 bytes, and the number of
-- one has four bytes.
pub record IsImageLen (n : ℕ) : Type 0 where
  pub blocks : n % 4096 ≡ 0
  pub few : n < 2 ^ 32

-- these bytes with one entry more, of a block with this number and these bytes
abbrev pub HasEntry : ℕ → List ℕ → List ℕ → List ℕ → Type 0
HasEntry number block old new = (head : List ℕ) × (length head ≡ 8) × (entry_number head ≡ number)
    × (new ≡ old ++ (head ++ block))

-- What follows the head of a checkpoint after which an image has the bytes `is`, where it has
-- `was`: the sum of these bytes, and blocks.
pub record IsCheckpointBody (was is body : List ℕ) : Type 0 where
  pub len : 8 + 4104 * ((length body - 8) / 4104) ≡ length body
  pub few : (length body - 8) / 4104 < 2 ^ 32
  pub sum : sum_at 0 body ≡ image_sum is
  pub blocks : with_blocks ((length body - 8) / 4104) (drop 8 body) was ≡ is
