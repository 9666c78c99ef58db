-- How a chip's bytes are laid out as a disk. Source: own.
use Rattle.std.specs.Prelude.{◌≡◌, ℕ, ◌-◌, ◌*◌, ◌/◌, ◌%◌, ◌≤◌}

-- a multiple of 64 KiB from 64 KiB to 16 MiB
pub record IsChipSize (bytes : ℕ) : Type 0 where
  pub whole : bytes % 65536 ≡ 0
  pub least : 65536 ≤ bytes
  pub most : bytes ≤ 16777216

-- blocks of 4 KiB: the superblock, three journals, and data blocks
abbrev pub block_count : ℕ → ℕ
block_count bytes = bytes / 4096

-- groups of seven sectors: one for each data block but an eighth
abbrev pub group_count : ℕ → ℕ
group_count bytes = 7 * (block_count bytes - 4) / 8

-- sectors of 512 bytes
abbrev pub sector_count : ℕ → ℕ
sector_count bytes = 7 * group_count bytes
