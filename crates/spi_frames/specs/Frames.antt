-- The bytes of frames with an address. Source: datasheet of the W25Q128JV, the instruction set
-- table.
use Rattle.std.specs.Prelude.{ℕ, ◌/◌, ◌%◌, List, ◌∷◌}
use Rattle.spi_frames.specs.declared.frames.Register.{Register}
use Rattle.spi_frames.specs.declared.frames.Register.TheVariants as registers

-- a code, an address in three bytes, the most significant first, and what follows
abbrev pub addressed : ℕ → ℕ → List ℕ → List ℕ
addressed code at rest = code ∷ (at / 65536) ∷ (at / 256 % 256) ∷ (at % 256) ∷ rest

-- 05h, 35h, 15h
abbrev pub status_code : Register → ℕ
status_code registers.First = 5
status_code registers.Second = 53
status_code registers.Third = 21
