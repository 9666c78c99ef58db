-- The chip: what it holds, and what an operation in progress will make of it. Source: datasheet of
-- the W25Q128JV, "Status Registers", "Write Enable (06h)", "Page Program (02h)", "Sector Erase
-- (20h)", "Write Status Register (01h)"; JESD216 for the SFDP bytes. Own: that a program in
-- progress is kept apart from the memory until it completes.
use Rattle.std.specs.Prelude.{◌≡◌, ℕ, ◌+◌, ◌-◌, ◌/◌, ◌%◌, Bool, false, true, ◌&&◌, if◌then◌else◌}
use Rattle.std.specs.Prelude.{nat_lt, ◌==◌, List, length, bit_and, IfOk}
use Rattle.sfdp.specs.Params.{params_of}
use Rattle.chip_model.specs.Memory.{byte, changed, cleared, erased}

-- what is in progress
pub data Operation : Type 0 where
  Idle : Operation
  -- a page program: at most 256 bytes (of a longer frame the last ones), and the address at which
  -- the first of them falls
  Programming : (at : ℕ) (bytes : List ℕ) → Operation
  -- an erase of so many bytes
  Erasing : (at size : ℕ) → Operation
  -- a write of status register 1
  Setting : (value : ℕ) → Operation

pub record Chip : Type 0 where
  pub memory : List ℕ
  -- 1 for each bit of the memory that is weak: after the next power-on it may read otherwise. Where
  -- there is no byte of these, no bit is weak
  pub weak : List ℕ
  pub sfdp : List ℕ
  -- bits 2 to 7 of status register 1 (BP0, BP1, BP2, TB, SEC, SRP), as a number below 64
  pub protection : ℕ
  pub status2 : ℕ
  pub status3 : ℕ
  -- bit 1 of status register 1, WEL
  pub enabled : Bool
  -- bit 0 of status register 1, BUSY, is 0 where nothing is in progress
  pub operation : Operation
  -- how many status reads of the operation in progress have answered BUSY 1, counted up to 65,535
  pub polls : ℕ
  pub powered : Bool

-- the SFDP bytes are 256, and where they are a table at all, it is the table of a chip of this size
pub record IsChip (c : Chip) : Type 0 where
  pub sfdp : length c.sfdp ≡ 256
  pub size : IfOk (params_of c.sfdp) (λ p. p.bytes ≡ length c.memory)

-- which byte of a page program that begins at this address falls on the place i: after the page's
-- last byte comes its first
abbrev pub offset_in_page : ℕ → ℕ → ℕ
offset_in_page at i = (i % 256 + 256 - at % 256) % 256

-- in the page of the address, where a byte falls on the place: what op makes of the old byte and of
-- that one
abbrev pub page_place : (ℕ → ℕ → ℕ) → ℕ → List ℕ → ℕ → ℕ → ℕ
page_place op at bytes i x = if (i / 256 == at / 256) && nat_lt (offset_in_page at i) (length bytes)
    then op x (byte bytes (offset_in_page at i)) else x

-- a page program: each byte becomes old AND new
unfoldable pub programmed : List ℕ → ℕ → List ℕ → List ℕ
programmed m at bytes = changed (page_place bit_and at bytes) m

abbrev pub is_idle : Operation → Bool
is_idle Idle = true
is_idle _ = false

-- a status write
abbrev pub is_setting : Operation → Bool
is_setting (Setting value) = true
is_setting _ = false

-- the memory once the operation has completed
abbrev pub memory_after : Operation → List ℕ → List ℕ
memory_after (Programming at bytes) m = programmed m at bytes
memory_after (Erasing at size) m = erased m at size
memory_after _ m = m

-- the weak bits once the operation has completed: a program makes the 0 bits of its data firm, and
-- no other; an erase makes its unit firm
abbrev pub firmed : Operation → List ℕ → List ℕ
firmed (Programming at bytes) weak = programmed weak at bytes
firmed (Erasing at size) weak = cleared weak at size
firmed _ weak = weak

-- bits 2 to 7 of status register 1 once the operation has completed
abbrev pub protection_after : Operation → ℕ → ℕ
protection_after (Setting value) p = value / 4
protection_after _ p = p

-- the operation in progress has completed: its change is in the memory or in the register, what it
-- makes firm is, and WEL is 0
abbrev pub completed : Chip → Chip
completed c = record c {
  memory = memory_after c.operation c.memory;
  weak = firmed c.operation c.weak;
  protection = protection_after c.operation c.protection;
  enabled = false;
  operation = Idle;
  polls = 0;
}
