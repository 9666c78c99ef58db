-- What the simulator leaves of an interrupted operation, by a mask of eight bits. Source: own.
use Rattle.std.specs.Prelude.{ℕ, ◌-◌, ◌/◌, false, List, bit_and, bit_or}
use Rattle.chip_model.specs.Memory.{changed, fill_place}
use Rattle.chip_model.specs.Chip.{Chip, Operation, Idle, Programming, Erasing, Setting, page_place}
use Rattle.chip_model.specs.Cut.{weakened}

-- the bits of the new byte where the mask has 1, those of the old byte where it has 0
abbrev pub by_mask : ℕ → ℕ → ℕ → ℕ
by_mask mask old new = bit_or (bit_and old (255 - mask)) (bit_and new mask)

-- a programmed byte, interrupted
abbrev pub torn_byte : ℕ → ℕ → ℕ → ℕ
torn_byte mask old bits = by_mask mask old (bit_and old bits)

-- a page program, interrupted
unfoldable pub half_programmed : ℕ → List ℕ → ℕ → List ℕ → List ℕ
half_programmed mask m at bytes = changed (page_place (torn_byte mask) at bytes) m

-- a unit whose bytes are all the same
unfoldable pub filled : ℕ → List ℕ → ℕ → ℕ → List ℕ
filled v m at size = changed (fill_place v at size) m

-- of a program each bit of the page by the mask; an erase's unit is filled with the mask
abbrev pub torn_memory : ℕ → Operation → List ℕ → List ℕ
torn_memory mask (Programming at bytes) m = half_programmed mask m at bytes
torn_memory mask (Erasing at size) m = filled mask m at size
torn_memory mask _ m = m

-- of a status write bits 2 to 7 by the mask's bits 2 to 7
abbrev pub torn_protection : ℕ → Operation → ℕ → ℕ
torn_protection mask (Setting value) p = by_mask (mask / 4) p (value / 4)
torn_protection mask _ p = p

-- the chip that a loss of power leaves
abbrev pub torn_by : ℕ → Chip → Chip
torn_by mask c = record c {
  memory = torn_memory mask c.operation c.memory;
  weak = weakened c.operation c.memory c.weak;
  protection = torn_protection mask c.operation c.protection;
  enabled = false;
  operation = Idle;
  polls = 0;
  powered = false;
}
