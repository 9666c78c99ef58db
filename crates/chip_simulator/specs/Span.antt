-- Which places of the memory an operation writes when it completes. Source: own, over the model of
-- `chip_model`.
use Rattle.std.specs.Prelude.{ℕ, ◌*◌, ◌/◌, Option, None, Some}
use Rattle.chip_model.specs.Chip.{Operation, Idle, Programming, Erasing, Setting}

-- the first of them, and how many: the page of a program's address, or an erase's unit; nothing
-- else writes the memory
abbrev pub span_of : Operation → Option (ℕ × ℕ)
span_of Idle = None
span_of (Programming at bytes) = Some (at / 256 * 256, 256)
span_of (Erasing at size) = Some (at, size)
span_of (Setting value) = None
