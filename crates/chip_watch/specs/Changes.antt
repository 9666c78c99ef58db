-- The change that an operation in progress makes, by the places that it writes. Source: own, over
-- the model of `chip_model`; the frames are those of the datasheet of the W25Q128JV.
use Rattle.std.specs.Prelude.{ℕ, ◌*◌, ◌/◌, ◌%◌, Bool, false, List, [], ◌∷◌}
use Rattle.chip_model.specs.Chip.{Operation, Idle, Programming, Erasing, Setting}
use Rattle.chip_model.specs.Frames.{Command, Set, Program, Erase}
use Rattle.chip_model.specs.Memory.{is_within}
use Rattle.chip_watch.specs.declared.change.Change.{Change}
use Rattle.chip_watch.specs.declared.change.Change.TheVariants as makes

-- the page of a program's address, an erase's unit, or bits 2 to 7 of status register 1
abbrev pub change_of : Operation → Change
change_of Idle = makes.None
change_of (Programming at bytes) = makes.Page (at / 256 * 256)
change_of (Erasing at size) = makes.Unit at size
change_of (Setting value) = makes.Status value

-- place i of the memory is one that the change writes
abbrev pub is_changing : Change → ℕ → Bool
is_changing makes.None i = false
is_changing (makes.Page at) i = is_within at 256 i
is_changing (makes.Unit at size) i = is_within at size i
is_changing (makes.Status value) i = false

-- a code and an address of three bytes
abbrev pub with_place : ℕ → ℕ → List ℕ
with_place code at = code ∷ at / 65536 % 256 ∷ at / 256 % 256 ∷ at % 256 ∷ []

-- the change that a command makes on a chip of so many bytes, where it starts an operation
abbrev pub change_by : Command → ℕ → Change
change_by (Set value) n = makes.Status value
change_by (Program at bytes) n = makes.Page (at % n / 256 * 256)
change_by (Erase at size) n = makes.Unit (at % n / size * size) size
change_by _ n = makes.None
