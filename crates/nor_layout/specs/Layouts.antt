-- Which layout the superblock says. Source: own.
use Rattle.std.specs.Prelude.{ℕ, Bool, not, ◌&&◌, ◌||◌, if◌then◌else◌, ◌==◌, List, Result, Ok, Err}
use Rattle.chip_model.specs.declared.geometry.Geometry.{Geometry}
use Rattle.nor_layout.specs.declared.layout.Layout.{Layout}
use Rattle.nor_layout.specs.declared.layout.Layout.TheVariants.{Groups, Sectors, Mixed}
use Rattle.nor_layout.specs.declared.superblock.SuperError.{SuperError}
use Rattle.nor_layout.specs.declared.superblock.SuperError.TheVariants as refusals
use Rattle.nor_layout.specs.Superblock.{has_name, is_sealed, layout_in, blocks_in, groups_in}
use Rattle.nor_layout.specs.Superblock.{mixed_in}

-- Which layout the superblock of a chip of these counts says; the first check that fails decides.
-- Byte 8 is 1 where each block holds a group of seven sectors, 2 where it has seven slots of one
-- sector each. A chip of the first kind on which blocks of both are is mixed: byte 15 says so.
abbrev pub is_layout_known : List ℕ → Bool
is_layout_known b = (layout_in b == 2)
    || ((layout_in b == 1) && ((mixed_in b == 255) || (mixed_in b == 254)))

abbrev pub layout_of : List ℕ → Geometry → Result Layout SuperError
layout_of b chip =
    if not (has_name b) || not (is_sealed b) then Err refusals.NotFormatted else
    if not (is_layout_known b) then Err refusals.Layout else
    if not (blocks_in b == chip.blocks) || not (groups_in b == chip.groups)
    then Err refusals.Geometry else
    if layout_in b == 2 then Ok Sectors else
    if mixed_in b == 255 then Ok Groups else
    Ok Mixed
