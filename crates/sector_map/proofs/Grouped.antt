-- A chip of layout 1 in its own words is one that a mount accepts.
use Rattle.std.proofs.Common.{◌≡◌, ℕ, Bool, true, false, List, length, ap, Ok, Err}
use Rattle.std.specs.Prelude.{◌==◌, ◌||◌, not, if◌then◌else◌}
use Rattle.chip_model.specs.declared.geometry.Geometry.{Geometry}
use Rattle.nor_layout.specs.Layouts.{layout_of}
use Rattle.nor_layout.specs.Superblock.{has_name, is_sealed, blocks_in, groups_in, layout_in}
use Rattle.nor_layout.specs.declared.layout.Layout.TheVariants.{Groups, Sectors}
use Rattle.nor_layout.specs.declared.superblock.SuperError.TheVariants as refusals
use Rattle.sector_slots.proofs.OldLaws.{old-sound}
use Rattle.sector_map.specs.Laws.{GroupChipsAreMountable}
use Rattle.sector_map.proofs.GroupRoom.{has-room}
use Rattle.sector_map.specs.Maps.{is_layout, geometry_of}

two-cases : (p q : Bool) → (if p then Err refusals.NotFormatted else if q then Err refusals.Geometry else Ok Sectors) ≡ Ok Groups → ⊥
two-cases true q e = cc
two-cases false true e = cc
two-cases false false e = cc

not-two : (m : List ℕ) (chip : Geometry) → layout_of m chip ≡ Ok Groups → layout_in m ≡ 2 → ⊥
not-two m chip e two =
    let was : (if not (has_name m) || not (is_sealed m) then Err refusals.NotFormatted else if not (blocks_in m == chip.blocks) || not (groups_in m == chip.groups) then Err refusals.Geometry else Ok Sectors) ≡ Ok Groups = rw two at e in
    two-cases (not (has_name m) || not (is_sealed m)) (not (blocks_in m == chip.blocks) || not (groups_in m == chip.groups)) was

pub group-mountable : GroupChipsAreMountable
group-mountable m size g =
    let s = old-sound m size (λ two. not-two m (geometry_of (length m)) g.superblock two) g.groups (has-room m size g.groups) g.clean in
    (record { superblock = ap is_layout g.superblock; store = record { journals = g.journals; slots = s.0 } }, s.1)
