-- A fault of holding a file is one of replacing it; and what the superblock's first check tells.
use Rattle.std.proofs.Common.{◌≡◌, ◌∙◌, Bool, true, false, List, ℕ, Result, Ok, Err, ap, refl}
use Rattle.std.specs.Prelude.{not, ◌&&◌, ◌||◌, ◌==◌, if◌then◌else◌}
use Rattle.chip_model.specs.declared.geometry.Geometry.{Geometry}
use Rattle.nor_layout.specs.Layouts.{is_layout_known, layout_of}
use Rattle.nor_layout.specs.Superblock.{blocks_in, groups_in, has_name, is_sealed, layout_in, mixed_in}
use Rattle.nor_layout.specs.declared.layout.Layout.{Layout}
use Rattle.nor_layout.specs.declared.layout.Layout.TheVariants as layouts
use Rattle.nor_layout.specs.declared.superblock.SuperError.{SuperError}
use Rattle.nor_layout.specs.declared.superblock.SuperError.TheVariants as refusals
use Rattle.norbd_image.specs.Image.{ComesOfFile, ComesOfHolding, is_formatted}
use Rattle.norbd_image.specs.declared.error.ImageError.{ImageError}
use Rattle.norbd_image.specs.declared.error.ImageError.TheVariants.{OutOfMemory, File, NotAFile, InUse, Formatted, NotEmpty, Refused}

pub holding_is_file : (e : ImageError) → ComesOfHolding e → ComesOfFile e
holding_is_file OutOfMemory h = tt
holding_is_file (File kind) h = tt
holding_is_file NotAFile h = tt
holding_is_file InUse h = tt
holding_is_file Formatted h = absurd h
holding_is_file NotEmpty h = absurd h
holding_is_file (Refused e) h = absurd h

-- whether this is another answer than that the chip isn't formatted
abbrev pub says_formatted : Result Layout SuperError → Bool
says_formatted (Ok layout) = true
says_formatted (Err refusals.NotFormatted) = false
says_formatted (Err refusals.Layout) = true
says_formatted (Err refusals.Geometry) = true

says_both : (n s x y z w : Bool) → says_formatted (if not n || not s then Err refusals.NotFormatted else if x then Err refusals.Layout else if y then Err refusals.Geometry else if z then Ok layouts.Sectors else if w then Ok layouts.Groups else Ok layouts.Mixed) ≡ (n && s)
says_both false s x y z w = refl
says_both true false x y z w = refl
says_both true true true y z w = refl
says_both true true false true z w = refl
says_both true true false false true w = refl
says_both true true false false false true = refl
says_both true true false false false false = refl

pub first_check : (b : List ℕ) (chip : Geometry) (r : Result Layout SuperError) → r ≡ layout_of b chip → says_formatted r ≡ is_formatted b
first_check b chip r e = ap says_formatted e
    ∙ says_both (has_name b) (is_sealed b) (not (is_layout_known b)) (not (blocks_in b == chip.blocks) || not (groups_in b == chip.groups)) (layout_in b == 2) (mixed_in b == 255)
