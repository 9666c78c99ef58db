-- What a slot says, where its block counts.
use Rattle.std.proofs.Common.{◌≡◌, ℕ, Bool, true, false, List, length, refl}
use Rattle.std.specs.Prelude.{◌/◌, ◌&&◌, not}
use Rattle.chip_model.specs.Geometry.{sector_count}
use Rattle.chip_model.specs.Memory.{byte}
use Rattle.nor_layout.specs.declared.layout.Layout.{Layout}
use Rattle.sector_slots.specs.Slots.{data_blocks, is_counted}
use Rattle.sector_rescue.specs.Rescue.{header_by, kind_by, said_at, said_of, state_bytes}
use Rattle.sector_rescue.specs.declared.slot.Said.TheVariants.{Nothing}

-- where it isn't copied
pub counts-if : (v copied none : Bool) → copied ≡ not none → (not v && not copied) ≡ (not v && none)
counts-if v copied true h = rw h refl
counts-if v copied false h = rw h refl

pub said-nothing : (layout : Layout) (m : List ℕ) (s : ℕ) → is_counted (kind_by layout m) (data_blocks m) (s / 7) ≡ false → said_at layout m s ≡ Nothing
unfolding said_at
said-nothing layout m s h = rw h refl

pub said-counted : (layout : Layout) (m : List ℕ) (s : ℕ) → is_counted (kind_by layout m) (data_blocks m) (s / 7) ≡ true
    → said_at layout m s ≡ said_of (header_by layout m s) (byte (state_bytes layout m s) 0) (sector_count (length m))
unfolding said_at
said-counted layout m s h = rw h refl
