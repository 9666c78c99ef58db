-- Words that only private functions use: no claim rests on them. Source: own.
use Rattle.std.specs.Prelude.{◌≡◌, ℕ, ◌<◌, ◌==◌, not, Bool, false, List, length, slice_index_or}
use Rattle.std.specs.Prelude.{[], ◌∷◌, Option, None, Some}
use Rattle.chip_model.specs.Geometry.{sector_count}
use Rattle.nor_layout.specs.declared.layout.Layout.{Layout}
use Rattle.sector_slots.specs.Slots.{copies, data_blocks}
use Rattle.sector_rescue.specs.Rescue.{holders, kind_by, newest_of, none_held, said_at}
use Rattle.sector_rescue.specs.declared.doubt.Doubt.{Doubt}
use Rattle.sector_rescue.specs.declared.table.Holders.{Holders}

-- of each data block, whether a committed copy of it is there
pub record AreCopied (layout : Layout) (m : List ℕ) (copied : List Bool) : Type 0 where
  pub size : length copied ≡ data_blocks m
  pub each : (c : ℕ) → c < data_blocks m
      → slice_index_or copied c false ≡ not (copies (kind_by layout m) (data_blocks m) c == 0)

-- of each sector the slots below n that hold it
pub record IsTableBelow (layout : Layout) (m : List ℕ) (n : ℕ) (table : List Holders) : Type 0 where
  pub size : length table ≡ sector_count (length m)
  pub each : (g : ℕ) → g < length table
      → slice_index_or table g none_held ≡ holders (said_at layout m) n g

-- each slot that is held is below n
abbrev pub IsBelow : ℕ → Holders → Type 0
IsBelow n h = (s : ℕ) → newest_of h ≡ Some s → s < n

-- a doubt or none, as a list
abbrev pub list_of : Option Doubt → List Doubt
list_of None = []
list_of (Some doubt) = doubt ∷ []
