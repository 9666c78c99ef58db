-- What is doubtful of the sectors that slots tell. Source: own.
use Rattle.std.specs.Prelude.{ℕ, zero, suc, if◌then◌else◌, List, [], ◌∷◌, ◌++◌}
use Rattle.std.specs.Str.{bytes_eq}
use Rattle.nor_layout.specs.declared.layout.Layout.{Layout}
use Rattle.nor_layout.specs.Layouts.{is_layout_known}
use Rattle.sector_slots.specs.Slots.{slot_count}
use Rattle.sector_rescue.specs.Rescue.{layout_told, payload, rescued_at, said_at}
use Rattle.sector_rescue.specs.declared.doubt.Doubt.{Doubt}
use Rattle.sector_rescue.specs.declared.doubt.Doubt.TheVariants as doubts
use Rattle.sector_rescue.specs.declared.slot.Said.{Said}
use Rattle.sector_rescue.specs.declared.slot.Said.TheVariants.{Nothing, Doubtful, Holds}

-- of slot s, which says this: that it can't be read or wasn't committed, or that it is whole and
-- holds other bytes of its sector than those that are given
abbrev pub doubts_in : Layout → List ℕ → ℕ → Said → List Doubt
doubts_in layout m s Nothing = []
doubts_in layout m s Doubtful = doubts.Unread s ∷ []
doubts_in layout m s (Holds tag) = if bytes_eq (payload m s) (rescued_at layout m tag.number)
    then [] else doubts.Differs s tag.number ∷ []

-- of the slots below n, in their order
unfoldable pub doubts_below : Layout → List ℕ → ℕ → List Doubt
doubts_below layout m zero = []
doubts_below layout m (suc s) = doubts_below layout m s
    ++ doubts_in layout m s (said_at layout m s)

-- that no layout is told
abbrev pub layout_doubts : List ℕ → List Doubt
layout_doubts m = if is_layout_known m then [] else doubts.Layout (layout_told m) ∷ []

abbrev pub doubts_of : List ℕ → List Doubt
doubts_of m = layout_doubts m ++ doubts_below (layout_told m) m (slot_count m)
