-- What stands behind a place in two buffers.
use Rattle.std.proofs.Common.{◌≡◌, ℕ, ◌+◌, ◌-◌, ◌≤◌, List, drop, sym, ap, ◌∙◌, arith}
use Rattle.std.proofs.lemmas.List.{drop-drop}

-- buffers that are the same from one place on are so from a later one on
pub same_behind : (at later : ℕ) (xs ys : List ℕ) → at ≤ later → drop at xs ≡ drop at ys → drop later xs ≡ drop later ys
same_behind at later xs ys le same =
    let to : at + (later - at) ≡ later = omega arith in
    let both = sym (drop-drop (later - at) at xs) ∙ ap (drop (later - at)) same ∙ drop-drop (later - at) at ys in
    rw to at both
