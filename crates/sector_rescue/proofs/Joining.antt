-- Lists that grow slot by slot, and sector by sector.
use Rattle.std.proofs.Common.{◌≡◌, ℕ, ◌+◌, List, [], ◌++◌, refl, ap, add-one}
use Rattle.nor_layout.specs.declared.layout.Layout.{Layout}
use Rattle.sector_rescue.specs.Doubts.{doubts_below, doubts_in}
use Rattle.flash_disk.specs.Contents.{joined}
use Rattle.sector_rescue.specs.Rescue.{said_at}

pub joined-none : (f : ℕ → List ℕ) → joined f 0 ≡ []
unfolding joined
joined-none f = refl

pub joined-more : (f : ℕ → List ℕ) (s : ℕ) → joined f (s + 1) ≡ joined f s ++ f s
unfolding joined
joined-more f s = ap (λ n. joined f n) (add-one s)

pub doubts-none : (layout : Layout) (m : List ℕ) → doubts_below layout m 0 ≡ []
unfolding doubts_below
doubts-none layout m = refl

pub doubts-more : (layout : Layout) (m : List ℕ) (s : ℕ) → doubts_below layout m (s + 1) ≡ doubts_below layout m s ++ doubts_in layout m s (said_at layout m s)
unfolding doubts_below
doubts-more layout m s = ap (λ n. doubts_below layout m n) (add-one s)
