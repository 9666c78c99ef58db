use Rattle.std.proofs.Common.{◌≡◌, ℕ, inl, inr, slice_index_or}
use Rattle.std.proofs.lemmas.Bool.{cases_lt}
use Rattle.std.proofs.lemmas.List.{get_or-replicate, get_or_past, length-replicate}
use Rattle.std.specs.Prelude.{replicate}
use Rattle.sector_stock.proofs.least.no_bounds.Goals as goal

zeros-at : (p n : ℕ) → ◌≡◌ {A = ℕ} (slice_index_or (replicate n 0) p 0) 0
zeros-at p n = elim (cases_lt p n) [
  | inl l ↦ get_or-replicate n p 0 0 l
  | inr g ↦ get_or_past (replicate n 0) p 0 (simp length-replicate g)
]

pub returns : goal.returns
returns c p = zeros-at p 576
