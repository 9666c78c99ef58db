-- What a search of a run, or of several, finds; and what becomes of the bounds.
use Rattle.std.proofs.Common.{◌≡◌, ℕ, ◌+◌, ◌*◌, ◌/◌, ◌<◌, ◌≤◌, List, length, arith, sym, subst, ◌∙◌, inl, inr, MatchOption, Option, Some, None, IfSome, slice_index_or, slice_set, ◌-◌, ◌%◌, ◌⊎◌}
use Rattle.std.proofs.lemmas.List.{get_or-set_other}
use Rattle.std.proofs.lemmas.Grind.{get_or-set_at}
use Rattle.std.proofs.lemmas.Bool.{cases_eq, cases_lt}
use Rattle.sector_stock.specs.declared.index.BlockState.{BlockState}
use Rattle.sector_stock.specs.declared.policy.Wanted.{Wanted}
use Rattle.sector_stock.specs.declared.policy.Wanted.TheVariants as wanteds
use Rattle.sector_stock.specs.Index.{in_block, AreBounds, Counts, in_bounds, bound_row}
use Rattle.sector_stock.specs.Policies.{Wants, HasRow, IsWantedBut, IsNotMore, Improves}

-- a row speaks of the blocks that are wanted
wanted-counts : (wanted : Wanted) (b : BlockState) → HasRow wanted → Wants wanted b → Counts wanted b
wanted-counts wanteds.Free b row h = h
wanted-counts (wanteds.Dead count) b row h = (row.0, row.1, h)
wanted-counts wanteds.Resting b row h = tt

-- a run that isn't looked at
pub improves-bounded : (wanted : Wanted) (r : ℕ) (blocks : List BlockState) (bounds : List ℕ) (from end : ℕ) (best : Option ℕ) → HasRow wanted → AreBounds blocks bounds → from < end → end ≤ length blocks → end ≤ 64 * (from / 64) + 64
    → IfSome best (λ b. IsWantedBut wanted r blocks b) → MatchOption best ⊥ (λ b. (in_block blocks b).erases ≤ in_bounds bounds (bound_row wanted) from) → Improves wanted r blocks from end best best
improves-bounded wanted r blocks bounds from end None row h some low run is bound = absurd bound
improves-bounded wanted r blocks bounds from end (Some b) row h some low run is bound = record {
  is_wanted = is;
  least = λ c over under other wants.
      let p = h wanted c (omega arith) (wanted-counts wanted (in_block blocks c) row wants) in
      let same : c / 64 ≡ from / 64 = omega arith in
      let q : (in_block blocks b).erases ≤ in_bounds bounds (bound_row wanted) c = subst (λ k. (in_block blocks b).erases ≤ slice_index_or bounds (64 * bound_row wanted + k) 0) (sym same) bound in
      omega (arith, p, q);
  older = omega arith;
}

not-more : (blocks : List BlockState) (a b : ℕ) (old : Option ℕ) → (in_block blocks b).erases ≤ (in_block blocks a).erases → IsNotMore blocks a old → IsNotMore blocks b old
not-more blocks a b None p q = tt
not-more blocks a b (Some o) p q = omega (arith, p, q)

-- runs one after the other
pub improves-on : (wanted : Wanted) (r : ℕ) (blocks : List BlockState) (from mid end : ℕ) (old a new : Option ℕ) → Improves wanted r blocks from mid old a → Improves wanted r blocks mid end a new → Improves wanted r blocks from end old new
improves-on wanted r blocks from mid end old None None one two = record {
  older = one.older;
  none = λ c over under other wants. elim (cases_lt c mid) as (λ _. ⊥) [ inl l ↦ one.none c over l other wants | inr g ↦ two.none c g under other wants ];
}
improves-on wanted r blocks from mid end old (Some a) None one two = let e = two.older in absurd (cc)
improves-on wanted r blocks from mid end old None (Some b) one two = record {
  is_wanted = two.is_wanted;
  least = λ c over under other wants. elim (cases_lt c mid) as (λ _. (in_block blocks b).erases ≤ (in_block blocks c).erases) [ inl l ↦ absurd (one.none c over l other wants) | inr g ↦ two.least c g under other wants ];
  older = subst (λ o. IsNotMore blocks b o) (sym one.older) tt;
}
improves-on wanted r blocks from mid end old (Some a) (Some b) one two = record {
  is_wanted = two.is_wanted;
  least = λ c over under other wants. elim (cases_lt c mid) as (λ _. (in_block blocks b).erases ≤ (in_block blocks c).erases) [ inl l ↦ (let p = one.least c over l other wants in let q = two.older in omega (arith, p, q)) | inr g ↦ two.least c g under other wants ];
  older = not-more blocks a b old two.older one.older;
}

-- the blocks of which a row speaks are told by its number
same-row : (wanted other : Wanted) (b : BlockState) → HasRow wanted → bound_row other ≡ bound_row wanted → Counts other b → Counts wanted b
same-row wanteds.Free wanteds.Free b row e h = h
same-row wanteds.Free (wanteds.Dead k) b row e h = let p = h.0 in absurd (omega (arith, p, e))
same-row wanteds.Free wanteds.Resting b row e h = absurd (omega (arith, e))
same-row (wanteds.Dead j) wanteds.Free b row e h = let p = row.0 in absurd (omega (arith, p, e))
same-row (wanteds.Dead j) (wanteds.Dead k) b row e h = (row.0, row.1, h.2 ∙ e)
same-row (wanteds.Dead j) wanteds.Resting b row e h = let p = row.1 in absurd (omega (arith, p, e))
same-row wanteds.Resting other b row e h = tt

row-inside : (wanted : Wanted) (from : ℕ) (bounds : List ℕ) → HasRow wanted → length bounds ≡ 576 → from / 64 < 64 → 64 * bound_row wanted + from / 64 < length bounds
row-inside wanteds.Free from bounds row e l = omega (arith, e, l)
row-inside (wanteds.Dead j) from bounds row e l = let p = row.1 in omega (arith, e, l, p)
row-inside wanteds.Resting from bounds row e l = omega (arith, e, l)

-- the bound of a run that was looked at whole
pub bounds-set : (wanted : Wanted) (blocks : List BlockState) (bounds : List ℕ) (from end least : ℕ) → HasRow wanted → length blocks ≤ 4096 → length bounds ≡ 576 → AreBounds blocks bounds → from < end → end ≤ length blocks → end ≤ 64 * (from / 64) + 64
    → from % 64 ≡ 0 → (end - from ≡ 64) ⊎ (end ≡ length blocks) → ((c : ℕ) → from ≤ c → c < end → Counts wanted (in_block blocks c) → least ≤ (in_block blocks c).erases) → AreBounds blocks (slice_set bounds (64 * bound_row wanted + from / 64) least)
bounds-set wanted blocks bounds from end least row size length-is h some low run whole all below other c inside counts =
    let p = 64 * bound_row other + c / 64 in
    let q = 64 * bound_row wanted + from / 64 in
    elim (cases_eq p q) as (λ _. slice_index_or (slice_set bounds q least) p 0 ≤ (in_block blocks c).erases) [
      | inl e ↦
          let lc : c / 64 < 64 = omega arith in
          let lf : from / 64 < 64 = omega arith in
          let rows : bound_row other ≡ bound_row wanted = omega (arith, e, lc, lf) in
          let runs : c / 64 ≡ from / 64 = omega (arith, e, lc, lf) in
          let over : from ≤ c = omega (arith, runs, whole) in
          let under : c < end = elim all as (λ _. c < end) [ inl a ↦ omega (arith, runs, whole, a) | inr a ↦ omega (arith, a) ] in
          let there : q < length bounds = row-inside wanted from bounds row length-is lf in
          let is : slice_index_or (slice_set bounds q least) p 0 ≡ least = get_or-set_at bounds q p least 0 e there in
          let ok = below c over under (same-row wanted other (in_block blocks c) row rows counts) in
          omega (arith, is, ok)
      | inr ne ↦
          let is : slice_index_or (slice_set bounds q least) p 0 ≡ slice_index_or bounds p 0 = get_or-set_other bounds q p least 0 ne in
          let ok = h other c inside counts in
          omega (arith, is, ok)
    ]
