-- How many slots are free, by the blocks of the index.
use Rattle.std.proofs.Common.{◌≡◌, ℕ, zero, suc, ◌+◌, ◌*◌, ◌≤◌, Bool, List, refl, sym, ap, ◌∙◌, subst, arith}
use Rattle.erase_journal.specs.Places.{how_many}
use Rattle.sector_slots.proofs.CopyLaws.{how_many-zero, how_many-suc}
use Rattle.sector_slots.specs.Slots.{Slot}
use Rattle.nor_layout.specs.declared.kind.Kind.{Kind}
use Rattle.sector_stock.specs.declared.index.SlotState.{SlotState}
use Rattle.sector_stock.specs.declared.index.BlockState.{BlockState}
use Rattle.sector_stock.specs.Index.{is_free_slot, tally, in_block, IsListed}
use Rattle.sector_stock.specs.IndexSteps.{free_below}

pub below-none : (blocks : List BlockState) → free_below blocks 0 ≡ 0
unfolding free_below
below-none blocks = refl

pub below-more : (blocks : List BlockState) (n : ℕ) → free_below blocks (n + 1) ≡ (in_block blocks n).free + free_below blocks n
unfolding free_below
below-more blocks n = let e : suc n ≡ n + 1 = omega arith in subst (λ k. free_below blocks k ≡ (in_block blocks n).free + free_below blocks n) e refl

-- the places behind the first n
how_many-behind : (p : ℕ → Bool) (n k : ℕ) → how_many p (n + k) ≡ how_many (λ i. p (n + i)) k + how_many p n
how_many-behind p n zero =
    let e : n + 0 ≡ n = omega arith in
    let z = how_many-zero (λ i. p (n + i)) in
    ap (λ a. how_many p a) e ∙ omega (arith, z)
how_many-behind p n (suc k) =
    let e : n + suc k ≡ suc (n + k) = omega arith in
    let rest = how_many-behind p n k in
    let one = how_many-suc p (n + k) in
    let own = how_many-suc (λ i. p (n + i)) k in
    ap (λ a. how_many p a) e ∙ omega (arith, rest, one, own)

pub below-counts : (slots : List SlotState) (blocks : List BlockState) (f : ℕ → Slot) (kind : ℕ → Kind) (n k : ℕ) → IsListed slots blocks f kind n → k ≤ n → free_below blocks k ≡ how_many (λ s. is_free_slot (f s)) (7 * k)
unfolding tally
below-counts slots blocks f kind n zero h low = below-none blocks ∙ sym (how_many-zero (λ s. is_free_slot (f s)))
below-counts slots blocks f kind n (suc k) h low =
    let rest = below-counts slots blocks f kind n k h (omega (arith, low)) in
    let own = (h.each_block k (omega (arith, low))).free in
    let more = below-more blocks k in
    let behind = how_many-behind (λ s. is_free_slot (f s)) (7 * k) 7 in
    let e : 7 * suc k ≡ 7 * k + 7 = omega arith in
    let q : suc k ≡ k + 1 = omega arith in
    ap (λ a. free_below blocks a) q ∙ (more ∙ (omega (arith, rest, own, behind) ∙ sym (ap (λ a. how_many (λ s. is_free_slot (f s)) a) e)))
