-- The counts of erases, and what they say of the blocks that are chosen.
use Rattle.std.proofs.Common.{◌≡◌, ℕ, ◌<◌, ◌≤◌, List, length, sym, ap, ◌∙◌, subst, arith, inl, inr}
use Rattle.std.proofs.lemmas.Bool.{cases_eq}
use Rattle.sector_slots.specs.Slots.{slot_at, data_blocks, kind_at}
use Rattle.sector_stock.specs.declared.index.SlotState.{SlotState}
use Rattle.sector_stock.specs.declared.index.BlockState.{BlockState}
use Rattle.sector_stock.specs.declared.given.Copied.{Copied}
use Rattle.sector_stock.specs.declared.policy.Wanted.TheVariants as wanteds
use Rattle.std.specs.Prelude.{◌/◌}
use Rattle.sector_stock.specs.Index.{in_block, IsListed, BlocksMoved, Marked, one_dead_more, one_free_fewer}
use Rattle.sector_stock.specs.Policies.{IsLeastWorn}
use Rattle.sector_stock.proofs.Even.{once-moved}
use Rattle.sector_stock.specs.Takes.{IsErasedOnce, KeepsErases, CopiesLeastWorn, MovesLeastWorn, dead_in}
use Rattle.sector_stock.specs.Index.{erases_of}

-- a block was copied
pub counted-moved : (s t : ℕ) (m : List ℕ) (slots : List SlotState) (blocks blocks' : List BlockState) → IsListed slots blocks (slot_at m) (kind_at m) (data_blocks m) → (in_block blocks s).erases < 65536 → BlocksMoved s t blocks blocks' → IsErasedOnce (data_blocks m) s (erases_of blocks) (erases_of blocks')
counted-moved s t m slots blocks blocks' listed fits moved = once-moved s t (data_blocks m) blocks blocks' listed.block_size fits moved

-- of the blocks with as many dead slots, the one that is copied was erased least
pub copies-least : (s r r' : ℕ) (c : Copied) (m : List ℕ) (slots : List SlotState) (blocks : List BlockState) → IsListed slots blocks (slot_at m) (kind_at m) (data_blocks m) → s < data_blocks m
    → ((d : ℕ) → d < length blocks → (in_block blocks d).dead ≡ (in_block blocks s).dead → (in_block blocks s).erases ≤ (in_block blocks d).erases) → c.source ≡ s → c.target ≡ r → r' ≡ s → CopiesLeastWorn (erases_of blocks) r r' c m
copies-least s r r' c m slots blocks listed low least is to next =
    let n = listed.block_size in
    let own = (listed.each_block s low).dead in
    record {
      least = λ d inside same.
          let other = (listed.each_block d inside).dead in
          let e = ap (λ k. dead_in m k) is in
          let p = least d (omega (arith, inside, n)) (other ∙ (same ∙ (e ∙ sym own))) in
          let q = ap (λ k. erases_of blocks k) is in
          omega (arith, p, q);
      target = to;
      next = next ∙ sym is;
    }

-- of the blocks whose sectors rest
pub moves-least : (s n : ℕ) (m : List ℕ) (slots : List SlotState) (blocks : List BlockState) → IsListed slots blocks (slot_at m) (kind_at m) (data_blocks m) → IsLeastWorn wanteds.Resting n blocks (length blocks) s → MovesLeastWorn (erases_of blocks) n s m
moves-least s n m slots blocks listed h =
    let size = listed.block_size in
    let low = h.number in
    let here : s < data_blocks m = omega (arith, low, size) in
    let own = listed.each_block s here in
    let free = own.free in
    let dead = own.dead in
    let few = h.is_wanted.1 in
    record {
      rests = (sym own.group ∙ h.is_wanted.0, omega (arith, free, dead, few));
      other = h.other;
      least = λ c inside other rests.
          let its = listed.each_block c inside in
          let f = its.free in
          let d = its.dead in
          let few2 = rests.1 in
          h.least c (omega (arith, inside, size)) other (its.group ∙ rests.0, omega (arith, f, d, few2));
    }

-- a slot became dead, or live
pub counted-dead : (w n : ℕ) (state : SlotState) (slots slots' : List SlotState) (blocks blocks' : List BlockState) → length blocks ≡ n → Marked w state (one_dead_more (in_block blocks (w / 7))) slots slots' blocks blocks' → KeepsErases n (erases_of blocks) (erases_of blocks')
counted-dead w n state slots slots' blocks blocks' size marked c low = elim (cases_eq c (w / 7)) as (λ _. erases_of blocks' c ≡ erases_of blocks c) [
  | inl e ↦ subst (λ a. erases_of blocks' a ≡ erases_of blocks a) (sym e) (ap (λ b. b.erases) marked.its_block)
  | inr ne ↦ ap (λ b. b.erases) (marked.other_blocks c (omega (arith, low, size)) ne)
]

pub counted-live : (w n : ℕ) (state : SlotState) (slots slots' : List SlotState) (blocks blocks' : List BlockState) → length blocks ≡ n → Marked w state (one_free_fewer (in_block blocks (w / 7))) slots slots' blocks blocks' → KeepsErases n (erases_of blocks) (erases_of blocks')
counted-live w n state slots slots' blocks blocks' size marked c low = elim (cases_eq c (w / 7)) as (λ _. erases_of blocks' c ≡ erases_of blocks c) [
  | inl e ↦ subst (λ a. erases_of blocks' a ≡ erases_of blocks a) (sym e) (ap (λ b. b.erases) marked.its_block)
  | inr ne ↦ ap (λ b. b.erases) (marked.other_blocks c (omega (arith, low, size)) ne)
]
