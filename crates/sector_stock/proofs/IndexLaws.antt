-- The index follows the slots: a slot that is written, and one that is retired.
use Rattle.std.proofs.Common.{◌≡◌, ◌≢◌, ℕ, zero, suc, ◌+◌, ◌-◌, ◌*◌, ◌<◌, Bool, true, false, List, sym, ap, ◌∙◌, subst, arith, inl, inr, if◌then◌else◌}
use Rattle.std.specs.Prelude.{◌/◌, ◌%◌, slice_index_or}
use Rattle.std.proofs.lemmas.Bool.{cases_eq}
use Rattle.erase_journal.specs.Places.{how_many}
use Rattle.nor_layout.specs.declared.kind.Kind.{Kind}
use Rattle.sector_slots.specs.Slots.{Slot, Free, Dead, IsLive}
use Rattle.sector_slots.specs.Sectors.{OthersKept}
use Rattle.sector_slots.proofs.CopyLaws.{how_many-suc, how_many-same}
use Rattle.sector_stock.specs.declared.index.SlotState.{SlotState}
use Rattle.sector_stock.specs.declared.index.SlotState.TheVariants as states
use Rattle.sector_stock.specs.declared.index.BlockState.{BlockState}
use Rattle.sector_stock.specs.Index.{state_of, is_free_slot, is_dead, is_plain, is_live_group, tally, Tallies, in_block, IsListed, Marked, one_dead_more, one_free_fewer}

-- one place changes
how_many-change : (p q : ℕ → Bool) (n i : ℕ) → i < n → ((k : ℕ) → k < n → k ≢ i → q k ≡ p k)
    → how_many q n + (if p i then 1 else 0) ≡ how_many p n + (if q i then 1 else 0)
how_many-change p q zero i low same = absurd (omega arith)
how_many-change p q (suc n) i low same = grind (arith, how_many-suc p n, how_many-suc q n, how_many-change p q n i, how_many-same p q n, same)

-- the tally of another block, and that of the block of slot w
tally-other : (test : Slot → Bool) (f f' : ℕ → Slot) (n w c : ℕ) → OthersKept (7 * n) w f f' → c < n → c ≢ w / 7 → tally test f' c ≡ tally test f c
unfolding tally
tally-other test f f' n w c only low other =
    how_many-same (λ i. test (f' (7 * c + i))) (λ i. test (f (7 * c + i))) 7 (λ i h. ap test (only.each (7 * c + i) (omega arith) (λ e. other (omega (arith, e, h)))))

tally-here : (test : Slot → Bool) (f f' : ℕ → Slot) (n w : ℕ) → OthersKept (7 * n) w f f' → w < 7 * n
    → tally test f' (w / 7) + (if test (f w) then 1 else 0) ≡ tally test f (w / 7) + (if test (f' w) then 1 else 0)
unfolding tally
tally-here test f f' n w only low =
    let here : 7 * (w / 7) + w % 7 ≡ w = omega arith in
    subst (λ v. how_many (λ i. test (f' (7 * (w / 7) + i))) 7 + (if test (f v) then 1 else 0) ≡ how_many (λ i. test (f (7 * (w / 7) + i))) 7 + (if test (f' v) then 1 else 0)) here
    (how_many-change (λ i. test (f (7 * (w / 7) + i))) (λ i. test (f' (7 * (w / 7) + i))) 7 (w % 7) (omega arith)
    (λ i h ne. ap test (only.each (7 * (w / 7) + i) (omega arith) (λ e. ne (omega (arith, e, h))))))

-- the index, once slot w has changed: its state, and its block's numbers
listed-one : (w n : ℕ) (f f' : ℕ → Slot) (kind kind' : ℕ → Kind) (slots slots' : List SlotState) (blocks blocks' : List BlockState) (state : SlotState) (b : BlockState) → w < 7 * n → OthersKept (7 * n) w f f'
    → ((d : ℕ) → d < n → kind' d ≡ kind d) → Marked w state b slots slots' blocks blocks' → state ≡ state_of (f' w) → Tallies b f' kind' (w / 7)
    → IsListed slots blocks f kind n → IsListed slots' blocks' f' kind' n
listed-one w n f f' kind kind' slots slots' blocks blocks' state b low only kinds m e t h =
    let ss = h.slot_size in
    let bs = h.block_size in
    record {
      slot_size = m.slot_size ∙ ss;
      block_size = m.block_size ∙ bs;
      each_slot = λ s high. elim (cases_eq s w) as (λ _. slice_index_or slots' s states.Free ≡ state_of (f' s)) [
        | inl q ↦ ap (λ a. slice_index_or slots' a states.Free) q ∙ (m.here ∙ (e ∙ ap (λ a. state_of (f' a)) (sym q)))
        | inr ne ↦ m.others s (omega (arith, high, ss)) ne ∙ (h.each_slot s high ∙ ap state_of (sym (only.each s high ne)))
      ];
      each_block = λ c high. elim (cases_eq c (w / 7)) as (λ _. Tallies (in_block blocks' c) f' kind' c) [
        | inl q ↦ subst (λ a. Tallies (in_block blocks' a) f' kind' a) (sym q) (subst (λ a. Tallies a f' kind' (w / 7)) (sym m.its_block) t)
        | inr ne ↦
            let old = h.each_block c high in
            subst (λ a. Tallies a f' kind' c) (sym (m.other_blocks c (omega (arith, high, bs)) ne)) (record {
              free = old.free ∙ sym (tally-other is_free_slot f f' n w c only high ne);
              dead = old.dead ∙ sym (tally-other is_dead f f' n w c only high ne);
              plain = old.plain ∙ sym (ap is_plain (kinds c high));
              group = old.group ∙ sym (ap is_live_group (kinds c high));
            })
      ];
    }

-- a live slot became dead
pub listed-dead : (w n : ℕ) (f f' : ℕ → Slot) (kind kind' : ℕ → Kind) (slots slots' : List SlotState) (blocks blocks' : List BlockState) → w < 7 * n → OthersKept (7 * n) w f f' → ((d : ℕ) → d < n → kind' d ≡ kind d)
    → IsLive (f w) → f' w ≡ Dead → Marked w states.Dead (one_dead_more (in_block blocks (w / 7))) slots slots' blocks blocks' → IsListed slots blocks f kind n → IsListed slots' blocks' f' kind' n
listed-dead w n f f' kind kind' slots slots' blocks blocks' low only kinds live dead m h =
    let old = h.each_block (w / 7) (omega arith) in
    let lf : is_free_slot (f w) ≡ false = ap is_free_slot live.2 in
    let ld : is_dead (f w) ≡ false = ap is_dead live.2 in
    let nf : is_free_slot (f' w) ≡ false = ap is_free_slot dead in
    let nd : is_dead (f' w) ≡ true = ap is_dead dead in
    let cf-at = tally-here is_free_slot f f' n w only low in
    let cf = rw (lf, nf) at cf-at in
    let cd-at = tally-here is_dead f f' n w only low in
    let cd = rw (ld, nd) at cd-at in
    listed-one w n f f' kind kind' slots slots' blocks blocks' states.Dead (one_dead_more (in_block blocks (w / 7))) low only kinds m (sym (ap state_of dead)) (record {
      free = old.free ∙ omega (arith, cf);
      dead = ap (λ k. k + 1) old.dead ∙ omega (arith, cd);
      plain = old.plain ∙ sym (ap is_plain (kinds (w / 7) (omega arith)));
      group = old.group ∙ sym (ap is_live_group (kinds (w / 7) (omega arith)));
    }) h

-- a free slot became dead
pub listed-killed : (w n : ℕ) (f f' : ℕ → Slot) (kind kind' : ℕ → Kind) (slots slots' : List SlotState) (blocks blocks' : List BlockState) → w < 7 * n → OthersKept (7 * n) w f f' → ((d : ℕ) → d < n → kind' d ≡ kind d)
    → f w ≡ Free → f' w ≡ Dead → Marked w states.Dead (one_dead_more (one_free_fewer (in_block blocks (w / 7)))) slots slots' blocks blocks' → IsListed slots blocks f kind n → IsListed slots' blocks' f' kind' n
listed-killed w n f f' kind kind' slots slots' blocks blocks' low only kinds free dead m h =
    let old = h.each_block (w / 7) (omega arith) in
    let of : is_free_slot (f w) ≡ true = ap is_free_slot free in
    let od : is_dead (f w) ≡ false = ap is_dead free in
    let nf : is_free_slot (f' w) ≡ false = ap is_free_slot dead in
    let nd : is_dead (f' w) ≡ true = ap is_dead dead in
    let cf-at = tally-here is_free_slot f f' n w only low in
    let cf = rw (of, nf) at cf-at in
    let cd-at = tally-here is_dead f f' n w only low in
    let cd = rw (od, nd) at cd-at in
    listed-one w n f f' kind kind' slots slots' blocks blocks' states.Dead (one_dead_more (one_free_fewer (in_block blocks (w / 7)))) low only kinds m (sym (ap state_of dead)) (record {
      free = ap (λ k. k - 1) old.free ∙ omega (arith, cf);
      dead = ap (λ k. k + 1) old.dead ∙ omega (arith, cd);
      plain = old.plain ∙ sym (ap is_plain (kinds (w / 7) (omega arith)));
      group = old.group ∙ sym (ap is_live_group (kinds (w / 7) (omega arith)));
    }) h

-- a free slot became live
pub listed-live : (w n : ℕ) (f f' : ℕ → Slot) (kind kind' : ℕ → Kind) (slots slots' : List SlotState) (blocks blocks' : List BlockState) → w < 7 * n → OthersKept (7 * n) w f f' → ((d : ℕ) → d < n → kind' d ≡ kind d)
    → f w ≡ Free → IsLive (f' w) → Marked w states.Live (one_free_fewer (in_block blocks (w / 7))) slots slots' blocks blocks' → IsListed slots blocks f kind n → IsListed slots' blocks' f' kind' n
listed-live w n f f' kind kind' slots slots' blocks blocks' low only kinds free live m h =
    let old = h.each_block (w / 7) (omega arith) in
    let of : is_free_slot (f w) ≡ true = ap is_free_slot free in
    let od : is_dead (f w) ≡ false = ap is_dead free in
    let nf : is_free_slot (f' w) ≡ false = ap is_free_slot live.2 in
    let nd : is_dead (f' w) ≡ false = ap is_dead live.2 in
    let cf-at = tally-here is_free_slot f f' n w only low in
    let cf = rw (of, nf) at cf-at in
    let cd-at = tally-here is_dead f f' n w only low in
    let cd = rw (od, nd) at cd-at in
    listed-one w n f f' kind kind' slots slots' blocks blocks' states.Live (one_free_fewer (in_block blocks (w / 7))) low only kinds m (sym (ap state_of live.2)) (record {
      free = ap (λ k. k - 1) old.free ∙ omega (arith, cf);
      dead = old.dead ∙ omega (arith, cd);
      plain = old.plain ∙ sym (ap is_plain (kinds (w / 7) (omega arith)));
      group = old.group ∙ sym (ap is_live_group (kinds (w / 7) (omega arith)));
    }) h
