-- Where weak bits may lie, once a block was copied into a wholly free one, or a wholly free one was erased.
use Rattle.std.proofs.Common.{◌≡◌, ℕ, ◌+◌, ◌-◌, ◌*◌, ◌<◌, true, false, List, length, sym, ap, ◌∙◌, subst, arith, inl, inr}
use Rattle.std.specs.Prelude.{◌/◌, ◌%◌}
use Rattle.std.proofs.lemmas.Bool.{cases_eq, true≢false}
use Rattle.chip_model.specs.Geometry.{block_count}
use Rattle.chip_model.specs.Wavering.{Bits}
use Rattle.nor_driver.specs.State.{IsFirmer}
use Rattle.erase_journal.specs.Blocks.{WithErased}
use Rattle.erase_journal.proofs.WeakLaws.{are-firm-stays}
use Rattle.sector_slots.specs.Slots.{Free, slot_at, data_blocks, raw_slot, IsSpareIn}
use Rattle.sector_slots.specs.Weak.{mark_place, descriptor_place, sector_place, IsWhollyFirm, IsSureSlot, firm, dead, fading, IsSureBlock}
use Rattle.sector_slots.proofs.FirmLaws.{slot_number, sure-dead, edges-stay, block-stays, wholly-block, sure-doubted}
use Rattle.sector_slots.proofs.MachineLaws.{block-data}
use Rattle.sector_stock.specs.Copy.{IsCopiedWhole}
use Rattle.sector_stock.specs.declared.index.BlockState.{BlockState}
use Rattle.sector_stock.specs.declared.index.Cursors.{Cursors}
use Rattle.sector_stock.specs.declared.index.SlotState.{SlotState}
use Rattle.sector_stock.specs.Index.{in_block, BlocksMoved, IsFirmIn, IsIndexOf, tally, is_free_slot}
use Rattle.sector_stock.specs.IndexSteps.{RecountsErase}
use Rattle.sector_stock.specs.Room.{HasNoneFree}
use Rattle.sector_stock.specs.Takes.{IsGivable}
use Rattle.sector_stock.proofs.Tallies.{either, free-is, not-both, tally-some, tally-none}

-- A free slot that is sure is sure to be any other one later: its bytes are firm, or it is dead for good.
free-stays : (a b : Bits) (f : IsFirmer a b) (c i : ℕ) → i < 7 → raw_slot a.shown c i ≡ Free → IsSureSlot a c i → IsSureSlot b c i
free-stays a b f c i low free (firm x y) = firm (are-firm-stays a b (descriptor_place c i) 4 f x) (are-firm-stays a b (sector_place c i) 512 f y)
free-stays a b f c i low free (dead x) = sure-dead a b f c i low x
free-stays a b f c i low free (fading x) = let e : 0 ≡ 1 = ap slot_number (sym free ∙ x.live) in absurd (omega (arith, e))

-- so a wholly free block that is trusted stays so, whatever is written into it
pub block-filled : (a b : Bits) (f : IsFirmer a b) (c : ℕ) → IsSpareIn a.shown c → IsSureBlock a false c → IsSureBlock b false c
block-filled a b f c spare h = record {
  edges = edges-stay a b f c h.edges;
  mark = elim h.mark [ inl m ↦ inl (are-firm-stays a b (mark_place c) 4 f m) | inr d ↦ absurd (true≢false (sym d.0)) ];
  slots = λ i low. elim (h.slots i low) [ inl s ↦ inl (free-stays a b f c i low (spare.free i low) s) | inr d ↦ absurd (true≢false (sym d.0)) ];
}

-- Block s was copied into block t, which was wholly free, and is wholly firm where it was suspect.
pub copied-firm : (s t : ℕ) (a b : Bits) (blocks blocks' : List BlockState) → IsFirmer a b → length blocks ≡ data_blocks a.shown → IsSpareIn a.shown t → IsCopiedWhole s t a.shown b.shown → IsWhollyFirm b.weak s
    → ((in_block blocks t).suspect ≡ true → IsWhollyFirm b.weak t) → BlocksMoved s t blocks blocks' → IsFirmIn a blocks → IsFirmIn b blocks'
copied-firm s t a b blocks blocks' f size spare copied source target moved h c low =
    let n : data_blocks b.shown ≡ data_blocks a.shown = ap (λ k. block_count k - 4) copied.same_length in
    let inside : c < data_blocks a.shown = omega (arith, low, n) in
    elim (cases_eq c s) as (λ _. IsSureBlock b (in_block blocks' c).suspect c) [
      | inl e ↦ wholly-block b (in_block blocks' c).suspect c (subst (λ d. IsWhollyFirm b.weak d) (sym e) source)
      | inr ns ↦ elim (cases_eq c t) as (λ _. IsSureBlock b (in_block blocks' c).suspect c) [
        | inl e ↦ elim (either (in_block blocks t).suspect) as (λ _. IsSureBlock b (in_block blocks' c).suspect c) [
          | inl suspect ↦ wholly-block b (in_block blocks' c).suspect c (subst (λ d. IsWhollyFirm b.weak d) (sym e) (target suspect))
          | inr trusted ↦
              let was : IsSureBlock a false t = subst (λ q. IsSureBlock a q t) trusted (h t (subst (λ d. d < data_blocks a.shown) e inside)) in
              sure-doubted b (in_block blocks' c).suspect c (subst (λ d. IsSureBlock b false d) (sym e) (block-filled a b f t spare was))
        ]
        | inr nt ↦
            let same = ap (λ k. k.suspect) (moved.others c (omega (arith, inside, size)) ns nt) in
            subst (λ q. IsSureBlock b q c) (sym same) (block-stays a b f (in_block blocks c).suspect c (copied.same_kind c inside ns nt) (λ i tiny. copied.same_slots c i inside ns nt) (h c inside))
      ]
    ]

-- A wholly free block was erased.
pub erased-again : (s : ℕ) (a b : Bits) (blocks blocks' : List BlockState) (at new : Cursors) → IsFirmer a b → length blocks ≡ data_blocks a.shown → WithErased (s + 4) a.shown b.shown → IsWhollyFirm b.weak s
    → RecountsErase s blocks blocks' at new → IsFirmIn a blocks → IsFirmIn b blocks'
erased-again s a b blocks blocks' at new f size w wholly counts h c low =
    let n : data_blocks b.shown ≡ data_blocks a.shown = ap (λ k. block_count k - 4) w.only.chip.same_length in
    let inside : c < data_blocks a.shown = omega (arith, low, n) in
    elim (cases_eq c s) as (λ _. IsSureBlock b (in_block blocks' c).suspect c) [
      | inl e ↦ wholly-block b (in_block blocks' c).suspect c (subst (λ d. IsWhollyFirm b.weak d) (sym e) wholly)
      | inr ne ↦
          let same = ap (λ k. k.suspect) (counts.others c (omega (arith, inside, size)) ne) in
          subst (λ q. IsSureBlock b q c) (sym same) (block-stays a b f (in_block blocks c).suspect c ((block-data s a.shown b.shown w.only).same_kind c inside ne) (λ i tiny. (block-data s a.shown b.shown w.only).same_slots c i inside ne) (h c inside))
    ]

-- A slot is given where none was free but in block t, and block s was copied into it: it is one of these two.
pub copied-trusted : (s t w : ℕ) (m m' : List ℕ) (slots slots' : List SlotState) (blocks blocks' : List BlockState) (at new : Cursors) → IsIndexOf slots blocks at m → IsIndexOf slots' blocks' new m' → BlocksMoved s t blocks blocks'
    → HasNoneFree t m → IsGivable w m' → (in_block blocks' (w / 7)).suspect ≡ false
copied-trusted s t w m m' slots slots' blocks blocks' at new index after moved none given =
    let c = w / 7 in
    let i = w % 7 in
    let small : i < 7 = omega arith in
    let here : 7 * c + i ≡ w = omega arith in
    let k = index.listed.block_size in
    let k' = after.listed.block_size in
    let size = moved.size in
    let number = given.number in
    let now : c < data_blocks m' = omega (arith, number) in
    let low : c < length blocks = omega (arith, now, k', size) in
    let was : c < data_blocks m = omega (arith, low, k) in
    elim (cases_eq c s) as (λ _. (in_block blocks' c).suspect ≡ false) [
      | inl e ↦ ap (λ d. (in_block blocks' d).suspect) e ∙ ap (λ b. b.suspect) moved.source
      | inr ns ↦ elim (cases_eq c t) as (λ _. (in_block blocks' c).suspect ≡ false) [
        | inl e ↦ ap (λ d. (in_block blocks' d).suspect) e ∙ ap (λ b. b.suspect) moved.target
        | inr nt ↦
            let same = ap (λ b. b.free) (moved.others c low ns nt) in
            let new-count = (after.listed.each_block c now).free in
            let old-count = (index.listed.each_block c was).free in
            let free : is_free_slot (slot_at m' (7 * c + i)) ≡ true = ap (λ v. is_free_slot (slot_at m' v)) here ∙ ap is_free_slot given.free in
            elim (cases_eq (tally is_free_slot (slot_at m') c) 0) as (λ _. (in_block blocks' c).suspect ≡ false) [
              | inl zero-free ↦ absurd (not-both (is_free_slot (slot_at m' (7 * c + i))) free (tally-none is_free_slot (slot_at m') c i zero-free small))
              | inr some ↦
                  let one = tally-some is_free_slot (slot_at m) c (omega (arith, some, same, new-count, old-count)) in
                  let tiny = one.1.0 in
                  absurd (none (7 * c + one.0) (omega (arith, was, tiny)) (λ e. nt (omega (arith, e, tiny))) (free-is (slot_at m (7 * c + one.0)) one.1.1))
            ]
      ]
    ]
