-- What the steps of a copying do to a clean memory: it stays clean.
use Rattle.std.proofs.Common.{◌≡◌, ◌≢◌, ℕ, ◌+◌, ◌-◌, ◌<◌, ◌⊎◌, List, Bool, true, false, cond, refl, sym, ap, ◌∙◌, subst, arith, inl, inr}
use Rattle.std.specs.Prelude.{◌/◌, ◌%◌}
use Rattle.std.proofs.lemmas.Bool.{cases_eq, ne_eqb}
use Rattle.chip_model.specs.Geometry.{block_count}
use Rattle.nor_layout.specs.declared.kind.Kind.{Kind}
use Rattle.nor_layout.specs.declared.kind.Kind.TheVariants as kinds
use Rattle.nor_layout.specs.Kinds.{kind_of}
use Rattle.erase_journal.specs.Blocks.{blank, SameChip, OnlyBlock, WithErased}
use Rattle.sector_slots.specs.Slots.{Slot, Free, Live, Dead, NoGeneration, Outside, slot_in, content_bytes, blank_sector, counted, copies, is_void, is_copy_of, is_counted, data_blocks, data_block, kind_at, raw_slot, slot_at, slot_count, IsSpareIn, IsClean}
use Rattle.sector_slots.specs.Blocks.{IsTarget}
use Rattle.sector_slots.specs.Copying.{Commits, ErasesSource, Settles}
use Rattle.sector_slots.proofs.CopyLaws.{counted-other, counted-void, counted-source, counted-in, source-copies, committed-source, committed-copies, at-rest-copies}
use Rattle.sector_slots.proofs.CommitLaws.{before-other, after-source, after-other, after-target}
use Rattle.sector_slots.proofs.MachineLaws.{block-data}
use Rattle.sector_slots.proofs.BlankLaws.{blank-content}
use Rattle.sector_slots.specs.Steps.{OnlyMark}

-- the slots of the memory after, with the number of blocks of the memory before
sized : (m m' : List ℕ) (w : ℕ) → SameChip m m' → slot_at m' w ≡ counted (kind_at m') (raw_slot m') (data_blocks m) w
sized m m' w chip = ap (λ n. counted (kind_at m') (raw_slot m') (block_count n - 4) w) chip.same_length

abbrev IsOpen : Slot → Type 0
IsOpen Free = Unit {0}
IsOpen (Live tag x) = ⊥
IsOpen NoGeneration = ⊥
IsOpen Dead = ⊥
IsOpen Outside = ⊥

outside-free : (s : Slot) → s ≡ Outside → s ≢ Free
outside-free s o f = subst (λ a. IsOpen a) (sym f ∙ o) tt

abbrev IsPlain : Kind → Type 0
IsPlain kinds.Plain = Unit {0}
IsPlain kinds.Void = ⊥
IsPlain (kinds.Committed b) = ⊥
IsPlain kinds.Settled = ⊥
IsPlain (kinds.Group tag) = ⊥
IsPlain kinds.DeadGroup = ⊥
IsPlain kinds.SpoiltGroup = ⊥
IsPlain kinds.Unknown = ⊥

void-plain : (k : Kind) → k ≡ kinds.Void → k ≢ kinds.Plain
void-plain k a b = subst (λ q. IsPlain q) (sym b ∙ a) tt

committed-plain : (k : Kind) (s : ℕ) → k ≡ kinds.Committed s → k ≢ kinds.Plain
committed-plain k s a b = subst (λ q. IsPlain q) (sym b ∙ a) tt

pub group-plain : (k : Kind) → k ≡ kinds.DeadGroup → k ≢ kinds.Plain
group-plain k a b = subst (λ q. IsPlain q) (sym b ∙ a) tt

settled-plain : (k : Kind) → k ≡ kinds.Settled → k ≢ kinds.Plain
settled-plain k a b = subst (λ q. IsPlain q) (sym b ∙ a) tt

-- one block changes
pub clean-only : (c : ℕ) (m m' : List ℕ) → OnlyBlock (c + 4) m m' → IsClean m
    → ((w : ℕ) → w < slot_count m → w / 7 ≢ c → counted (kind_at m') (raw_slot m') (data_blocks m) w ≡ Free → (slot_at m w ≡ Free) ⊎ IsSpareIn m (w / 7))
    → ((w : ℕ) → w < slot_count m → w / 7 ≡ c → counted (kind_at m') (raw_slot m') (data_blocks m) w ≡ Free → content_bytes (data_block m' c) (w % 7) ≡ blank_sector)
    → (IsSpareIn m' c → data_block m' c ≡ blank) → IsClean m'
clean-only c m m' only clean others here spare =
    let n = only.chip.same_length in
    let same : (d : ℕ) → d < data_blocks m → d ≢ c → data_block m' d ≡ data_block m d = λ d low ne. only.others (d + 4) (omega arith) (omega (arith, low)) (λ e. ne (omega (arith, e))) in
    record {
      slots = λ w high free.
          let low : w < slot_count m = omega (arith, high, n) in
          let free' = sym (sized m m' w only.chip) ∙ free in
          elim (cases_eq (w / 7) c) as (λ _. content_bytes (data_block m' (w / 7)) (w % 7) ≡ blank_sector) [
            | inl e ↦ ap (λ a. content_bytes (data_block m' a) (w % 7)) e ∙ here w low e free'
            | inr ne ↦
                let block = same (w / 7) (omega (arith, low)) ne in
                ap (λ b. content_bytes b (w % 7)) block ∙ (elim (others w low ne free') as (λ _. content_bytes (data_block m (w / 7)) (w % 7) ≡ blank_sector) [
                  | inl was ↦ clean.slots w low was
                  | inr was ↦ ap (λ b. content_bytes b (w % 7)) (clean.spare (w / 7) (omega (arith, low)) was) ∙ blank-content (w % 7) (omega arith)
                ])
          ];
      spare = λ d high s.
          let low : d < data_blocks m = omega (arith, high, n) in
          elim (cases_eq d c) as (λ _. data_block m' d ≡ blank) [
            | inl e ↦ ap (λ a. data_block m' a) e ∙ spare (subst (λ a. IsSpareIn m' a) e s)
            | inr ne ↦
                let block = same d low ne in
                block ∙ clean.spare d low (record { plain = ap kind_of (sym block) ∙ s.plain; free = λ i small. ap (λ b. slot_in b i) (sym block) ∙ s.free i small })
          ];
    }

-- all blocks the same
pub clean-blocks : (m m' : List ℕ) → SameChip m m' → ((d : ℕ) → d < data_blocks m → data_block m' d ≡ data_block m d) → ((w : ℕ) → w < slot_count m → counted (kind_at m') (raw_slot m') (data_blocks m) w ≡ slot_at m w) → IsClean m → IsClean m'
clean-blocks m m' chip same slots clean =
    let n = chip.same_length in
    record {
      slots = λ w high free.
          let low : w < slot_count m = omega (arith, high, n) in
          ap (λ b. content_bytes b (w % 7)) (same (w / 7) (omega (arith, low))) ∙ clean.slots w low (sym (slots w low) ∙ (sym (sized m m' w chip) ∙ free));
      spare = λ d high s.
          let low : d < data_blocks m = omega (arith, high, n) in
          let block = same d low in
          block ∙ clean.spare d low (record { plain = ap kind_of (sym block) ∙ s.plain; free = λ i small. ap (λ b. slot_in b i) (sym block) ∙ s.free i small });
    }

-- a block is void before and after, or was wholly free and is void
pub void-clean : (t : ℕ) (m m' : List ℕ) (k : Kind) → OnlyBlock (t + 4) m m' → kind_at m t ≡ k → ((b : ℕ) → is_copy_of b k ≡ is_copy_of b kinds.Void) → kind_at m' t ≡ kinds.Void → IsClean m → IsClean m'
void-clean t m m' k only was none now clean = clean-only t m m' only clean
    (λ w low ne free. inl (sym (counted-other (kind_at m) (kind_at m') (raw_slot m) (raw_slot m') (data_blocks m) t w (block-data t m m' only) (omega (arith, low)) ne
    (ap (λ q. is_copy_of (w / 7 + 4) q) now ∙ (sym (none (w / 7 + 4)) ∙ sym (ap (λ q. is_copy_of (w / 7 + 4) q) was)))) ∙ free))
    (λ w low e free. absurd (outside-free _ (counted-void (kind_at m') (raw_slot m') (data_blocks m) w (ap (λ c. is_void (kind_at m' c)) e ∙ ap is_void now)) free))
    (λ s. absurd (void-plain (kind_at m' t) now s.plain))

-- commit
pub commit-clean : (s t : ℕ) (m m' : List ℕ) → OnlyMark t m m' → Commits s t (data_blocks m) (kind_at m) (kind_at m') (raw_slot m) (raw_slot m') → ((i : ℕ) → i < 7 → raw_slot m t i ≡ Free → content_bytes (data_block m t) i ≡ blank_sector)
    → IsClean m → IsClean m'
commit-clean s t m m' mark h fresh clean = clean-only t m m' mark.only clean
    (λ w low ne free. elim (cases_eq (w / 7) s) as (λ _. (slot_at m w ≡ Free) ⊎ IsSpareIn m (w / 7)) [
      | inl e ↦ absurd (outside-free _ (after-source s t (data_blocks m) (kind_at m) (kind_at m') (raw_slot m) (raw_slot m') w h e) free)
      | inr ns ↦ inl (before-other s t (data_blocks m) (kind_at m) (kind_at m') (raw_slot m) (raw_slot m') w h low ne ∙ (sym (after-other s t (data_blocks m) (kind_at m) (kind_at m') (raw_slot m) (raw_slot m') w h low ns ne) ∙ free))
    ])
    (λ w low e free. mark.contents (w % 7) (omega arith)
    ∙ fresh (w % 7) (omega arith) (sym (mark.slots (w % 7) (omega arith)) ∙ (sym (after-target s t (data_blocks m) (kind_at m) (kind_at m') (raw_slot m) (raw_slot m') w h e) ∙ free)))
    (λ p. absurd (committed-plain (kind_at m' t) (s + 4) h.now p.plain))

-- erase of the source
pub erase_source-clean : (s t : ℕ) (m m' : List ℕ) → WithErased (s + 4) m m' → ErasesSource s t (data_blocks m) (kind_at m) (kind_at m') (raw_slot m) (raw_slot m') → IsClean m → IsClean m'
erase_source-clean s t m m' erased h clean =
    let place = committed-source s t (data_blocks m) (kind_at m) h.target h.was in
    let stays : kind_at m' t ≡ kinds.Committed (s + 4) = h.only.same_kind t h.target.number (λ e. place.1 (sym e)) ∙ h.was in
    clean-only s m m' erased.only clean
    (λ w low ne free. inl (sym (counted-other (kind_at m) (kind_at m') (raw_slot m) (raw_slot m') (data_blocks m) s w h.only (omega (arith, low)) ne
    (ap (λ k. is_copy_of (w / 7 + 4) k) h.now.plain ∙ sym (at-rest-copies (w / 7 + 4) (kind_at m s) (h.target.others s place.0 place.1)))) ∙ free))
    (λ w low e free. absurd (outside-free _ (counted-source (kind_at m') (raw_slot m') (data_blocks m) w (λ z. source-copies s t (data_blocks m) (kind_at m') h.target.number stays (ap (λ c. copies (kind_at m') (data_blocks m) c) (sym e) ∙ z))) free))
    (λ p. erased.erased)

-- a slot that reads as free is free in its block
either-free : (t : Bool) (a : Slot) → cond t a Outside ≡ Free → a ≡ Free
either-free true a e = e
either-free false a e = absurd (outside-free Outside refl e)

pub raw-free : (kind : ℕ → Kind) (slots : ℕ → ℕ → Slot) (n w t : ℕ) → w / 7 ≡ t → counted kind slots n w ≡ Free → slots t (w % 7) ≡ Free
unfolding counted
raw-free kind slots n w t e free = ap (λ c. slots c (w % 7)) (sym e) ∙ either-free (is_counted kind n (w / 7)) (slots (w / 7) (w % 7)) free

-- settle, whole or cut
pub settle-clean : (s t : ℕ) (m m' : List ℕ) → OnlyMark t m m' → Settles s t (data_blocks m) (kind_at m) (kind_at m') (raw_slot m) (raw_slot m') → IsClean m → IsClean m'
settle-clean s t m m' mark h clean = clean-only t m m' mark.only clean
    (λ w low ne free. elim (cases_eq (w / 7) s) as (λ _. (slot_at m w ≡ Free) ⊎ IsSpareIn m (w / 7)) [
      | inl e ↦ inr (subst (λ c. IsSpareIn m c) (sym e) h.source)
      | inr ns ↦ inl (sym (counted-other (kind_at m) (kind_at m') (raw_slot m) (raw_slot m') (data_blocks m) t w h.only (omega (arith, low)) ne
          (ap (λ k. is_copy_of (w / 7 + 4) k) h.now ∙ sym (ap (λ k. is_copy_of (w / 7 + 4) k) h.was ∙ ne_eqb (s + 4) (w / 7 + 4) (λ q. ns (omega (arith, q)))))) ∙ free)
    ])
    (λ w low e free.
    let place = committed-source s t (data_blocks m) (kind_at m) h.target h.was in
    let before = counted-in (kind_at m) (raw_slot m) (data_blocks m) w (ap (λ c. is_void (kind_at m c)) e ∙ ap is_void h.was) (committed-copies s t (data_blocks m) (kind_at m) (w / 7) h.target h.was (λ q. place.1 (sym q ∙ e))) in
    let raw : raw_slot m' t (w % 7) ≡ Free = raw-free (kind_at m') (raw_slot m') (data_blocks m) w t e free in
    let was : slot_at m w ≡ Free = before ∙ (ap (λ c. raw_slot m c (w % 7)) e ∙ (sym (mark.slots (w % 7) (omega arith)) ∙ raw)) in
    mark.contents (w % 7) (omega arith) ∙ (ap (λ c. content_bytes (data_block m c) (w % 7)) (sym e) ∙ clean.slots w low was))
    (λ p. absurd (settled-plain (kind_at m' t) h.now p.plain))

-- a committed block that stays one
pub committed-clean : (s t : ℕ) (m m' : List ℕ) → OnlyMark t m m' → IsTarget t (data_blocks m) (kind_at m) → kind_at m t ≡ kinds.Committed (s + 4) → kind_at m' t ≡ kinds.Committed (s + 4) → IsClean m → IsClean m'
committed-clean s t m m' mark target was now clean = clean-only t m m' mark.only clean
    (λ w low ne free. inl (sym (counted-other (kind_at m) (kind_at m') (raw_slot m) (raw_slot m') (data_blocks m) t w (block-data t m m' mark.only) (omega (arith, low)) ne (ap (λ k. is_copy_of (w / 7 + 4) k) (now ∙ sym was))) ∙ free))
    (λ w low e free.
    let place = committed-source s t (data_blocks m) (kind_at m) target was in
    let before = counted-in (kind_at m) (raw_slot m) (data_blocks m) w (ap (λ c. is_void (kind_at m c)) e ∙ ap is_void was) (committed-copies s t (data_blocks m) (kind_at m) (w / 7) target was (λ q. place.1 (sym q ∙ e))) in
    let raw : raw_slot m' t (w % 7) ≡ Free = raw-free (kind_at m') (raw_slot m') (data_blocks m) w t e free in
    let slot : slot_at m w ≡ Free = before ∙ (ap (λ c. raw_slot m c (w % 7)) e ∙ (sym (mark.slots (w % 7) (omega arith)) ∙ raw)) in
    mark.contents (w % 7) (omega arith) ∙ (ap (λ c. content_bytes (data_block m c) (w % 7)) (sym e) ∙ clean.slots w low slot))
    (λ p. absurd (committed-plain (kind_at m' t) (s + 4) now p.plain))
