-- What the programs of one slot leave of the slots that count, and of a clean memory.
use Rattle.std.proofs.Common.{◌≡◌, ◌≢◌, ℕ, ◌+◌, ◌*◌, ◌/◌, ◌%◌, ◌<◌, ◌≤◌, ◌⊎◌, Bool, true, false, not, ◌&&◌, cond, List, [], ◌∷◌, length, refl, sym, ap, ◌∙◌, subst, arith, inl, inr}
use Rattle.std.specs.Prelude.{◌==◌, bit_and, Option, Some, None}
use Rattle.std.proofs.lemmas.Bool.{cases_eq, cases_lt}
use Rattle.chip_model.specs.Memory.{byte, and_at}
use Rattle.chip_model.proofs.MemoryLaws.{placed-outside, placed-inside}
use Rattle.nor_layout.specs.declared.kind.Kind.{Kind}
use Rattle.nor_layout.specs.declared.header.Tag.{Tag}
use Rattle.nor_layout.specs.Kinds.{kind_of}
use Rattle.nor_driver.specs.State.{NorState}
use Rattle.erase_journal.specs.Blocks.{OnlyBlock}
use Rattle.erase_journal.specs.Steps.{KeepsBlocks}
use Rattle.erase_journal.specs.Recovery.{Restored, RestoreCut}
use Rattle.sector_slots.proofs.BlankLaws.{same-blocks_slots}
use Rattle.sector_slots.proofs.StepLaws.{same-slots}
use Rattle.sector_slots.proofs.SlotLaws.{counted-raw}
use Rattle.sector_slots.specs.Slots.{Slot, Free, Live, NoGeneration, Dead, Outside, IsLive, slot_in, content_bytes, blank_sector, counted, copies, is_void, is_copy_of, is_counted, data_blocks, data_block, kind_at, raw_slot, slot_at, stored_at, slot_count, IsClean, SameSlots}
use Rattle.sector_slots.specs.Copying.{to_copy}
use Rattle.journal_slots.specs.Programs.{InPlace, WriteLeaves, untouched, spoiled, filled}
use Rattle.sector_slots.proofs.CopyLaws.{copies-same}
use Rattle.sector_slots.proofs.CleanLaws.{clean-only}
use Rattle.sector_slots.proofs.PlaceLaws.{counted-kept, place-kinds, place-others, later, later-is}
use Rattle.sector_slots.specs.Steps.{IsWritable, IsErasedSlot, OnlyPlace, IsBegun, HoldsTag, MayHoldTag, PutLeaves, still_free, half_written, written}
use Rattle.journal_slots.proofs.Bytes.{place-slot, place-content, place-kind, place-mark, place-same}
use Rattle.journal_slots.proofs.Marks.{kind-bytes}
use Rattle.journal_slots.proofs.Places.{number_of, dead-not-free, live-not-free}

-- a slot that counts is what its bytes say
either-raw : (t : Bool) (a x : Slot) → cond t a Outside ≡ x → x ≢ Outside → a ≡ x
either-raw true a x e n = e
either-raw false a x e n = absurd (n (sym e))

counted-stored : (m m' : List ℕ) (w : ℕ) (x : Slot) → later m m' w ≡ x → x ≢ Outside → stored_at m' w ≡ x
unfolding counted
counted-stored m m' w x e n = either-raw (is_counted (kind_at m') (data_blocks m) (w / 7)) (raw_slot m' (w / 7) (w % 7)) x e n

pub free-inside : (s : Slot) → s ≡ Free → s ≢ Outside
free-inside s e o = let q : 4 ≡ 0 = ap number_of (sym o ∙ e) in omega (arith, q)

pub live-inside : (s : Slot) (tag : Tag) (x : List ℕ) → s ≡ Live tag x → s ≢ Outside
live-inside s tag x e o = let q : 4 ≡ 1 = ap number_of (sym o ∙ e) in omega (arith, q)

pub fresh-slot : (w : ℕ) (m : List ℕ) → w < slot_count m → IsWritable w m → IsErasedSlot (w / 7) (w % 7) m
fresh-slot w m low h = record { free = counted-raw m w Free h.0 (free-inside Free refl); blank = h.1.slots w low h.0 }

-- one place of one block
pub place-only : (w : ℕ) (m m' : List ℕ) → OnlyBlock (w / 7 + 4) m m' → InPlace (w % 7) (data_block m (w / 7)) (data_block m' (w / 7)) → OnlyPlace w m m'
place-only w m m' only within = record {
  only = only;
  kind = place-kind (w % 7) (data_block m (w / 7)) (data_block m' (w / 7)) within;
  slots = λ i low other. place-slot (w % 7) i (data_block m (w / 7)) (data_block m' (w / 7)) (omega arith) low (λ e. other (omega (arith, e))) within;
}

-- where the slot counted before it counts after
inside : (t : Bool) (a : Slot) → cond t a Outside ≢ Outside → t ≡ true
inside true a n = refl
inside false a n = absurd (n refl)

counts : (kind : ℕ → Kind) (slots : ℕ → ℕ → Slot) (n w : ℕ) → counted kind slots n w ≢ Outside → is_counted kind n (w / 7) ≡ true
unfolding counted
counts kind slots n w h = inside (is_counted kind n (w / 7)) (slots (w / 7) (w % 7)) h

counts-in : (kind : ℕ → Kind) (slots : ℕ → ℕ → Slot) (n w : ℕ) → is_counted kind n (w / 7) ≡ true → counted kind slots n w ≡ slots (w / 7) (w % 7)
unfolding counted
counts-in kind slots n w e = ap (λ t. cond t (slots (w / 7) (w % 7)) Outside) e

pub place-counts : (w : ℕ) (m m' : List ℕ) → w < slot_count m → OnlyPlace w m m' → slot_at m w ≢ Outside → slot_at m' w ≡ stored_at m' w
place-counts w m m' low only inner =
    let n = data_blocks m in
    let kinds = place-kinds w m m' only in
    let kind : kind_at m' (w / 7) ≡ kind_at m (w / 7) = kinds (w / 7) (omega (arith, low)) in
    let same : copies (kind_at m') n (w / 7) ≡ copies (kind_at m) n (w / 7) = copies-same (kind_at m) (kind_at m') n (w / 7) (λ d h. ap (λ q. is_copy_of (w / 7 + 4) q) (kinds d h)) in
    let before : is_counted (kind_at m) n (w / 7) ≡ true = counts (kind_at m) (raw_slot m) n w inner in
    let after : is_counted (kind_at m') n (w / 7) ≡ true = ap (λ k. not (is_void k) && (copies (kind_at m') n (w / 7) == 0)) kind ∙ (ap (λ a. not (is_void (kind_at m (w / 7))) && (a == 0)) same ∙ before) in
    later-is m m' w only.only.chip.same_length ∙ counts-in (kind_at m') (raw_slot m') n w after

-- A clean memory stays clean, where the block is as it was or the slot isn't free afterwards.
pub place-clean : (w : ℕ) (m m' : List ℕ) → w < slot_count m → OnlyBlock (w / 7 + 4) m m' → InPlace (w % 7) (data_block m (w / 7)) (data_block m' (w / 7)) → IsClean m
    → (stored_at m' w ≡ Free → data_block m' (w / 7) ≡ data_block m (w / 7)) → IsClean m'
place-clean w m m' low only within clean same =
    let c = w / 7 in
    let place = place-only w m m' only within in
    let others = place-others w m m' place in
    let lc : c < data_blocks m = omega (arith, low) in
    clean-only c m m' only clean
    (λ v lv ne free. inl (sym (others.each v lv (λ e. ne (ap (λ a. a / 7) e))) ∙ free))
    (λ v lv e free. elim (cases_eq v w) as (λ _. content_bytes (data_block m' c) (v % 7) ≡ blank_sector) [
      | inl s ↦
          let raw : stored_at m' v ≡ Free = counted-stored m m' v Free free (free-inside Free refl) in
          let block : data_block m' c ≡ data_block m c = same (subst (λ a. stored_at m' a ≡ Free) s raw) in
          let slot : raw_slot m' (v / 7) (v % 7) ≡ raw_slot m (v / 7) (v % 7) = ap (λ a. raw_slot m' a (v % 7)) e ∙ (ap (λ b. slot_in b (v % 7)) block ∙ ap (λ a. raw_slot m a (v % 7)) (sym e)) in
          let was : slot_at m v ≡ Free = sym (counted-kept (kind_at m) (kind_at m') (raw_slot m) (raw_slot m') (data_blocks m) v (place-kinds w m m' place) slot lv) ∙ free in
          ap (λ b. content_bytes b (v % 7)) block ∙ (ap (λ a. content_bytes (data_block m a) (v % 7)) (sym e) ∙ clean.slots v lv was)
      | inr ne ↦
          place-content (w % 7) (v % 7) (data_block m c) (data_block m' c) (omega arith) (omega arith) (λ q. ne (omega (arith, q, e))) within
          ∙ (ap (λ a. content_bytes (data_block m a) (v % 7)) (sym e) ∙ clean.slots v lv (sym (others.each v lv ne) ∙ free))
    ])
    (λ s.
    let block : data_block m' c ≡ data_block m c = same (s.free (w % 7) (omega arith)) in
    block ∙ clean.spare c lc (record { plain = ap kind_of (sym block) ∙ s.plain; free = λ i small. ap (λ b. slot_in b i) (sym block) ∙ s.free i small }))

-- A write into a free slot, whole and cut.
pub put-live : (w : ℕ) (tag : Tag) (x m m' : List ℕ) → w < slot_count m → OnlyPlace w m m' → slot_at m w ≡ Free → stored_at m' w ≡ Live tag x → slot_at m' w ≡ Live tag x
put-live w tag x m m' low only free e = place-counts w m m' low only (free-inside (slot_at m w) free) ∙ e

pub put-clean : (w : ℕ) (tag : Tag) (x m m' : List ℕ) → w < slot_count m → OnlyBlock (w / 7 + 4) m m' → InPlace (w % 7) (data_block m (w / 7)) (data_block m' (w / 7)) → IsClean m → stored_at m' w ≡ Live tag x → IsClean m'
put-clean w tag x m m' low only within clean e = place-clean w m m' low only within clean (λ f. absurd (live-not-free (stored_at m' w) tag x e f))

pub put-left : (w : ℕ) (tag : Tag) (x m m' : List ℕ) → w < slot_count m → OnlyPlace w m m' → IsWritable w m → WriteLeaves (w % 7) tag x (data_block m (w / 7)) (data_block m' (w / 7)) → PutLeaves tag x (slot_at m' w)
put-left w tag x m m' low only h (untouched e) =
    still_free (place-counts w m m' low only (free-inside (slot_at m w) h.0) ∙ (ap (λ b. slot_in b (w % 7)) e ∙ counted-raw m w Free h.0 (free-inside Free refl)))
put-left w tag x m m' low only h (spoiled e) = half_written (place-counts w m m' low only (free-inside (slot_at m w) h.0) ∙ e)
put-left w tag x m m' low only h (filled holds exact) = written (place-counts w m m' low only (free-inside (slot_at m w) h.0) ∙ exact (fresh-slot w m low h).blank)

pub put-left_clean : (w : ℕ) (tag : Tag) (x m m' : List ℕ) → w < slot_count m → OnlyBlock (w / 7 + 4) m m' → InPlace (w % 7) (data_block m (w / 7)) (data_block m' (w / 7)) → IsClean m
    → WriteLeaves (w % 7) tag x (data_block m (w / 7)) (data_block m' (w / 7)) → IsClean m'
put-left_clean w tag x m m' low only within clean (untouched e) = place-clean w m m' low only within clean (λ f. e)
put-left_clean w tag x m m' low only within clean (spoiled e) = place-clean w m m' low only within clean (λ f. absurd (dead-not-free (stored_at m' w) e f))
put-left_clean w tag x m m' low only within clean (filled (y, e) exact) = put-clean w tag y m m' low only within clean e

-- and where what reads as free needn't be erased
pub put-holds : (w : ℕ) (tag : Tag) (m m' : List ℕ) → w < slot_count m → OnlyPlace w m m' → slot_at m w ≡ Free → HoldsTag tag (stored_at m' w) → HoldsTag tag (slot_at m' w)
put-holds w tag m m' low only free (y, e) = (y, put-live w tag y m m' low only free e)

pub put-may_hold : (w : ℕ) (tag : Tag) (x m m' : List ℕ) → w < slot_count m → OnlyPlace w m m' → slot_at m w ≡ Free → WriteLeaves (w % 7) tag x (data_block m (w / 7)) (data_block m' (w / 7)) → MayHoldTag tag (slot_at m' w)
put-may_hold w tag x m m' low only free (untouched e) = inl (place-counts w m m' low only (free-inside (slot_at m w) free) ∙ (ap (λ b. slot_in b (w % 7)) e ∙ counted-raw m w Free free (free-inside Free refl)))
put-may_hold w tag x m m' low only free (spoiled e) = inr (inl (place-counts w m m' low only (free-inside (slot_at m w) free) ∙ e))
put-may_hold w tag x m m' low only free (filled holds exact) = inr (inr (put-holds w tag m m' low only free holds))

-- A retirement of a live slot, whole and cut.
pub live-raw : (m : List ℕ) (w : ℕ) → IsLive (slot_at m w) → IsLive (stored_at m w)
live-raw m w (tag, x, e) = (tag, x, counted-raw m w (Live tag x) e (live-inside (Live tag x) tag x refl))

pub live-counts : (s : Slot) → IsLive s → s ≢ Outside
live-counts s (tag, x, e) = live-inside s tag x e

pub retire-dead : (w : ℕ) (m m' : List ℕ) → w < slot_count m → OnlyPlace w m m' → IsLive (slot_at m w) → stored_at m' w ≡ Dead → slot_at m' w ≡ Dead
retire-dead w m m' low only live e = place-counts w m m' low only (live-counts (slot_at m w) live) ∙ e

pub retire-left : (w : ℕ) (m m' : List ℕ) → w < slot_count m → OnlyPlace w m m' → IsLive (slot_at m w) → (data_block m' (w / 7) ≡ data_block m (w / 7)) ⊎ (stored_at m' w ≡ Dead)
    → (slot_at m' w ≡ slot_at m w) ⊎ (slot_at m' w ≡ Dead)
retire-left w m m' low only live (inl e) =
    inl (place-counts w m m' low only (live-counts (slot_at m w) live) ∙ (ap (λ b. slot_in b (w % 7)) e ∙ counted-raw m w (slot_at m w) refl (live-counts (slot_at m w) live)))
retire-left w m m' low only live (inr e) = inr (retire-dead w m m' low only live e)

pub retire-clean : (w : ℕ) (m m' : List ℕ) → w < slot_count m → OnlyBlock (w / 7 + 4) m m' → InPlace (w % 7) (data_block m (w / 7)) (data_block m' (w / 7)) → IsClean m → (data_block m' (w / 7) ≡ data_block m (w / 7)) ⊎ (stored_at m' w ≡ Dead) → IsClean m'
retire-clean w m m' low only within clean (inl e) = place-clean w m m' low only within clean (λ f. e)
retire-clean w m m' low only within clean (inr e) = place-clean w m m' low only within clean (λ f. absurd (dead-not-free (stored_at m' w) e f))

-- what a copy into one place leaves of the others, and of the mark
pub fresh-kept : (t i j : ℕ) (m m' : List ℕ) → i < 7 → j < 7 → j ≢ i → InPlace i (data_block m t) (data_block m' t) → IsErasedSlot t j m → IsErasedSlot t j m'
fresh-kept t i j m m' li lj ne within h = record {
  free = place-slot i j (data_block m t) (data_block m' t) li lj ne within ∙ h.free;
  blank = place-content i j (data_block m t) (data_block m' t) li lj ne within ∙ h.blank;
}

committed-byte : (i k : ℕ) (b t : List ℕ) → length b ≡ 4096 → InPlace i b t → k < 8 → byte (and_at t 4 (252 ∷ [])) k ≡ byte (and_at b 4 (252 ∷ [])) k
committed-byte i k b t n within low = elim (cases_eq k 4) as (λ _. byte (and_at t 4 (252 ∷ [])) k ≡ byte (and_at b 4 (252 ∷ [])) k) [
  | inl e ↦
      let s = within.same_length in
      let four : byte (and_at t 4 (252 ∷ [])) 4 ≡ byte (and_at b 4 (252 ∷ [])) 4 =
      placed-inside bit_and t 4 (252 ∷ []) 0 (omega arith) (omega (arith, n, s)) ∙ (ap (λ q. bit_and q 252) (place-mark i b t within 4 (omega arith)) ∙ sym (placed-inside bit_and b 4 (252 ∷ []) 0 (omega arith) (omega (arith, n)))) in
      subst (λ q. byte (and_at t 4 (252 ∷ [])) q ≡ byte (and_at b 4 (252 ∷ [])) q) (sym e) four
  | inr ne ↦
      let out : (k < 4) ⊎ (5 ≤ k) = elim (cases_lt k 4) as (λ _. (k < 4) ⊎ (5 ≤ k)) [ inl l ↦ inl l | inr r ↦ inr (omega (arith, r, ne)) ] in
      placed-outside bit_and t 4 (252 ∷ []) k out ∙ (place-mark i b t within k low ∙ sym (placed-outside bit_and b 4 (252 ∷ []) k out))
]

pub begun-kept : (t s i : ℕ) (m m' : List ℕ) → length (data_block m t) ≡ 4096 → InPlace i (data_block m t) (data_block m' t) → IsBegun t s m → IsBegun t s m'
begun-kept t s i m m' n within h =
    let b = data_block m t in
    let d = data_block m' t in
    record {
      state = place-mark i b d within 4 (omega arith) ∙ h.state;
      void = place-kind i b d within ∙ h.void;
      once = kind-bytes (and_at d 4 (252 ∷ [])) (and_at b 4 (252 ∷ [])) (λ k low. committed-byte i k b d n within low) ∙ h.once;
    }

pub numbered-only : (t i : ℕ) (m m' : List ℕ) → i < 7 → OnlyBlock (t + 4) m m' → InPlace i (data_block m t) (data_block m' t) → OnlyPlace (7 * t + i) m m'
numbered-only t i m m' li only within =
    let block : t ≡ (7 * t + i) / 7 = omega (arith, li) in
    let place : i ≡ (7 * t + i) % 7 = omega (arith, li) in
    place-only (7 * t + i) m m' (subst (λ a. OnlyBlock (a + 4) m m') block only)
    (subst (λ a. InPlace ((7 * t + i) % 7) (data_block m a) (data_block m' a)) block (subst (λ a. InPlace a (data_block m t) (data_block m' t)) place within))

-- nothing changed
pub same-only : (t i : ℕ) (m m' : List ℕ) → i < 7 → m' ≡ m → OnlyPlace (7 * t + i) m m'
same-only t i m m' li e =
    numbered-only t i m m' li (subst (λ a. OnlyBlock (t + 4) m a) (sym e) (record { chip = record { same_length = refl; superblock = λ k low. refl }; others = λ k from low other. refl }))
    (subst (λ a. InPlace i (data_block m t) (data_block a t)) (sym e) (place-same i (data_block m t) (data_block m t) refl))

abbrev number_in : Option ℕ → ℕ
number_in None = 0
number_in (Some n) = n

pub none-some : (found : Option ℕ) (a : ℕ) → found ≡ None → found ≡ Some a → ⊥
none-some found a e f = cc

pub same-number : (found : Option ℕ) (a b : ℕ) → found ≡ Some a → found ≡ Some b → a ≡ b
same-number found a b e f = ap number_in (sym e ∙ f)

-- A restart keeps the slots, also where it is cut.
pub restored-slots : (old new : NorState) → Restored old new → old.is_slow ≡ false → SameSlots old.memory new.memory
restored-slots old new h quick = same-blocks_slots old.memory new.memory (h.blocks quick)

restore-left : (old new : NorState) → (new.memory ≡ old.memory) ⊎ KeepsBlocks old.memory new.memory → SameSlots old.memory new.memory
restore-left old new (inl e) = subst (λ m. SameSlots old.memory m) (sym e) (same-slots old.memory)
restore-left old new (inr h) = same-blocks_slots old.memory new.memory h.blocks

pub restore-cut_slots : (old new : NorState) → RestoreCut old new → old.is_slow ≡ false → SameSlots old.memory new.memory
restore-cut_slots old new h quick = restore-left old new (h.leaves quick)

-- what isn't live isn't copied
pub not-copied : (kind : Kind) (old : Slot) → ((tag : Tag) (x : List ℕ) → old ≢ Live tag x) → (tag : Tag) (x : List ℕ) → to_copy kind old ≢ Live tag x
not-copied kind Free out tag x e = out tag x e
not-copied kind (Live t y) out tag x e = out t y refl
not-copied kind NoGeneration out tag x e = out tag x e
not-copied kind Dead out tag x e = out tag x e
not-copied kind Outside out tag x e = out tag x e
