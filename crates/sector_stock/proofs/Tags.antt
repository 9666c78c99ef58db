-- Slots without their contents: what holds of tags alone. A commit moves the tags of a block's live slots, also where their contents
-- aren't those of the source.
use Rattle.std.proofs.Common.{◌≡◌, ◌≢◌, ℕ, ◌-◌, ◌*◌, Bool, true, false, List, [], length, refl, sym, ap, ◌∙◌, subst, if◌then◌else◌}
use Rattle.std.specs.Prelude.{◌/◌, ◌%◌}
use Rattle.chip_model.specs.Geometry.{block_count, sector_count}
use Rattle.erase_journal.specs.Blocks.{SameChip}
use Rattle.nor_layout.specs.declared.header.Generation.{Generation}
use Rattle.nor_layout.specs.declared.header.Tag.{Tag}
use Rattle.nor_layout.specs.declared.kind.Kind.{Kind}
use Rattle.sector_slots.specs.Slots.{Slot, Free, Live, NoGeneration, Dead, Outside, is_group, counted, is_counted, data_blocks, kind_at, raw_slot, slot_at, slot_count}
use Rattle.sector_slots.specs.Blocks.{SoundBlocks, copying}
use Rattle.sector_slots.proofs.BlockLaws.{commit-target, target-cut}
use Rattle.nor_layout.specs.declared.kind.Kind.TheVariants as kinds
use Rattle.sector_slots.specs.Copying.{Commits, copied_tag, to_copy}
use Rattle.sector_slots.proofs.CopyLaws.{IsWhole, quiet-live}
use Rattle.sector_slots.specs.Copying.{shifted}
use Rattle.sector_slots.proofs.CommitLaws.{commit-moves}
use Rattle.sector_slots.proofs.MoveLaws.{moves-single, moves-stands}
use Rattle.sector_slots.proofs.GroupLaws.{fit-sized, apart-single, only-stays}
use Rattle.sector_slots.proofs.WinnerLaws.{sound-stands}
use Rattle.sector_slots.specs.Sectors.{LiveAt, SoundSlots, Single, IsSingle, GroupsFit, IsSoundMap, sector_content}
use Rattle.sector_stock.specs.Copy.{bare}

-- what is to be copied of a slot, and its content
pub bare-to_copy : (k : Kind) (x : Slot) → bare (to_copy k x) ≡ to_copy k (bare x)
bare-to_copy k Free = refl
bare-to_copy k (Live tag y) = refl
bare-to_copy k NoGeneration = refl
bare-to_copy k Dead = refl
bare-to_copy k Outside = refl

pub to_copy-whole : (k : Kind) (x : Slot) → x ≢ NoGeneration → to_copy k x ≢ NoGeneration
to_copy-whole k Free whole e = whole e
to_copy-whole k (Live tag y) whole e = subst (λ a. IsWhole a) e tt
to_copy-whole k NoGeneration whole e = whole refl
to_copy-whole k Dead whole e = whole e
to_copy-whole k Outside whole e = whole e

-- of a block that isn't live with a group it is the slot itself
pub same-tag : (k : Kind) → ((g : Tag) → k ≢ kinds.Group g) → (tag : Tag) → copied_tag k tag ≡ tag
same-tag kinds.Plain n tag = refl
same-tag kinds.Void n tag = refl
same-tag (kinds.Committed b) n tag = refl
same-tag kinds.Settled n tag = refl
same-tag (kinds.Group g) n tag = absurd (n g refl)
same-tag kinds.DeadGroup n tag = refl
same-tag kinds.SpoiltGroup n tag = refl
same-tag kinds.Unknown n tag = refl

pub to_copy-same : (k : Kind) → ((tag : Tag) → copied_tag k tag ≡ tag) → (x : Slot) → to_copy k x ≡ x
to_copy-same k same Free = refl
to_copy-same k same (Live tag y) = ap (λ a. Live a y) (same tag)
to_copy-same k same NoGeneration = refl
to_copy-same k same Dead = refl
to_copy-same k same Outside = refl

either-bare : (t : Bool) (x : Slot) → (if t then bare x else Outside) ≡ bare (if t then x else Outside)
either-bare true x = refl
either-bare false x = refl

pub counted-bare : (kind : ℕ → Kind) (slots : ℕ → ℕ → Slot) (n w : ℕ) → counted kind (λ c i. bare (slots c i)) n w ≡ bare (counted kind slots n w)
unfolding counted
counted-bare kind slots n w = either-bare (is_counted kind n (w / 7)) (slots (w / 7) (w % 7))

abbrev tag_in : Slot → Tag → Tag
tag_in Free other = other
tag_in (Live tag x) other = tag
tag_in NoGeneration other = other
tag_in Dead other = other
tag_in Outside other = other

-- a slot is live with the tag that it has without its content
pub bare-live : (slot : Slot) (tag : Tag) (y : List ℕ) → bare slot ≡ Live tag y → (x : List ℕ) × (slot ≡ Live tag x)
bare-live Free tag y e = absurd (quiet-live Free tag.number tag.generation y tt e)
bare-live (Live own x) tag y e = (x, ap (λ a. Live a x) (ap (λ s. tag_in s tag) e))
bare-live NoGeneration tag y e = absurd (subst (λ a. IsWhole a) (sym e) tt)
bare-live Dead tag y e = absurd (quiet-live Dead tag.number tag.generation y tt e)
bare-live Outside tag y e = absurd (quiet-live Outside tag.number tag.generation y tt e)

pub bare-whole : (slot : Slot) → slot ≢ NoGeneration → bare slot ≢ NoGeneration
bare-whole Free whole e = whole e
bare-whole (Live tag x) whole e = subst (λ a. IsWhole a) e tt
bare-whole NoGeneration whole e = whole refl
bare-whole Dead whole e = whole e
bare-whole Outside whole e = whole e

-- the slots f, and b, which are these without their contents
abbrev pub IsBareOf : (ℕ → Slot) → (ℕ → Slot) → Type 0
IsBareOf f b = (w : ℕ) → b w ≡ bare (f w)

bare-on : (f b : ℕ → Slot) (n s g : ℕ) (k : Generation) (x : List ℕ) → IsBareOf f b → LiveAt f n s g k x → LiveAt b n s g k []
bare-on f b n s g k x same l = record { number = l.number; is = same s ∙ ap bare l.is }

bare-back : (f b : ℕ → Slot) (n s g : ℕ) (k : Generation) (y : List ℕ) → IsBareOf f b → LiveAt b n s g k y → (x : List ℕ) × LiveAt f n s g k x
bare-back f b n s g k y same l =
    let p = bare-live (f s) (record { number = g; generation = k }) y (sym (same s) ∙ l.is) in
    (p.0, record { number = l.number; is = p.1 })

bare-sound : (f b : ℕ → Slot) (n count : ℕ) → IsBareOf f b → SoundSlots f n count → SoundSlots b n count
bare-sound f b n count same h = record {
  sector = λ s g k x l. let p = bare-back f b n s g k x same l in h.sector s g k p.0 p.1;
  neighbours = λ s t g j k x y l r other.
      let p = bare-back f b n s g j x same l in
      let q = bare-back f b n t g k y same r in
      h.neighbours s t g j k p.0 q.0 p.1 q.1 other;
  two = λ r s t g i j k x y z a c d.
      let p = bare-back f b n r g i x same a in
      let q = bare-back f b n s g j y same c in
      let o = bare-back f b n t g k z same d in
      h.two r s t g i j k p.0 q.0 o.0 p.1 q.1 o.1;
  whole = λ s low e. bare-whole (f s) (h.whole s low) (sym (same s) ∙ e);
}

sound-bare : (f b : ℕ → Slot) (n count : ℕ) → IsBareOf f b → SoundSlots b n count → SoundSlots f n count
sound-bare f b n count same h = record {
  sector = λ s g k x l. h.sector s g k [] (bare-on f b n s g k x same l);
  neighbours = λ s t g j k x y l r other. h.neighbours s t g j k [] [] (bare-on f b n s g j x same l) (bare-on f b n t g k y same r) other;
  two = λ r s t g i j k x y z a c d. h.two r s t g i j k [] [] [] (bare-on f b n r g i x same a) (bare-on f b n s g j y same c) (bare-on f b n t g k z same d);
  whole = λ s low e. h.whole s low (same s ∙ ap bare e);
}

bare-single : (f b : ℕ → Slot) (n : ℕ) → IsBareOf f b → Single f n → Single b n
bare-single f b n same h = record {
  one = λ s t g j k x y l r.
      let p = bare-back f b n s g j x same l in
      let q = bare-back f b n t g k y same r in
      h.one s t g j k p.0 q.0 p.1 q.1;
}

sound-sized : (m m' : List ℕ) → SameChip m m' → SoundSlots (counted (kind_at m') (raw_slot m') (data_blocks m)) (slot_count m) (sector_count (length m)) → SoundBlocks (kind_at m') (raw_slot m') (data_blocks m) → GroupsFit m' → IsSoundMap m'
sound-sized m m' chip s b g = record {
  slots = subst (λ n. SoundSlots (counted (kind_at m') (raw_slot m') (block_count n - 4)) (7 * (block_count n - 4)) (sector_count n)) (sym chip.same_length) s;
  blocks = subst (λ n. SoundBlocks (kind_at m') (raw_slot m') (block_count n - 4)) (sym chip.same_length) b;
  groups = g;
}

single-of_bare : (f b : ℕ → Slot) (n : ℕ) → IsBareOf f b → Single b n → Single f n
single-of_bare f b n same h = record { one = λ s t g j k x y l r. h.one s t g j k [] [] (bare-on f b n s g j x same l) (bare-on f b n t g k y same r) }

-- a commit of tags leaves slots and blocks without a corrupt case
pub tags-sound : (s t : ℕ) (m m' : List ℕ) → SameChip m m' → Commits s t (data_blocks m) (kind_at m) (kind_at m') (λ c i. bare (raw_slot m c i)) (λ c i. bare (raw_slot m' c i)) → IsSoundMap m → IsSingle m → IsSoundMap m'
tags-sound s t m m' chip now sound single =
    let n = data_blocks m in
    let count = sector_count (length m) in
    let old = λ (w : ℕ). counted (kind_at m) (λ c i. bare (raw_slot m c i)) n w in
    let new = λ (w : ℕ). counted (kind_at m') (λ c i. bare (raw_slot m' c i)) n w in
    let before = bare-sound (slot_at m) old (slot_count m) count (counted-bare (kind_at m) (raw_slot m) n) sound.slots in
    let moves = commit-moves s t n (kind_at m) (kind_at m') (λ c i. bare (raw_slot m c i)) (λ c i. bare (raw_slot m' c i)) now before.whole in
    let after = moves-stands old new (slot_count m) count (sector_content old (slot_count m)) (shifted s t) (shifted t s) moves
    (bare-single (slot_at m) old (slot_count m) (counted-bare (kind_at m) (raw_slot m) n) single) (sound-stands old (slot_count m) count before) in
    let one = moves-single old new (slot_count m) (shifted s t) (shifted t s) moves (bare-single (slot_at m) old (slot_count m) (counted-bare (kind_at m) (raw_slot m) n) single) in
    let one' = single-of_bare (counted (kind_at m') (raw_slot m') n) new (slot_count m) (counted-bare (kind_at m') (raw_slot m') n) one in
    sound-sized m m' chip (sound-bare (counted (kind_at m') (raw_slot m') n) new (slot_count m) count (counted-bare (kind_at m') (raw_slot m') n) after.sound)
    (copying t (target-cut t n (kind_at m') (commit-target s t n (kind_at m) (kind_at m') (λ c i. bare (raw_slot m c i)) (λ c i. bare (raw_slot m' c i)) now)))
    (fit-sized m m' chip (apart-single (kind_at m') (counted (kind_at m') (raw_slot m') n) (slot_count m) one')
    (only-stays t n (kind_at m) (kind_at m') (λ c i. bare (raw_slot m c i)) (λ c i. bare (raw_slot m' c i)) (counted (kind_at m') (raw_slot m') n) now.only (ap is_group now.now ∙ sym (ap is_group now.was))) sound.groups.layout)
