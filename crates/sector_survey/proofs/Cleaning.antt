-- What is erased of a memory whose journals were recovered is erased of the memory before.
use Rattle.std.proofs.Common.{IfSome, ◌≡◌, ℕ, ◌<◌, Bool, true, false, List, length, sym, ap, ◌∙◌, subst, arith}
use Rattle.std.proofs.lemmas.Option.{none-some}
use Rattle.std.specs.Prelude.{Option, Some, None, Result, Ok, Err}
use Rattle.nor_layout.specs.declared.layout.Layout.{Layout}
use Rattle.nor_layout.specs.declared.layout.Layout.TheVariants.{Groups, Sectors, Mixed}
use Rattle.nor_layout.specs.Headers.{header_of}
use Rattle.nor_layout.specs.Layouts.{layout_of}
use Rattle.nor_layout.specs.declared.superblock.SuperError.{SuperError}
use Rattle.chip_model.specs.Memory.{byte}
use Rattle.chip_model.specs.Geometry.{block_count}
use Rattle.erase_journal.specs.Blocks.{SameBlocks}
use Rattle.erase_journal.proofs.BlockLaws.{byte-blank}
use Rattle.sector_slots.specs.Blocks.{IsAtRest}
use Rattle.sector_slots.specs.Slots.{data_blocks}
use Rattle.sector_slots.specs.Groups.{IsCleanOfGroups}
use Rattle.sector_map.specs.Maps.{geometry_of}
use Rattle.sector_map.proofs.Restoring.{blocks-clean}
use Rattle.sector_survey.specs.Cleanness.{FreeBlockTells, FreeBlocksTell, GroupsTell, HasCleanGroups, HasFreeErased, IsCleannessOf, IsFirstDirty, IsOfGroups, Judges, SlotsTell, clean_by, is_clean}
use Rattle.sector_survey.specs.declared.clean.Cleanness.{Cleanness}
use Rattle.sector_survey.proofs.Verdicts.{count-same, block-same, kind-same}

turned : (m m' : List ℕ) → SameBlocks m m' → SameBlocks m' m
turned m m' s = record {
  chip = record {
    same_length = sym s.chip.same_length;
    superblock = λ k low. sym (s.chip.superblock k low);
  };
  each = λ b from low. sym (s.each b from (subst (λ n. b < block_count n) s.chip.same_length low));
}

slots-back : (o : Option Bool) (m m' : List ℕ) → SameBlocks m m' → SlotsTell o m' → SlotsTell o m
slots-back None m m' s h = λ rest. h (λ d low. let in_range = subst (λ n. d < n) (count-same m m' s) low in subst IsAtRest (sym (kind-same m m' d s in_range)) (rest d in_range))
slots-back (Some true) m m' s h = blocks-clean m' m (turned m m' s) h
slots-back (Some false) m m' s h = λ clean. h (blocks-clean m m' s clean)

tells-back : (o : Option ℕ) (m m' : List ℕ) (c : ℕ) → SameBlocks m m' → c < data_blocks m → FreeBlockTells o m' c → FreeBlockTells o m c
tells-back None m m' c s low h = λ free. sym (block-same m m' c s low) ∙ h (ap (λ b. header_of b) (block-same m m' c s low) ∙ free)
tells-back (Some k) m m' c s low h =
    let same = block-same m m' c s low in (
      record {
        number = low;
        inside = h.0.inside;
        free = sym (ap (λ b. header_of b) same) ∙ h.0.free;
        written = λ e. h.0.written (ap (λ b. byte b k) same ∙ e);
      },
      λ j less. sym (ap (λ b. byte b j) same) ∙ h.1 j less,
    )

blocks-back : (o : Option ℕ) (m m' : List ℕ) → SameBlocks m m' → FreeBlocksTell o m' → FreeBlocksTell o m
blocks-back None m m' s h = λ c low. tells-back None m m' c s low (h c (subst (λ n. c < n) (sym (count-same m m' s)) low))
blocks-back (Some at) m m' s h =
    let inside = subst (λ n. h.block < n) (count-same m m' s) h.dirty.0.number in
    record {
      block = h.block;
      byte = h.byte;
      place = h.place;
      dirty = tells-back (Some h.byte) m m' h.block s inside h.dirty;
      before = λ c low. tells-back None m m' c s (omega (arith, low, inside)) (h.before c low);
    }

-- what is found of a memory whose blocks are those of an image is found of the image
pub some-dirty : (o : Option ℕ) (image m m' : List ℕ) → m ≡ image → IsOfGroups image → SameBlocks m m' → FreeBlocksTell o m' → IfSome o (λ at. IsOfGroups image × IsFirstDirty image at)
some-dirty None image m m' e groups s h = tt
some-dirty (Some at) image m m' e groups s h = (groups, subst (λ z. IsFirstDirty z at) e (blocks-back (Some at) m m' s h))

groups-back : (layout : Layout) (o : Option ℕ) (m m' : List ℕ) → SameBlocks m m' → GroupsTell layout o m' → GroupsTell layout o m
groups-back Groups o m m' s h = blocks-back o m m' s h
groups-back Sectors o m m' s h = h
groups-back Mixed o m m' s h = h

pub cleanness-back : (layout : Layout) (says : Cleanness) (m m' : List ℕ) → SameBlocks m m' → IsCleannessOf layout says m' → IsCleannessOf layout says m
cleanness-back layout says m m' s h = record {
  slots = slots-back says.slots m m' s h.slots;
  groups = groups-back layout says.dirty_group m m' s h.groups;
}

pub erased-back : (m m' new : List ℕ) → SameBlocks m m' → HasFreeErased m' new → HasFreeErased m new
erased-back m m' new s h = record {
  size = h.size ∙ s.chip.same_length;
  superblock = λ k low. h.superblock k low ∙ s.chip.superblock k low;
  free = λ c low free. h.free c (subst (λ n. c < n) (sym (count-same m m' s)) low) (ap (λ b. header_of b) (block-same m m' c s low) ∙ free);
  others = λ c low other. h.others c (subst (λ n. c < n) (sym (count-same m m' s)) low) (λ e. other (sym (ap (λ b. header_of b) (block-same m m' c s low)) ∙ e)) ∙ block-same m m' c s low;
}

-- where such a byte is, the free blocks aren't erased
pub first-is-dirty : (m : List ℕ) (at : ℕ) → IsFirstDirty m at → IsCleanOfGroups m → ⊥
first-is-dirty m at h clean = let d = h.dirty.0 in d.written (ap (λ b. byte b h.byte) (clean h.block d.number d.free) ∙ byte-blank h.byte d.inside)

abbrev layout-number : Layout → ℕ
layout-number Groups = 1
layout-number Sectors = 2
layout-number Mixed = 3

abbrev said-number : Result Layout SuperError → ℕ
said-number (Ok layout) = layout-number layout
said-number (Err e) = 0

apart : (a b : Result Layout SuperError) → a ≡ b → said-number a ≡ said-number b
apart a b e = ap said-number e

groups-clean : (layout : Layout) (m : List ℕ) → layout_of m (geometry_of (length m)) ≡ Ok layout → GroupsTell layout None m → HasCleanGroups m
groups-clean Groups m is h = λ of. h
groups-clean Sectors m is h = λ of. absurd (let q : 2 ≡ 1 = apart (Ok Sectors) (Ok Groups) (sym is ∙ of) in omega (arith, q))
groups-clean Mixed m is h = λ of. absurd (let q : 3 ≡ 1 = apart (Ok Mixed) (Ok Groups) (sym is ∙ of) in omega (arith, q))

groups-dirty : (layout : Layout) (at : ℕ) (m : List ℕ) → layout_of m (geometry_of (length m)) ≡ Ok layout → GroupsTell layout (Some at) m → HasCleanGroups m → ⊥
groups-dirty Groups at m is h clean = first-is-dirty m at h (clean is)
groups-dirty Sectors at m is h clean = absurd (none-some at (sym h))
groups-dirty Mixed at m is h clean = absurd (none-some at (sym h))

judged-by : (slots : Option Bool) (found : Option ℕ) (layout : Layout) (m : List ℕ) → layout_of m (geometry_of (length m)) ≡ Ok layout → SlotsTell slots m → GroupsTell layout found m → Judges (clean_by slots found) m
judged-by slots (Some at) layout m is s h = λ clean. groups-dirty layout at m is h clean.1
judged-by (Some true) None layout m is s h = (s, groups-clean layout m is h)
judged-by (Some false) None layout m is s h = λ clean. s clean.0
judged-by None None layout m is s h = (s, groups-clean layout m is h)

pub judges : (says : Cleanness) (layout : Layout) (m : List ℕ) → layout_of m (geometry_of (length m)) ≡ Ok layout → IsCleannessOf layout says m → Judges (is_clean says) m
judges says layout m is h = judged-by says.slots says.dirty_group layout m is h.slots h.groups
