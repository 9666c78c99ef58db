-- A chip that is erased behind its superblock: every slot is free, nothing is corrupt, and each sector is zeros.
use Rattle.std.proofs.Common.{◌≡◌, ℕ, zero, suc, ◌+◌, ◌<◌, List, length, refl, sym, ap, ◌∙◌, subst, arith}
use Rattle.std.specs.Prelude.{◌/◌, ◌%◌}
use Rattle.chip_model.specs.Geometry.{IsChipSize, sector_count}
use Rattle.nor_layout.specs.declared.header.Generation.{Generation}
use Rattle.nor_layout.specs.Kinds.{kind_of}
use Rattle.erase_journal.specs.Blocks.{blank}
use Rattle.sector_slots.specs.Slots.{Slot, Free, Live, NoGeneration, Dead, Outside, is_void, is_copy_of, is_group, slot_in, content_bytes, data_blocks, data_block, kind_at, raw_slot, slot_at, slot_count, IsClean}
use Rattle.sector_slots.specs.Blocks.{IsAtRest, AreSettled, settled}
use Rattle.sector_slots.specs.Sectors.{zeros, LiveAt, SoundSlots, Single, winner, sector_content, sector_at, GroupsFit, IsSoundMap, IsAtRestMap}
use Rattle.sector_slots.specs.Sectors.{content_in as held_in}
use Rattle.sector_slots.proofs.CopyLaws.{counted-in, copies-none, IsWhole}
use Rattle.sector_slots.proofs.GroupLaws.{apart-single}
use Rattle.sector_slots.proofs.BlankLaws.{blank-kind, blank-slot, blank-content, erased-spare}

-- slots that are all free
abbrev IsFreeSlot : Slot → Type 0
IsFreeSlot Free = Unit {0}
IsFreeSlot (Live tag x) = ⊥
IsFreeSlot NoGeneration = ⊥
IsFreeSlot Dead = ⊥
IsFreeSlot Outside = ⊥

none-live : (f : ℕ → Slot) (n s g : ℕ) (k : Generation) (x : List ℕ) → ((t : ℕ) → t < n → f t ≡ Free) → LiveAt f n s g k x → ⊥
none-live f n s g k x free l = subst (λ a. IsFreeSlot a) (sym (free s l.number) ∙ l.is) tt

free-sound : (f : ℕ → Slot) (n count : ℕ) → ((t : ℕ) → t < n → f t ≡ Free) → SoundSlots f n count
free-sound f n count free = record {
  sector = λ s g k x l. absurd (none-live f n s g k x free l);
  neighbours = λ s t g j k x y l r other. absurd (none-live f n s g j x free l);
  two = λ r s t g i j k x y z a b c. absurd (none-live f n r g i x free a);
  whole = λ s low e. subst (λ a. IsWhole a) (sym (free s low) ∙ e) tt;
}

free-single : (f : ℕ → Slot) (n : ℕ) → ((t : ℕ) → t < n → f t ≡ Free) → Single f n
free-single f n free = record { one = λ s t g j k x y l r. absurd (none-live f n s g j x free l) }

no-winner : (f : ℕ → Slot) (n g : ℕ) → ((t : ℕ) → t < n → f t ≡ Free) → winner f n g ≡ Dead
unfolding winner
no-winner f zero g free = refl
no-winner f (suc n) g free = rw (free n (omega arith)) (no-winner f n g (λ t low. free t (omega arith)))

free-zeros : (f : ℕ → Slot) (n g : ℕ) → ((t : ℕ) → t < n → f t ≡ Free) → sector_content f n g ≡ zeros
free-zeros f n g free = ap held_in (no-winner f n g free)

-- data blocks that are all erased
blank-free : (m : List ℕ) → ((c : ℕ) → c < data_blocks m → data_block m c ≡ blank) → (s : ℕ) → s < slot_count m → slot_at m s ≡ Free
blank-free m each s low =
    let here : data_block m (s / 7) ≡ blank = each (s / 7) (omega (arith, low)) in
    counted-in (kind_at m) (raw_slot m) (data_blocks m) s (ap (λ b. is_void (kind_of b)) here ∙ ap is_void blank-kind)
    (copies-none (kind_at m) (data_blocks m) (s / 7) (λ d l. ap (λ b. is_copy_of (s / 7 + 4) (kind_of b)) (each d l) ∙ ap (λ k. is_copy_of (s / 7 + 4) k) blank-kind))
    ∙ (ap (λ b. slot_in b (s % 7)) here ∙ blank-slot (s % 7) (omega arith))

blank-clean : (m : List ℕ) → ((c : ℕ) → c < data_blocks m → data_block m c ≡ blank) → IsClean m
blank-clean m each = record {
  slots = λ s low free. ap (λ b. content_bytes b (s % 7)) (each (s / 7) (omega (arith, low))) ∙ blank-content (s % 7) (omega arith);
  spare = λ c low spare. each c low;
}

blank-settled : (m : List ℕ) → IsChipSize (length m) → ((c : ℕ) → c < data_blocks m → data_block m c ≡ blank) → AreSettled m
blank-settled m size each =
    let some : 0 < data_blocks m = (let e = size.least in omega (arith, e)) in
    record {
      rest = λ d low. subst (λ k. IsAtRest k) (sym (ap kind_of (each d low) ∙ blank-kind)) tt;
      reserve = 0;
      number = some;
      spare = erased-spare m 0 (each 0 some);
    }

blank-fit : (m : List ℕ) → ((t : ℕ) → t < slot_count m → slot_at m t ≡ Free) → ((c : ℕ) → c < data_blocks m → data_block m c ≡ blank) → GroupsFit m
blank-fit m free each = record {
  sectors = apart-single (kind_at m) (slot_at m) (slot_count m) (free-single (slot_at m) (slot_count m) free);
  layout = λ two c low. ap is_group (ap kind_of (each c low) ∙ blank-kind);
}

pub blank-holds_zeros : (m : List ℕ) → IsChipSize (length m) → ((c : ℕ) → c < data_blocks m → data_block m c ≡ blank) → IsClean m × IsSoundMap m × IsAtRestMap m × ((g : ℕ) → sector_at m g ≡ zeros)
blank-holds_zeros m size each =
    let free = blank-free m each in
    let blocks = blank-settled m size each in (
      blank-clean m each,
      record { slots = free-sound (slot_at m) (slot_count m) (sector_count (length m)) free; blocks = settled blocks; groups = blank-fit m free each },
      record { single = free-single (slot_at m) (slot_count m) free; blocks = blocks },
      λ g. free-zeros (slot_at m) (slot_count m) g free,
    )
