-- Byte 15 of the superblock is programmed: memories of one length and layout byte with the same data blocks.
use Rattle.std.proofs.Common.{◌≡◌, ℕ, ◌+◌, ◌-◌, ◌*◌, ◌<◌, List, length, sym, ap, ◌∙◌, subst, arith, inl}
use Rattle.std.specs.Prelude.{◌/◌, ◌%◌}
use Rattle.erase_journal.specs.Blocks.{OnlySuper}
use Rattle.chip_model.specs.Geometry.{block_count, sector_count}
use Rattle.nor_layout.specs.Kinds.{kind_of}
use Rattle.sector_slots.specs.Slots.{Slot, is_group, slot_in, content_bytes, counted, data_blocks, kind_at, raw_slot, slot_at, slot_count, IsClean}
use Rattle.sector_slots.specs.Blocks.{SoundBlocks}
use Rattle.sector_slots.specs.Sectors.{GroupsAreApart, SlotsRepresent, HoldsSectors}
use Rattle.sector_slots.specs.Laws.{IsMarked, MarksKeepSectors}
use Rattle.sector_slots.specs.Copying.{SameLive}
use Rattle.sector_slots.proofs.MoveLaws.{live-stands, same-back}
use Rattle.sector_slots.proofs.BlankLaws.{counted-same, same-sound}
use Rattle.sector_slots.proofs.GroupLaws.{kinds-stay, apart-fewer}

-- a program of byte 15 of the superblock, whole or cut, is one
pub only-marked : (m m' : List ℕ) → OnlySuper 15 m m' → IsMarked m m'
only-marked m m' h = record {
  same_length = h.same_length;
  layout = h.superblock 8 (omega arith) (λ e. omega arith);
  each = λ d low. h.each (d + 4) (omega arith) (omega (arith, low));
}

abbrev marked_slots : List ℕ → ℕ → ℕ → Slot
marked_slots m' n = counted (kind_at m') (raw_slot m') (block_count n - 4)

kinds-of : (m m' : List ℕ) → IsMarked m m' → (d : ℕ) → d < data_blocks m → kind_at m' d ≡ kind_at m d
kinds-of m m' h d low = ap kind_of (h.each d low)

slots-of : (m m' : List ℕ) → IsMarked m m' → (d i : ℕ) → d < data_blocks m → i < 7 → raw_slot m' d i ≡ raw_slot m d i
slots-of m m' h d i low small = ap (λ b. slot_in b i) (h.each d low)

marked-live : (m m' : List ℕ) → IsMarked m m' → (s : ℕ) → s < slot_count m → marked_slots m' (length m) s ≡ slot_at m s
marked-live m m' h s low = counted-same (kind_at m) (kind_at m') (raw_slot m) (raw_slot m') (data_blocks m) s (kinds-of m m' h) (slots-of m m' h) low

marked-holds : (m m' : List ℕ) (sectors : ℕ → List ℕ) → IsMarked m m' → HoldsSectors sectors m → HoldsSectors sectors m'
marked-holds m m' sectors h holds =
    let n = data_blocks m in
    let live : SameLive (slot_at m) (marked_slots m' (length m)) (slot_count m) = λ s low. inl (marked-live m m' h s low) in
    let s = live-stands (slot_at m) (marked_slots m' (length m)) (slot_count m) (sector_count (length m)) sectors live holds.slots in
    let b = same-sound (kind_at m) (kind_at m') (raw_slot m) (raw_slot m') n (kinds-of m m' h) (slots-of m m' h) holds.blocks in
    let a = apart-fewer (kind_at m) (kind_at m') (slot_at m) (marked_slots m' (length m)) n (kinds-stay (kind_at m) (kind_at m') (marked_slots m' (length m)) n (kinds-of m m' h))
    (same-back (slot_at m) (marked_slots m' (length m)) (slot_count m) live) holds.groups.sectors in
    record {
      slots = subst (λ k. SlotsRepresent (marked_slots m' k) (7 * (block_count k - 4)) (sector_count k) sectors) (sym h.same_length) s;
      blocks = subst (λ k. SoundBlocks (kind_at m') (raw_slot m') (block_count k - 4)) (sym h.same_length) b;
      groups = record {
        sectors = subst (λ k. GroupsAreApart (kind_at m') (marked_slots m' k) (7 * (block_count k - 4))) (sym h.same_length) a;
        layout = λ two c high.
            let e = h.same_length in
            let low : c < data_blocks m = omega (arith, high, e) in
            ap is_group (kinds-of m m' h c low) ∙ holds.groups.layout (sym h.layout ∙ two) c low;
      };
    }

marked-clean : (m m' : List ℕ) → IsMarked m m' → IsClean m → IsClean m'
marked-clean m m' h clean =
    let n = h.same_length in
    let after : (s : ℕ) → slot_at m' s ≡ marked_slots m' (length m) s = λ s. ap (λ k. marked_slots m' k s) n in
    record {
      slots = λ s high free.
          let low : s < slot_count m = omega (arith, high, n) in
          ap (λ b. content_bytes b (s % 7)) (h.each (s / 7) (omega (arith, low))) ∙ clean.slots s low (sym (marked-live m m' h s low) ∙ (sym (after s) ∙ free));
      spare = λ d high s.
          let low : d < data_blocks m = omega (arith, high, n) in
          let here = h.each d low in
          here ∙ clean.spare d low (record { plain = ap kind_of (sym here) ∙ s.plain; free = λ i small. ap (λ b. slot_in b i) (sym here) ∙ s.free i small });
    }

pub marks-keep : MarksKeepSectors
marks-keep m m' h = (λ sectors holds. marked-holds m m' sectors h holds, marked-clean m m' h)
