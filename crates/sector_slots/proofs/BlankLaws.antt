-- An erased block; and memories with the same data blocks.
use Rattle.std.proofs.Common.{◌≡◌, ℕ, ◌+◌, ◌-◌, ◌*◌, ◌<◌, List, length, refl, sym, ap, ◌∙◌, subst, arith, inl, inr}
use Rattle.std.specs.Prelude.{◌/◌, ◌%◌, drop}
use Rattle.std.proofs.lemmas.Bool.{cases_eq}
use Rattle.std.proofs.lemmas.List.{get_or-drop, ext_get_or}
use Rattle.chip_model.specs.Memory.{byte}
use Rattle.chip_model.specs.Parts.{part}
use Rattle.chip_model.proofs.PartLaws.{get-part, part-whole}
use Rattle.chip_model.specs.Geometry.{block_count, sector_count}
use Rattle.nor_layout.specs.declared.header.Header.TheVariants as headers
use Rattle.nor_layout.specs.declared.kind.Kind.{Kind}
use Rattle.nor_layout.specs.declared.kind.Kind.TheVariants as kinds
use Rattle.nor_layout.specs.Headers.{header_of}
use Rattle.nor_layout.specs.Kinds.{kind_of}
use Rattle.erase_journal.specs.Blocks.{blank, SameChip, OnlyBlock, SameBlocks}
use Rattle.erase_journal.proofs.BlockLaws.{length-blank, byte-blank}
use Rattle.sector_slots.specs.Slots.{Slot, Free, slot_with, slot_in, descriptor_in, header_in, written_in, content_bytes, blank_sector, counted, copies, is_copy_of, data_blocks, data_block, kind_at, raw_slot, slot_at, slot_count, IsSpareIn, SameSlots}
use Rattle.sector_slots.specs.Blocks.{IsAtRest, IsUncommitted, IsCopying, SoundBlocks, settled, crowded, copying}
use Rattle.sector_slots.proofs.GroupLaws.{room-same, kinds-stay, fit-step}
use Rattle.sector_slots.specs.Sectors.{IsSoundMap, HoldsSectors, sector_at}
use Rattle.sector_slots.proofs.WinnerLaws.{sound-stands}
use Rattle.sector_slots.specs.Copying.{SameLive}
use Rattle.sector_slots.proofs.CopyLaws.{copies-same}
use Rattle.sector_slots.proofs.MoveLaws.{live-stands, same-back}
use Rattle.sector_slots.proofs.MachineLaws.{holds-sized}

pub blank-kind : kind_of blank ≡ kinds.Plain
blank-kind =
    rw (byte-blank 0 (omega arith), byte-blank 1 (omega arith), byte-blank 2 (omega arith), byte-blank 3 (omega arith), byte-blank 4 (omega arith), byte-blank 5 (omega arith), byte-blank 6 (omega arith), byte-blank 7 (omega arith)) refl

blank-byte : (k j : ℕ) → k + j < 4096 → byte (drop k blank) j ≡ 255
blank-byte k j low = get_or-drop k blank j 0 ∙ byte-blank (k + j) low

blank-header : (k : ℕ) → k < 4000 → header_of (drop k blank) ≡ headers.Free
blank-header k low = rw (blank-byte k 0 (omega arith), blank-byte k 1 (omega arith), blank-byte k 2 (omega arith), blank-byte k 3 (omega arith)) refl

blank-descriptor : (i : ℕ) → i < 7 → descriptor_in blank i ≡ headers.Free
unfolding descriptor_in
blank-descriptor i low = ap (λ k. header_in k (written_in blank i) i) blank-kind ∙ blank-header (16 + 4 * i) (omega arith)

pub blank-slot : (i : ℕ) → i < 7 → slot_in blank i ≡ Free
unfolding slot_in
blank-slot i low = ap (λ h. slot_with h (content_bytes blank i)) (blank-descriptor i low)

pub blank-content : (i : ℕ) → i < 7 → content_bytes blank i ≡ blank_sector
blank-content i low =
    let a : length (part 512 blank (i + 1)) ≡ 512 = part-whole 512 blank (i + 1) (omega (arith, length-blank)) in
    let b : length (part 512 blank 1) ≡ 512 = part-whole 512 blank 1 (omega (arith, length-blank)) in
    ext_get_or 0 (part 512 blank (i + 1)) (part 512 blank 1) (a ∙ sym b) (λ j h.
    let small : j < 512 = omega (arith, a) in
    get-part 512 blank (i + 1) j small ∙ (byte-blank (512 * (i + 1) + j) (omega arith) ∙ sym (get-part 512 blank 1 j small ∙ byte-blank (512 * 1 + j) (omega arith))))

-- an erased block is wholly free
pub erased-spare : (m : List ℕ) (c : ℕ) → data_block m c ≡ blank → IsSpareIn m c
erased-spare m c e = record { plain = ap kind_of e ∙ blank-kind; free = λ i low. ap (λ b. slot_in b i) e ∙ blank-slot i low }

-- the same kinds and slots
pub counted-same : (kind kind' : ℕ → Kind) (slots slots' : ℕ → ℕ → Slot) (n s : ℕ) → ((d : ℕ) → d < n → kind' d ≡ kind d) → ((d i : ℕ) → d < n → i < 7 → slots' d i ≡ slots d i) → s < 7 * n
    → counted kind' slots' n s ≡ counted kind slots n s
unfolding counted
counted-same kind kind' slots slots' n s k x low =
    let a : kind' (s / 7) ≡ kind (s / 7) = k (s / 7) (omega arith) in
    let b : slots' (s / 7) (s % 7) ≡ slots (s / 7) (s % 7) = x (s / 7) (s % 7) (omega arith) (omega arith) in
    let z : copies kind' n (s / 7) ≡ copies kind n (s / 7) = copies-same kind kind' n (s / 7) (λ d h. ap (λ q. is_copy_of (s / 7 + 4) q) (k d h)) in
    rw (a, b, z) refl

pub same-sound : (kind kind' : ℕ → Kind) (slots slots' : ℕ → ℕ → Slot) (n : ℕ) → ((d : ℕ) → d < n → kind' d ≡ kind d) → ((d i : ℕ) → d < n → i < 7 → slots' d i ≡ slots d i) → SoundBlocks kind slots n → SoundBlocks kind' slots' n
same-sound kind kind' slots slots' n k x (settled h) = settled (record {
  rest = λ d low. subst (λ q. IsAtRest q) (sym (k d low)) (h.rest d low);
  reserve = h.reserve;
  number = h.number;
  spare = record { plain = k h.reserve h.number ∙ h.spare.plain; free = λ i low. x h.reserve i h.number low ∙ h.spare.free i low };
})
same-sound kind kind' slots slots' n k x (crowded rest room) = crowded (λ d low. subst (λ q. IsAtRest q) (sym (k d low)) (rest d low)) (room-same kind kind' n k room)
same-sound kind kind' slots slots' n k x (copying t h) = copying t (record {
  number = h.number;
  copying = subst (λ q. IsCopying q t n) (sym (k t h.number)) h.copying;
  others = λ d low other. subst (λ q. IsUncommitted q) (sym (k d low)) (h.others d low other);
})

-- the same data blocks, in kind and slots, hold the same sectors
pub same-holds : (m m' : List ℕ) (sectors : ℕ → List ℕ) → SameChip m m' → ((d : ℕ) → d < data_blocks m → kind_at m' d ≡ kind_at m d) → ((d i : ℕ) → d < data_blocks m → i < 7 → raw_slot m' d i ≡ raw_slot m d i)
    → HoldsSectors sectors m → HoldsSectors sectors m'
same-holds m m' sectors chip k x h =
    let live : SameLive (slot_at m) (counted (kind_at m') (raw_slot m') (data_blocks m)) (slot_count m) =
    λ s low. inl (counted-same (kind_at m) (kind_at m') (raw_slot m) (raw_slot m') (data_blocks m) s k x low) in
    holds-sized m m' sectors chip (live-stands (slot_at m) (counted (kind_at m') (raw_slot m') (data_blocks m)) (slot_count m) (sector_count (length m)) sectors live h.slots)
    (same-sound (kind_at m) (kind_at m') (raw_slot m) (raw_slot m') (data_blocks m) k x h.blocks)
    (fit-step m m' chip (kinds-stay (kind_at m) (kind_at m') (counted (kind_at m') (raw_slot m') (data_blocks m)) (data_blocks m) k) (same-back (slot_at m) (counted (kind_at m') (raw_slot m') (data_blocks m)) (slot_count m) live) h.groups)

-- one block that is as it was
pub unchanged-holds : (c : ℕ) (m m' : List ℕ) (sectors : ℕ → List ℕ) → OnlyBlock (c + 4) m m' → data_block m' c ≡ data_block m c → HoldsSectors sectors m → HoldsSectors sectors m'
unchanged-holds c m m' sectors only same h =
    let each : (d : ℕ) → d < data_blocks m → data_block m' d ≡ data_block m d = λ d low. elim (cases_eq d c) as (λ _. data_block m' d ≡ data_block m d) [
      | inl e ↦ ap (λ a. data_block m' a) e ∙ (same ∙ ap (λ a. data_block m a) (sym e))
      | inr ne ↦ only.others (d + 4) (omega arith) (omega arith) (λ e. ne (omega (arith, e)))
    ] in
    same-holds m m' sectors only.chip (λ d low. ap kind_of (each d low)) (λ d i low small. ap (λ b. slot_in b i) (each d low)) h

-- all blocks the same
pub blocks-holds : (m m' : List ℕ) (sectors : ℕ → List ℕ) → SameBlocks m m' → HoldsSectors sectors m → HoldsSectors sectors m'
blocks-holds m m' sectors same h = same-holds m m' sectors same.chip (λ d low. ap kind_of (same.each (d + 4) (omega arith) (omega arith))) (λ d i low small. ap (λ b. slot_in b i) (same.each (d + 4) (omega arith) (omega arith))) h

-- sound maps hold the sectors that are computed
pub sound-holds : (m : List ℕ) → IsSoundMap m → HoldsSectors (sector_at m) m
sound-holds m s = record { slots = sound-stands (slot_at m) (slot_count m) (sector_count (length m)) s.slots; blocks = s.blocks; groups = s.groups }

pub holds-sound : (m : List ℕ) (sectors : ℕ → List ℕ) → HoldsSectors sectors m → IsSoundMap m
holds-sound m sectors h = record { slots = h.slots.sound; blocks = h.blocks; groups = h.groups }

-- and are the same slots
pub same-blocks_slots : (m m' : List ℕ) → SameBlocks m m' → SameSlots m m'
same-blocks_slots m m' same =
    let n = same.chip.same_length in
    let block : (d : ℕ) → d < data_blocks m → data_block m' d ≡ data_block m d = λ d low. same.each (d + 4) (omega arith) (omega (arith, low)) in
    let slot : (s : ℕ) → s < slot_count m → counted (kind_at m') (raw_slot m') (data_blocks m) s ≡ slot_at m s =
    λ s low. counted-same (kind_at m) (kind_at m') (raw_slot m) (raw_slot m') (data_blocks m) s (λ d l. ap kind_of (block d l)) (λ d i l h. ap (λ b. slot_in b i) (block d l)) low in
    let after : (s : ℕ) → slot_at m' s ≡ counted (kind_at m') (raw_slot m') (data_blocks m) s = λ s. ap (λ k. counted (kind_at m') (raw_slot m') (block_count k - 4) s) n in
    record {
      chip = same.chip;
      each = λ s low. after s ∙ slot s low;
      clean = λ clean. record {
        slots = λ s high free.
            let low : s < slot_count m = omega (arith, high, n) in
            ap (λ b. content_bytes b (s % 7)) (block (s / 7) (omega (arith, low))) ∙ clean.slots s low (sym (slot s low) ∙ (sym (after s) ∙ free));
        spare = λ d high s.
            let low : d < data_blocks m = omega (arith, high, n) in
            let here = block d low in
            here ∙ clean.spare d low (record { plain = ap kind_of (sym here) ∙ s.plain; free = λ i small. ap (λ b. slot_in b i) (sym here) ∙ s.free i small });
      };
    }
