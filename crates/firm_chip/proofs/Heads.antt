-- What a draw leaves of a data block.
use Rattle.std.proofs.Common.{◌≡◌, ◌≢◌, ℕ, ◌+◌, ◌-◌, ◌*◌, ◌<◌, ◌⊎◌, false, List, length, refl, sym, ap, ◌∙◌, subst, arith, inl, inr, lit<}
use Rattle.std.specs.Prelude.{◌/◌, ◌%◌}
use Rattle.std.proofs.lemmas.Bool.{cases_lt}
use Rattle.std.proofs.lemmas.List.{ext_get_or}
use Rattle.chip_model.specs.Memory.{byte}
use Rattle.chip_model.specs.Parts.{part}
use Rattle.chip_model.specs.Wavering.{Drawn}
use Rattle.nor_layout.specs.declared.kind.Kind.TheVariants as kinds
use Rattle.nor_layout.specs.Kinds.{kind_of}
use Rattle.erase_journal.specs.Blocks.{blank}
use Rattle.erase_journal.proofs.BlockLaws.{length-blank, byte-blank}
use Rattle.sector_slots.specs.Slots.{Free, slot_in, content_bytes, blank_sector, is_group, copies, data_block, data_blocks, kind_at, raw_slot, IsSpareIn}
use Rattle.sector_slots.specs.Copying.{HoldsNothing}
use Rattle.sector_slots.proofs.GroupLaws.{group-four}
use Rattle.sector_slots.proofs.BlankLaws.{blank-kind, blank-content}
use Rattle.sector_slots.proofs.HeadLaws.{idle-kind, void-kind, void-plain}
use Rattle.journal_slots.proofs.Marks.{plain-bytes, kind-eight}
use Rattle.journal_slots.proofs.Places.{fresh-descriptor}
use Rattle.journal_slots.proofs.Places as places
use Rattle.erase_journal.specs.Weak.{AreFirm}
use Rattle.firm_chip.specs.FirmChips.{IsFirmChip, IsFirmBlock, marked, perhaps_begun, void, erasing, IsOfSlots, AreFirmly, IsFading, data_place}
use Rattle.firm_chip.proofs.Draws.{of-chip, believed-drawn, named-drawn}
use Rattle.erase_journal.proofs.Draws.{firm-byte}
use Rattle.firm_chip.proofs.Spans.{block-drawn, erasing-blank, byte-there, begun-drawn, begun-was}
use Rattle.firm_chip.proofs.Slots.{SlotDrawn, same, IsThere, slot-drawn, slot-clean, never-nothing, never-of, never-clean, firmly-read, length-there}

-- The block's kind is the same, and its slots are drawn; or it is void, before and after; or it is
-- plain or void, before and after, and its slots hold nothing.
pub data KindDrawn (m w m' : List ℕ) (c : ℕ) : Type 0 where
  kept : kind_at m' c ≡ kind_at m c
      → ((i : ℕ) → i < 7 → SlotDrawn (IsFading m w (7 * c + i)) (raw_slot m c i) (raw_slot m' c i))
      → KindDrawn m w m' c
  never : kind_at m c ≡ kinds.Void → kind_at m' c ≡ kinds.Void → KindDrawn m w m' c
  perhaps : (kind_at m c ≡ kinds.Plain) ⊎ (kind_at m c ≡ kinds.Void)
      → (kind_at m' c ≡ kinds.Plain) ⊎ (kind_at m' c ≡ kinds.Void)
      → ((i : ℕ) → i < 7 → HoldsNothing (raw_slot m c i) × HoldsNothing (raw_slot m' c i))
      → KindDrawn m w m' c

pub record BlockDrawn (m w m' : List ℕ) (c : ℕ) : Type 0 where
  pub slots : is_group (kind_at m' c) ≡ false
  pub kind : KindDrawn m w m' c
  pub clean : kind_at m' c ≢ kinds.Void → copies (kind_at m) (data_blocks m) c ≡ 0 → (i : ℕ) → i < 7 → raw_slot m' c i ≡ Free → content_bytes (data_block m' c) i ≡ blank_sector
  pub spare : IsSpareIn m' c → data_block m' c ≡ blank

-- what the first bytes say
no-group : (b : List ℕ) → ((k : ℕ) → k < 4 → byte b k ≡ 255) → is_group (kind_of b) ≡ false
no-group b e =
    let z = λ (k : ℕ) (h : k < 4). e k h ∙ sym (byte-blank k (omega (arith, h))) in
    group-four blank b (z 0 (lit< tt)) (z 1 (lit< tt)) (z 2 (lit< tt)) (z 3 (lit< tt)) ∙ ap is_group blank-kind

-- a block that is erased before and after
pub both-blank : (m w m' : List ℕ) (c : ℕ) → data_block m c ≡ blank → data_block m' c ≡ blank → BlockDrawn m w m' c
both-blank m w m' c e e' = record {
  slots = ap (λ b. is_group (kind_of b)) e' ∙ ap is_group blank-kind;
  kind = kept (ap kind_of (e' ∙ sym e)) (λ i low. same (ap (λ b. slot_in b i) (e' ∙ sym e)));
  clean = λ _ _ i low _. ap (λ b. content_bytes b i) e' ∙ blank-content i low;
  spare = λ _. e';
}

-- the first bytes, where they are the memory's
pub start-was : (m w : List ℕ) (c : ℕ) → data_block m c ≡ part 4096 m (c + 4) → AreFirmly m w (data_place c) 4 255 → (k : ℕ) → k < 4 → byte (data_block m c) k ≡ 255
start-was m w c e f k low = byte-there m c k (data_place c + k) e (omega (arith, low)) refl ∙ f.reads k low

pub start-is : (m w m' : List ℕ) (c : ℕ) → Drawn w m m' → data_block m' c ≡ part 4096 m' (c + 4) → AreFirmly m w (data_place c) 4 255 → (k : ℕ) → k < 4 → byte (data_block m' c) k ≡ 255
start-is m w m' c d e f k low = byte-there m' c k (data_place c + k) e (omega (arith, low)) refl ∙ firmly-read m w m' (data_place c) 4 255 d f k low

pub state-there : (m : List ℕ) (c : ℕ) → data_block m c ≡ part 4096 m (c + 4) → byte (data_block m c) 4 ≡ byte m (data_place c + 4)
state-there m c e = byte-there m c 4 (data_place c + 4) e (omega arith) refl

pub there : (m : List ℕ) (c : ℕ) → c < data_blocks m → data_block m c ≡ part 4096 m (c + 4) → ((k : ℕ) → k < 4 → byte (data_block m c) k ≡ 255) → IsThere m c
there m c low e f = record { number = omega (arith, low); bytes = e; slots = no-group (data_block m c) f }

-- a wholly free block is erased
spare-byte : (m w m' : List ℕ) (c : ℕ) → Drawn w m m' → IsThere m' c → IsOfSlots m w c
    → ((i : ℕ) → i < 7 → raw_slot m' c i ≡ Free → content_bytes (data_block m' c) i ≡ blank_sector) → IsSpareIn m' c → (k : ℕ) → k < 4096 → byte (data_block m' c) k ≡ 255
spare-byte m w m' c d h o clean s k low = elim (cases_lt k 8) as (λ _. byte (data_block m' c) k ≡ 255) [
  | inl a ↦ plain-bytes (data_block m' c) s.plain k a
  | inr a ↦ elim (cases_lt k 16) as (λ _. byte (data_block m' c) k ≡ 255) [
    | inl b ↦ byte-there m' c k ((data_place c + 8) + (k - 8)) h.bytes low (omega arith) ∙ firmly-read m w m' (data_place c + 8) 8 255 d o.after_mark (k - 8) (omega arith)
    | inr b ↦ elim (cases_lt k 44) as (λ _. byte (data_block m' c) k ≡ 255) [
      | inl e ↦
          let z : 16 + 4 * ((k - 16) / 4) + (k - 16) % 4 ≡ k = omega arith in
          let i : (k - 16) / 4 < 7 = omega arith in
          let f = fresh-descriptor c ((k - 16) / 4) m' (s.free ((k - 16) / 4) i) ((k - 16) % 4) (omega arith) in
          subst (λ q. byte (data_block m' c) q ≡ 255) z f
      | inr e ↦ elim (cases_lt k 512) as (λ _. byte (data_block m' c) k ≡ 255) [
        | inl g ↦ byte-there m' c k ((data_place c + 44) + (k - 44)) h.bytes low (omega arith) ∙ firmly-read m w m' (data_place c + 44) 468 255 d o.after_descriptors (k - 44) (omega arith)
        | inr g ↦
            let i : (k - 512) / 512 < 7 = omega arith in
            let z : 512 * ((k - 512) / 512 + 1) + (k - 512) % 512 ≡ k = omega arith in
            let f = places.blank-content (data_block m' c) ((k - 512) / 512) (clean ((k - 512) / 512) i (s.free ((k - 512) / 512) i)) ((k - 512) % 512) (omega arith) in
            subst (λ q. byte (data_block m' c) q ≡ 255) z f
      ]
    ]
  ]
]

pub spare-blank : (m w m' : List ℕ) (c : ℕ) → Drawn w m m' → IsThere m' c → IsOfSlots m w c
    → ((i : ℕ) → i < 7 → raw_slot m' c i ≡ Free → content_bytes (data_block m' c) i ≡ blank_sector) → IsSpareIn m' c → data_block m' c ≡ blank
spare-blank m w m' c d h o clean s =
    let n : length (data_block m' c) ≡ 4096 = length-there m' c h in
    ext_get_or 0 (data_block m' c) blank (n ∙ sym length-blank) (λ k q.
    let low : k < 4096 = omega (arith, q, n) in
    spare-byte m w m' c d h o clean s k low ∙ sym (byte-blank k low))

not-spare : (m : List ℕ) (c : ℕ) → kind_at m c ≡ kinds.Void → IsSpareIn m c → ⊥
not-spare m c e s = void-plain (kind_at m c) e s.plain

-- the same eight bytes
same-kind : (m w m' : List ℕ) (c : ℕ) → Drawn w m m' → data_block m c ≡ part 4096 m (c + 4) → data_block m' c ≡ part 4096 m' (c + 4) → AreFirmly m w (data_place c) 4 255 → AreFirm w (data_place c + 4) 4 → kind_at m' c ≡ kind_at m c
same-kind m w m' c d e e' f g =
    let a = λ (k : ℕ) (h : k < 4). start-is m w m' c d e' f k h ∙ sym (start-was m w c e f k h) in
    let b = λ (k : ℕ) (h : k < 4). byte-there m' c (4 + k) ((data_place c + 4) + k) e' (omega (arith, h)) (omega arith) ∙ (firm-byte m w m' ((data_place c + 4) + k) d (g k h) ∙ sym (byte-there m c (4 + k) ((data_place c + 4) + k) e (omega (arith, h)) (omega arith))) in
    kind-eight (data_block m' c) (data_block m c) (a 0 (lit< tt)) (a 1 (lit< tt)) (a 2 (lit< tt)) (a 3 (lit< tt)) (b 0 (lit< tt)) (b 1 (lit< tt)) (b 2 (lit< tt)) (b 3 (lit< tt))

stays-drawn : (m w m' : List ℕ) (c : ℕ) → IsFirmChip m w → Drawn w m m' → c < data_blocks m → data_block m c ≡ part 4096 m (c + 4) → data_block m' c ≡ part 4096 m' (c + 4) → IsFirmBlock m w c → BlockDrawn m w m' c
stays-drawn m w m' c f d low e e' (marked o g x) =
    let h = there m c low e (start-was m w c e o.start) in
    let h' = there m' c (let n = d.same_length in omega (arith, low, n)) e' (start-is m w m' c d e' o.start) in
    let clean = λ (i : ℕ) (l : i < 7) (r : raw_slot m' c i ≡ Free). slot-clean m w m' c i d h' l (x i l) r in
    record {
      slots = h'.slots;
      kind = kept (same-kind m w m' c d e e' o.start g) (λ i l. slot-drawn m w m' c i d h h' l (x i l));
      clean = λ _ _. clean;
      spare = λ s. spare-blank m w m' c d h' o clean s;
    }
stays-drawn m w m' c f d low e e' (perhaps_begun o g x) =
    let h = there m c low e (start-was m w c e o.start) in
    let h' = there m' c (let n = d.same_length in omega (arith, low, n)) e' (start-is m w m' c d e' o.start) in
    let clean = λ (i : ℕ) (l : i < 7) (r : raw_slot m' c i ≡ Free). never-clean m w m' c i d h' l (x i l) r in
    let s = state-there m c e in
    let s' = state-there m' c e' in
    record {
      slots = h'.slots;
      kind = perhaps
          (idle-kind (data_block m c) (start-was m w c e o.start) (rw s (begun-was m w c g)))
          (idle-kind (data_block m' c) (start-is m w m' c d e' o.start) (rw s' (begun-drawn m w m' c d g)))
          (λ i l. never-nothing m w m' c i d h h' l (never-of m w (7 * c + i) (x i l)));
      clean = λ _ _. clean;
      spare = λ s. spare-blank m w m' c d h' o clean s;
    }
stays-drawn m w m' c f d low e e' (void o g v) =
    let h' = there m' c (let n = d.same_length in omega (arith, low, n)) e' (start-is m w m' c d e' o) in
    let was = void-kind (data_block m c) (start-was m w c e o) (state-there m c e ∙ v) in
    let is : kind_at m' c ≡ kinds.Void = same-kind m w m' c d e e' o g ∙ was in
    record {
      slots = h'.slots;
      kind = never was is;
      clean = λ n _. absurd (n is);
      spare = λ s. absurd (not-spare m' c is s);
    }
stays-drawn m w m' c f d low e e' (erasing b n) =
    let n' = named-drawn m w m' (of-chip m w f) d (c + 4) in
    both-blank m w m' c (erasing-blank m c b n) (erasing-blank m' c (believed-drawn m w m' (of-chip m w f) d ∙ b) (omega (arith, n, n')))

pub chip-block : (m w m' : List ℕ) → IsFirmChip m w → Drawn w m m' → (c : ℕ) → c < data_blocks m → BlockDrawn m w m' c
chip-block m w m' f d c low = elim (block-drawn m w m' c (of-chip m w f) d) as (λ _. BlockDrawn m w m' c) [
  | inl p ↦ both-blank m w m' c p.0 p.1
  | inr p ↦ stays-drawn m w m' c f d low p.0 p.1 (f.blocks c low)
]
