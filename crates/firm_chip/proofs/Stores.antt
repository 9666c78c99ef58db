-- Each draw of what a firm mount leaves is the same disk.
use Rattle.std.proofs.Common.{◌≡◌, ◌≢◌, ℕ, suc, ◌+◌, ◌-◌, ◌*◌, ◌<◌, ◌≤◌, ◌⊎◌, true, false, List, refl, sym, ap, ◌∙◌, subst, arith, inl, inr, lit<}
use Rattle.std.specs.Prelude.{◌/◌, ◌%◌}
use Rattle.std.specs.Int.{bit_at}
use Rattle.std.proofs.lemmas.Bool.{cases_eq}
use Rattle.std.proofs.lemmas.List.{get_or-replicate}
use Rattle.std.proofs.lemmas.Nat.Bits.{same_from_bits, bit_at-zero, bit_at-suc, bit_at_ones}
use Rattle.chip_model.specs.Memory.{byte}
use Rattle.chip_model.specs.Parts.{part}
use Rattle.chip_model.specs.Wavering.{Bits, Drawn}
use Rattle.nor_layout.specs.declared.kind.Kind.{Kind}
use Rattle.nor_layout.specs.declared.kind.Kind.TheVariants as kinds
use Rattle.erase_journal.specs.Blocks.{blank}
use Rattle.erase_journal.specs.Weak.{AreFirm}
use Rattle.erase_journal.proofs.BlockLaws.{byte-blank}
use Rattle.erase_journal.proofs.Draws.{firm-byte}
use Rattle.sector_slots.specs.Slots.{Slot, Free, Live, written_in, content_bytes, blank_sector, is_group, is_void, copies, data_block, data_blocks, kind_at, raw_slot, slot_at, IsSpareIn, IsClean}
use Rattle.sector_slots.specs.Blocks.{IsAtRest}
use Rattle.sector_slots.specs.Copying.{HoldsNothing}
use Rattle.sector_slots.specs.Sectors.{HasSlotsAlone, zeros}
use Rattle.sector_slots.specs.Weak.{AreEdgesFirm, IsDeadForGood, IsFadingSlot, IsSureSlot, firm, dead, fading, IsDoubtfulSlot, IsDoubtfulMark, IsSureBlock, mark_place, descriptor_place, sector_place}
use Rattle.sector_slots.proofs.BlankLaws.{blank-content, erased-spare}
use Rattle.sector_slots.proofs.CopyLaws.{counted-in}
use Rattle.journal_slots.proofs.Marks.{kind-eight}
use Rattle.journal_slots.proofs.Places as places
use Rattle.firm_chip.specs.FirmChips.{AreFirmly, NeverReads, IsFading, IsBegunAtMost, IsOfSlots, data_place, head_place, content_place}
use Rattle.firm_chip.specs.Stores.{EachDrawOfADoubtedStoreIsTheSameDisk}
use Rattle.firm_chip.proofs.Draws.{AreChipJournals, never-is}
use Rattle.firm_chip.proofs.FirmJournals.{of-firm-chips}
use Rattle.firm_chip.proofs.Spans.{block-drawn, byte-there, content-byte, begun-drawn}
use Rattle.firm_chip.proofs.Slots.{SlotDrawn, same, idle, faded, IsThere, same-slot, never-nothing, fading-drawn, free-state, erased-content}
use Rattle.sector_slots.proofs.HeadLaws.{slot-written, idle-kind, void-plain}
use Rattle.firm_chip.proofs.Heads.{KindDrawn, kept, never, perhaps, BlockDrawn, both-blank, there, start-is, state-there, spare-blank}
use Rattle.firm_chip.proofs.Disks.{IsDrawnDisk, drawn-same, live-there, slot_number, not-rest-void}

-- A state that is dead for good is neither a free one's nor a live one's.
ones-from-two : (k : ℕ) → 2 ≤ k → k < 8 → bit_at 252 k ≡ 1
ones-from-two k from below =
    let z : k ≡ suc (suc (k - 2)) = omega (arith, from) in
    ap (λ i. bit_at 252 i) z ∙ (bit_at-suc 252 (suc (k - 2)) ∙ (bit_at-suc 126 (k - 2) ∙ bit_at_ones 6 (k - 2) (omega (arith, from, below))))

-- a number of which one bit at most is 1, the third; and the first
third-alone : (v : ℕ) → ((k : ℕ) → k ≢ 2 → bit_at v k ≡ 0) → (v ≡ 0) ⊎ (v ≡ 4)
third-alone v none =
    let high : v / 2 / 2 / 2 ≡ 0 = same_from_bits (v / 2 / 2 / 2) 0 (λ k.
    sym (bit_at-suc (v / 2 / 2) k) ∙ (sym (bit_at-suc (v / 2) (suc k)) ∙ (sym (bit_at-suc v (suc (suc k))) ∙ (none (suc (suc (suc k))) (λ e. omega (arith, e)) ∙ sym (bit_at-zero k))))) in
    let one : bit_at v 0 ≡ 0 = none 0 (λ e. omega (arith, e)) in
    let two : bit_at v 1 ≡ 0 = none 1 (λ e. omega (arith, e)) in
    elim (cases_eq v 0) [ inl e ↦ inl e | inr n ↦ inr (omega (arith, high, one, two, n)) ]

first-alone : (v : ℕ) → ((k : ℕ) → k ≢ 0 → bit_at v k ≡ 0) → v ≤ 1
first-alone v none =
    let half : v / 2 ≡ 0 = same_from_bits (v / 2) 0 (λ k. sym (bit_at-suc v k) ∙ (none (suc k) (λ e. omega (arith, e)) ∙ sym (bit_at-zero k))) in
    omega (arith, half)

-- which blocks count
pub not-void : (k : Kind) → k ≢ kinds.Void → is_void k ≡ false
not-void kinds.Plain n = refl
not-void kinds.Void n = absurd (n refl)
not-void (kinds.Committed source) n = refl
not-void kinds.Settled n = refl
not-void (kinds.Group tag) n = refl
not-void kinds.DeadGroup n = refl
not-void kinds.SpoiltGroup n = refl
not-void kinds.Unknown n = refl

-- a free slot that counts is erased
pub free-clean : (m : List ℕ) (c i : ℕ) → IsClean m → c < data_blocks m → i < 7 → is_void (kind_at m c) ≡ false → copies (kind_at m) (data_blocks m) c ≡ 0 → raw_slot m c i ≡ Free → content_bytes (data_block m c) i ≡ blank_sector
free-clean m c i clean low small counts none free =
    let w = 7 * c + i in
    let block : w / 7 ≡ c = omega (arith, small) in
    let place : w % 7 ≡ i = omega (arith, small) in
    let is : slot_at m w ≡ Free = counted-in (kind_at m) (raw_slot m) (data_blocks m) w (ap (λ d. is_void (kind_at m d)) block ∙ counts) (ap (λ d. copies (kind_at m) (data_blocks m) d) block ∙ none)
    ∙ (ap (λ d. raw_slot m d (w % 7)) block ∙ (ap (λ j. raw_slot m c j) place ∙ free)) in
    sym (ap (λ d. content_bytes (data_block m d) (w % 7)) block ∙ ap (λ j. content_bytes (data_block m c) j) place) ∙ clean.slots w (omega (arith, low, small)) is

not-free-live : (s : Slot) {x : _} {y : List ℕ} → s ≡ Free → s ≡ Live x y → ⊥
not-free-live s f l = (let q : 0 ≡ 1 = ap slot_number (sym f ∙ l) in omega (arith, q))

-- What a draw leaves of a slot: as sectors see it; and one that reads as free did so before, and its
-- sector is firm.
record SlotRead (m w m' : List ℕ) (c i : ℕ) : Type 0 where
  drawn : SlotDrawn (IsFading m w (7 * c + i)) (raw_slot m c i) (raw_slot m' c i)
  free : raw_slot m' c i ≡ Free → (raw_slot m c i ≡ Free) × AreFirm w (content_place (7 * c + i)) 512

module _ (b : Bits) (m' : List ℕ) (d : Drawn b.weak b.shown m') where
  head-is : (c i : ℕ) → i < 7 → descriptor_place c i ≡ head_place (7 * c + i)
  head-is c i low = omega (arith, low)

  sector-is : (c i : ℕ) → i < 7 → sector_place c i ≡ content_place (7 * c + i)
  sector-is c i low = omega (arith, low)

  head-firm : (c i : ℕ) → i < 7 → AreFirm b.weak (descriptor_place c i) 4 → AreFirm b.weak (head_place (7 * c + i)) 4
  head-firm c i low f = subst (λ p. AreFirm b.weak p 4) (head-is c i low) f

  sector-firm : (c i : ℕ) → i < 7 → AreFirm b.weak (sector_place c i) 512 → AreFirm b.weak (content_place (7 * c + i)) 512
  sector-firm c i low f = subst (λ p. AreFirm b.weak p 512) (sector-is c i low) f

  -- a slot whose bits are firm
  firm-slot : (c i : ℕ) → IsThere b.shown c → IsThere m' c → i < 7 → AreFirm b.weak (head_place (7 * c + i)) 4 → AreFirm b.weak (content_place (7 * c + i)) 512 → raw_slot m' c i ≡ raw_slot b.shown c i
  firm-slot c i h h' low f g = same-slot b.shown b.weak m' c i d h h' low (λ j small. firm-byte b.shown b.weak m' (head_place (7 * c + i) + j) d (f j small)) g

  firm-read : (c i : ℕ) → IsThere b.shown c → IsThere m' c → i < 7 → AreFirm b.weak (head_place (7 * c + i)) 4 → AreFirm b.weak (content_place (7 * c + i)) 512 → SlotRead b.shown b.weak m' c i
  firm-read c i h h' low f g = (let e = firm-slot c i h h' low f g in record { drawn = same e; free = λ r. (sym e ∙ r, g) })

  -- one that is dead for good
  dead-never : (c i v : ℕ) → i < 7 → (x : IsDeadForGood b c i) → bit_at v x.bit ≡ 1 → NeverReads b.shown b.weak (head_place (7 * c + i)) v
  dead-never c i v low x one = record {
    bit = x.bit;
    firm = subst (λ p. bit_at (byte b.weak p) x.bit ≡ 0) (head-is c i low) x.firm;
    differs = λ e. (let z : bit_at (byte b.shown (head_place (7 * c + i))) x.bit ≡ 0 = subst (λ p. bit_at (byte b.shown p) x.bit ≡ 0) (head-is c i low) x.reads in omega (arith, e, z, one));
  }

  dead-free : (c i : ℕ) → i < 7 → (x : IsDeadForGood b c i) → NeverReads b.shown b.weak (head_place (7 * c + i)) 255
  dead-free c i low x = dead-never c i 255 low x (bit_at_ones 8 x.bit x.below)

  free-head : (m : List ℕ) (c i : ℕ) → IsThere m c → i < 7 → raw_slot m c i ≡ Free → byte m (head_place (7 * c + i)) ≡ 255
  free-head m c i h low free = (let z : head_place (7 * c + i) + 0 ≡ head_place (7 * c + i) = omega arith in ap (λ k. byte m k) (sym z) ∙ free-state m c i h low free 0 (lit< tt))

  dead-read : (c i : ℕ) → IsThere b.shown c → IsThere m' c → i < 7 → IsDeadForGood b c i → SlotRead b.shown b.weak m' c i
  dead-read c i h h' low x =
      let p = never-nothing b.shown b.weak m' c i d h h' low (dead-never c i 252 low x (ones-from-two x.bit x.from x.below)) in
      record { drawn = idle p.0 p.1; free = λ r. absurd (never-is b.shown b.weak m' (head_place (7 * c + i)) 255 d (dead-free c i low x) (free-head m' c i h' low r)) }

  -- one that may fade
  module _ (c i : ℕ) (h : IsThere b.shown c) (h' : IsThere m' c) (low : i < 7) (x : IsFadingSlot b c i) where
    abbrev at : ℕ
    at = head_place (7 * c + i)

    fading-state : (k : ℕ) → k ≢ 2 → bit_at (byte b.weak at) k ≡ 0
    fading-state k n = subst (λ p. bit_at (byte b.weak p) k ≡ 0) (head-is c i low) (x.state k n)

    fading-rest : AreFirm b.weak (at + 1) 3
    fading-rest = subst (λ p. AreFirm b.weak (p + 1) 3) (head-is c i low) x.rest

    fading-live : byte b.shown at ≡ 252
    fading-live = (live-there b.shown c i x.tag.number x.tag.generation zeros h low x.live).0

    fading-firm : byte b.weak at ≡ 0 → AreFirm b.weak at 4
    fading-firm e j small = elim (cases_eq j 0) as (λ _. byte b.weak (at + j) ≡ 0) [
      | inl z ↦ (let p : at + j ≡ at = omega (arith, z) in ap (λ k. byte b.weak k) p ∙ e)
      | inr n ↦ (let p : (at + 1) + (j - 1) ≡ at + j = omega (arith, n) in subst (λ k. byte b.weak k ≡ 0) p (fading-rest (j - 1) (omega (arith, n, small))))
    ]

    zero-byte : (j : ℕ) → j < 512 → byte (content_bytes (data_block b.shown c) i) j ≡ 0
    unfolding zeros
    zero-byte j small =
        ap (λ k. byte k j) (sym (places.with-live (written_in (data_block b.shown c) i) x.tag (content_bytes (data_block b.shown c) i) zeros (sym (slot-written (data_block b.shown c) i h.slots) ∙ x.live)))
        ∙ get_or-replicate {A = ℕ} 512 j 0 0 small

    sector-zeros : AreFirmly b.shown b.weak (content_place (7 * c + i)) 512 0
    sector-zeros = record {
      firm = sector-firm c i low x.sector;
      reads = λ j small. sym (content-byte b.shown c i j h.bytes low small) ∙ zero-byte j small;
    }

    is-fading : byte b.weak at ≡ 4 → IsFading b.shown b.weak (7 * c + i)
    is-fading e = record { live = fading-live; weak = e; firm = fading-rest; zeros = sector-zeros }

    never-free : raw_slot m' c i ≡ Free → ⊥
    never-free r =
        let even : bit_at (byte m' at) 0 ≡ 0 = d.firm at 0 (fading-state 0 (λ e. omega (arith, e))) ∙ ap (λ k. bit_at k 0) fading-live in
        let odd : bit_at (byte m' at) 0 ≡ 1 = ap (λ k. bit_at k 0) (free-head m' c i h' low r) in
        omega (arith, even, odd)

    fading-read : SlotRead b.shown b.weak m' c i
    fading-read = elim (third-alone (byte b.weak at) fading-state) as (λ _. SlotRead b.shown b.weak m' c i) [
      | inl e ↦ firm-read c i h h' low (fading-firm e) (sector-firm c i low x.sector)
      | inr e ↦ record { drawn = fading-drawn b.shown b.weak m' c i d h h' low (is-fading e); free = λ r. absurd (never-free r) }
    ]

  sure-read : (c i : ℕ) → IsThere b.shown c → IsThere m' c → i < 7 → IsSureSlot b c i → SlotRead b.shown b.weak m' c i
  sure-read c i h h' low (firm f g) = firm-read c i h h' low (head-firm c i low f) (sector-firm c i low g)
  sure-read c i h h' low (dead x) = dead-read c i h h' low x
  sure-read c i h h' low (fading x) = fading-read c i h h' low x

  -- one that may have been begun
  doubtful-read : (c i : ℕ) → IsThere b.shown c → IsThere m' c → i < 7 → IsDoubtfulSlot b c i → SlotRead b.shown b.weak m' c i
  doubtful-read c i h h' low x =
      let at = head_place (7 * c + i) in
      let full = free-head b.shown c i h low x.free in
      let n : NeverReads b.shown b.weak at 252 = record {
        bit = 1;
        firm = subst (λ p. bit_at (byte b.weak p) 1 ≡ 0) (head-is c i low) x.state;
        differs = λ e. (let one : bit_at (byte b.shown at) 1 ≡ 1 = ap (λ k. bit_at k 1) full in let zero : bit_at (byte b.shown at) 1 ≡ 0 = e in omega (arith, one, zero));
      } in
      let p = never-nothing b.shown b.weak m' c i d h h' low n in
      record { drawn = idle p.0 p.1; free = λ r. (x.free, sector-firm c i low x.sector) }

  either-read : (c i : ℕ) → IsThere b.shown c → IsThere m' c → i < 7 → IsSureSlot b c i ⊎ ((true ≡ true) × IsDoubtfulSlot b c i) → SlotRead b.shown b.weak m' c i
  either-read c i h h' low (inl s) = sure-read c i h h' low s
  either-read c i h h' low (inr s) = doubtful-read c i h h' low s.1

  -- a sure slot that is free stays so
  sure-free : (c i : ℕ) → IsThere b.shown c → IsThere m' c → i < 7 → IsSureSlot b c i → raw_slot b.shown c i ≡ Free → raw_slot m' c i ≡ Free
  sure-free c i h h' low (firm f g) r = firm-slot c i h h' low (head-firm c i low f) (sector-firm c i low g) ∙ r
  sure-free c i h h' low (dead x) r = (let n = dead-free c i low x in absurd (n.differs (ap (λ k. bit_at k n.bit) (free-head b.shown c i h low r))))
  sure-free c i h h' low (fading x) r = absurd (not-free-live (raw_slot b.shown c i) r x.live)

  -- a block that reads as it lies in the memory
  module _ (alone : HasSlotsAlone b.shown) (clean : IsClean b.shown) where
    -- one that is wholly free is erased, also beside mark, descriptors and sectors
    blank-byte : (c k : ℕ) → data_block b.shown c ≡ part 4096 b.shown (c + 4) → data_block b.shown c ≡ blank → k < 4096 → byte b.shown (data_place c + k) ≡ 255
    blank-byte c k e w low = sym (byte-there b.shown c k (data_place c + k) e low refl) ∙ (ap (λ x. byte x k) w ∙ byte-blank k low)

    blank-part : (c at n : ℕ) → data_block b.shown c ≡ part 4096 b.shown (c + 4) → data_block b.shown c ≡ blank → at + n ≤ 4096 → AreFirm b.weak (data_place c + at) n → AreFirmly b.shown b.weak (data_place c + at) n 255
    blank-part c at n e w fits f = record {
      firm = f;
      reads = λ k low. (let z : data_place c + (at + k) ≡ (data_place c + at) + k = omega arith in ap (λ p. byte b.shown p) (sym z) ∙ blank-byte c (at + k) e w (omega (arith, fits, low)));
    }

    blank-start : (c : ℕ) → data_block b.shown c ≡ part 4096 b.shown (c + 4) → data_block b.shown c ≡ blank → AreEdgesFirm b.weak c → AreFirmly b.shown b.weak (data_place c) 4 255
    blank-start c e w f = record { firm = f.start; reads = λ k low. blank-byte c k e w (omega (arith, low)) }

    of-slots : (c : ℕ) → data_block b.shown c ≡ part 4096 b.shown (c + 4) → data_block b.shown c ≡ blank → AreEdgesFirm b.weak c → IsOfSlots b.shown b.weak c
    of-slots c e w f = record {
      start = blank-start c e w f;
      after_mark = blank-part c 8 8 e w (lit< tt) f.after_mark;
      after_descriptors = blank-part c 44 468 e w (lit< tt) f.after_descriptors;
    }

    blank-sector-was : (c i : ℕ) → data_block b.shown c ≡ blank → i < 7 → content_bytes (data_block b.shown c) i ≡ blank_sector
    blank-sector-was c i w small = ap (λ x. content_bytes x i) w ∙ blank-content i small

    reads-clean : (c i : ℕ) → IsThere b.shown c → IsThere m' c → i < 7 → SlotRead b.shown b.weak m' c i → (raw_slot b.shown c i ≡ Free → content_bytes (data_block b.shown c) i ≡ blank_sector)
        → raw_slot m' c i ≡ Free → content_bytes (data_block m' c) i ≡ blank_sector
    reads-clean c i h h' small s erased r =
        let was = s.free r in
        let blank_was = erased was.0 in
        erased-content m' c i h' small (λ j l.
        firm-byte b.shown b.weak m' (content_place (7 * c + i) + j) d (was.1 j l)
        ∙ (sym (byte-there b.shown c (512 * (i + 1) + j) (content_place (7 * c + i) + j) h.bytes (omega (arith, small, l)) (omega (arith, small))) ∙ places.blank-content (data_block b.shown c) i blank_was j l))

    -- one whose mark is firm
    byte-kept : (c k : ℕ) → data_block b.shown c ≡ part 4096 b.shown (c + 4) → data_block m' c ≡ part 4096 m' (c + 4) → k < 4096 → byte b.weak (data_place c + k) ≡ 0 → byte (data_block m' c) k ≡ byte (data_block b.shown c) k
    byte-kept c k e e' low f = byte-there m' c k (data_place c + k) e' low refl ∙ (firm-byte b.shown b.weak m' (data_place c + k) d f ∙ sym (byte-there b.shown c k (data_place c + k) e low refl))

    mark-kept : (c : ℕ) → data_block b.shown c ≡ part 4096 b.shown (c + 4) → data_block m' c ≡ part 4096 m' (c + 4) → AreEdgesFirm b.weak c → AreFirm b.weak (mark_place c) 4 → kind_at m' c ≡ kind_at b.shown c
    mark-kept c e e' f g =
        let first = λ (k : ℕ) (low : k < 4). byte-kept c k e e' (omega (arith, low)) (f.start k low) in
        let next = λ (k : ℕ) (low : k < 4). byte-kept c (4 + k) e e' (omega (arith, low)) (let z : mark_place c + k ≡ data_place c + (4 + k) = omega arith in subst (λ p. byte b.weak p ≡ 0) z (g k low)) in
        kind-eight (data_block m' c) (data_block b.shown c) (first 0 (lit< tt)) (first 1 (lit< tt)) (first 2 (lit< tt)) (first 3 (lit< tt)) (next 0 (lit< tt)) (next 1 (lit< tt)) (next 2 (lit< tt)) (next 3 (lit< tt))

    firm-block : (c : ℕ) → c < data_blocks b.shown → data_block b.shown c ≡ part 4096 b.shown (c + 4) → data_block m' c ≡ part 4096 m' (c + 4) → AreEdgesFirm b.weak c → AreFirm b.weak (mark_place c) 4
        → ((i : ℕ) → i < 7 → IsSureSlot b c i ⊎ ((true ≡ true) × IsDoubtfulSlot b c i)) → BlockDrawn b.shown b.weak m' c
    firm-block c low e e' f g slots =
        let k = mark-kept c e e' f g in
        let n = d.same_length in
        let h : IsThere b.shown c = record { number = omega (arith, low); bytes = e; slots = alone c low } in
        let h' : IsThere m' c = record { number = omega (arith, low, n); bytes = e'; slots = ap is_group k ∙ alone c low } in
        let each = λ (i : ℕ) (small : i < 7). either-read c i h h' small (slots i small) in
        record {
          slots = h'.slots;
          kind = kept k (λ i small. (each i small).drawn);
          clean = λ other none i small. reads-clean c i h h' small (each i small) (free-clean b.shown c i clean low small (not-void (kind_at b.shown c) (λ v. other (k ∙ v))) none);
          spare = λ s.
              let was : IsSpareIn b.shown c = record { plain = sym k ∙ s.plain; free = λ i small. ((each i small).free (s.free i small)).0 } in
              let w = clean.spare c low was in
              spare-blank b.shown b.weak m' c d h' (of-slots c e w f) (λ i small. reads-clean c i h h' small (each i small) (λ _. blank-sector-was c i w small)) s;
        }

    -- one whose mark may have been begun
    begun-mark : (c : ℕ) → data_block b.shown c ≡ part 4096 b.shown (c + 4) → data_block b.shown c ≡ blank → IsDoubtfulMark b c → IsBegunAtMost b.shown b.weak c
    begun-mark c e w x =
        let full = blank-byte c 4 e w (lit< tt) in
        record { weak = first-alone (byte b.weak (data_place c + 4)) x.state; least = omega (arith, full); most = omega (arith, full) }

    holds-free : (s : Slot) → s ≡ Free → HoldsNothing s
    holds-free s e = subst HoldsNothing (sym e) tt

    drawn-holds : (p : Type 0) (s t : Slot) → SlotDrawn p s t → s ≡ Free → HoldsNothing t
    drawn-holds p s t (same e) f = holds-free t (e ∙ f)
    drawn-holds p s t (idle was is) f = is
    drawn-holds p s t (faded q z e) f = subst HoldsNothing (sym e) tt

    doubtful-block : (c : ℕ) → c < data_blocks b.shown → data_block b.shown c ≡ part 4096 b.shown (c + 4) → data_block m' c ≡ part 4096 m' (c + 4) → AreEdgesFirm b.weak c → IsDoubtfulMark b c
        → ((i : ℕ) → i < 7 → IsSureSlot b c i ⊎ ((true ≡ true) × IsDoubtfulSlot b c i)) → BlockDrawn b.shown b.weak m' c
    doubtful-block c low e e' f x slots =
        let w = clean.spare c low x.spare in
        let n = d.same_length in
        let start = start-is b.shown b.weak m' c d e' (blank-start c e w f) in
        let state = state-there m' c e' in
        let h : IsThere b.shown c = record { number = omega (arith, low); bytes = e; slots = alone c low } in
        let h' = there m' c (omega (arith, low, n)) e' start in
        let each = λ (i : ℕ) (small : i < 7). either-read c i h h' small (slots i small) in
        let erased = λ (i : ℕ) (small : i < 7). reads-clean c i h h' small (each i small) (λ _. blank-sector-was c i w small) in
        record {
          slots = h'.slots;
          kind = perhaps (inl x.spare.plain) (idle-kind (data_block m' c) start (rw state (begun-drawn b.shown b.weak m' c d (begun-mark c e w x))))
              (λ i small. (holds-free (raw_slot b.shown c i) (x.spare.free i small), drawn-holds (IsFading b.shown b.weak (7 * c + i)) (raw_slot b.shown c i) (raw_slot m' c i) (each i small).drawn (x.spare.free i small)));
          clean = λ _ _. erased;
          spare = λ s. spare-blank b.shown b.weak m' c d h' (of-slots c e w f) erased s;
        }

    sure-block : (c : ℕ) → AreChipJournals b.shown b.weak → c < data_blocks b.shown → IsSureBlock b true c → BlockDrawn b.shown b.weak m' c
    sure-block c j low s = elim (block-drawn b.shown b.weak m' c j d) as (λ _. BlockDrawn b.shown b.weak m' c) [
      | inl p ↦ both-blank b.shown b.weak m' c p.0 p.1
      | inr p ↦ elim s.mark as (λ _. BlockDrawn b.shown b.weak m' c) [
        | inl g ↦ firm-block c low p.0 p.1 s.edges g s.slots
        | inr g ↦ doubtful-block c low p.0 p.1 s.edges g.1 s.slots
      ]
    ]

    -- a wholly free one whose slots are sure is room
    plain-stays : (c : ℕ) → KindDrawn b.shown b.weak m' c → kind_at b.shown c ≡ kinds.Plain → IsAtRest (kind_at m' c) → kind_at m' c ≡ kinds.Plain
    plain-stays c (kept k x) p r = k ∙ p
    plain-stays c (never v v') p r = absurd (void-plain (kind_at b.shown c) v p)
    plain-stays c (perhaps q (inl p') x) p r = p'
    plain-stays c (perhaps q (inr v) x) p r = absurd (not-rest-void (kind_at m' c) v r)

    room-stays : (c : ℕ) → AreChipJournals b.shown b.weak → c < data_blocks b.shown → BlockDrawn b.shown b.weak m' c → IsSpareIn b.shown c → ((i : ℕ) → i < 7 → IsSureSlot b c i) → IsAtRest (kind_at m' c) → IsSpareIn m' c
    room-stays c j low s spare sure r = elim (block-drawn b.shown b.weak m' c j d) as (λ _. IsSpareIn m' c) [
      | inl p ↦ erased-spare m' c p.1
      | inr p ↦
          let n = d.same_length in
          let h : IsThere b.shown c = record { number = omega (arith, low); bytes = p.0; slots = alone c low } in
          let h' : IsThere m' c = record { number = omega (arith, low, n); bytes = p.1; slots = s.slots } in
          record { plain = plain-stays c s.kind spare.plain r; free = λ i small. sure-free c i h h' small (sure i small) (spare.free i small) }
    ]

pub doubted-draw : EachDrawOfADoubtedStoreIsTheSameDisk
doubted-draw b m' journals store healthy sound alone single clean d =
    let p = of-firm-chips b journals in
    let j : AreChipJournals b.shown b.weak = record { superblock = p.0; votes = p.1; entries = p.2 } in
    let each = λ (c : ℕ) (low : c < data_blocks b.shown). sure-block b m' d alone clean c j low (store.each c low) in
    let r = store.room in
    let f : IsDrawnDisk b.shown b.weak m' = record {
      drawn = d;
      journals = j;
      blocks = each;
      room = (r.block, (r.number, room-stays b m' d alone clean r.block j r.number (each r.block r.number) r.spare r.slots));
      alone = λ s t g a k x y _ l n. single.one s t g a k x y l n;
    } in
    drawn-same b.shown b.weak m' f healthy sound
