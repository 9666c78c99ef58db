-- What a draw leaves of a slot.
use Rattle.std.proofs.Common.{◌≡◌, ◌≢◌, ℕ, ◌+◌, ◌-◌, ◌*◌, ◌<◌, ◌≤◌, ◌⊎◌, false, List, length, refl, sym, ap, ◌∙◌, subst, arith, inl, inr, lit<}
use Rattle.std.specs.Prelude.{◌/◌, drop}
use Rattle.std.specs.Int.{bit_at}
use Rattle.std.proofs.lemmas.Bool.{cases_eq, ne_eqb}
use Rattle.std.proofs.lemmas.List.{ext_get_or, get_or-replicate, get_or-drop}
use Rattle.chip_model.specs.Memory.{byte}
use Rattle.chip_model.specs.Parts.{part}
use Rattle.chip_model.specs.Wavering.{Drawn}
use Rattle.chip_model.proofs.PartLaws.{get-part, part-whole}
use Rattle.nor_layout.specs.declared.header.Header.{Header}
use Rattle.nor_layout.specs.declared.header.Header.TheVariants as headers
use Rattle.nor_layout.specs.declared.header.Tag.{Tag}
use Rattle.nor_layout.specs.Headers.{header_of}
use Rattle.nor_layout.specs.Kinds.{kind_of}
use Rattle.erase_journal.specs.Blocks.{blank}
use Rattle.erase_journal.proofs.BlockLaws.{length-blank, byte-blank}
use Rattle.sector_slots.specs.Slots.{Slot, Free, Live, Dead, slot_with, written_in, content_bytes, blank_sector, is_group, data_block, raw_slot}
use Rattle.sector_slots.specs.Sectors.{zeros}
use Rattle.sector_slots.specs.Copying.{HoldsNothing}
use Rattle.sector_slots.proofs.SizeLaws.{length-zeros}
use Rattle.sector_slots.proofs.HeadLaws.{not-four, unlive-four, slot-written}
use Rattle.journal_slots.proofs.Places.{with-live, fresh-descriptor}
use Rattle.erase_journal.specs.Weak.{AreFirm}
use Rattle.firm_chip.specs.FirmChips.{AreFirmly, NeverReads, IsNeverLive, dead, unused, IsFading, IsFirmSlot, live, never_live, fading, head_place, content_place}
use Rattle.firm_chip.proofs.Draws.{never-was, never-is}
use Rattle.erase_journal.proofs.Draws.{firm-byte}
use Rattle.firm_chip.proofs.Spans.{descriptor-byte, content-byte}

-- A slot that became another one under a draw, as far as sectors see: the same; one that holds
-- nothing before and after; or a live one of zeros that is dead.
pub data SlotDrawn (fades : Type 0) (old new : Slot) : Type 0 where
  same : new ≡ old → SlotDrawn fades old new
  idle : HoldsNothing old → HoldsNothing new → SlotDrawn fades old new
  faded : fades → ((tag : Tag) (x : List ℕ) → old ≡ Live tag x → x ≡ zeros) → new ≡ Dead
      → SlotDrawn fades old new

-- what four bytes say
dead-header : (t : List ℕ) (j : ℕ) → byte t 0 ≢ 252 → j < 4 → byte t j ≢ 255 → header_of t ≡ headers.Dead
dead-header t j other low n = rw (not-four t j low n, ne_eqb (byte t 0) 252 other) refl

same-header : (t u : List ℕ) → ((j : ℕ) → j < 4 → byte u j ≡ byte t j) → header_of u ≡ header_of t
same-header t u e = rw (e 0 (lit< tt), e 1 (lit< tt), e 2 (lit< tt), e 3 (lit< tt)) refl

quiet : (h : Header) (x : List ℕ) → (h ≡ headers.Free) ⊎ (h ≡ headers.Dead) → HoldsNothing (slot_with h x)
quiet h x (inl e) = subst (λ q. HoldsNothing (slot_with q x)) (sym e) tt
quiet h x (inr e) = subst (λ q. HoldsNothing (slot_with q x)) (sym e) tt

-- Where the bytes are the memory's, and the block is of slots.
pub record IsThere (m : List ℕ) (c : ℕ) : Type 0 where
  pub number : c + 5 ≤ length m / 4096
  pub bytes : data_block m c ≡ part 4096 m (c + 4)
  pub slots : is_group (kind_of (data_block m c)) ≡ false

pub length-there : (m : List ℕ) (c : ℕ) → IsThere m c → length (data_block m c) ≡ 4096
length-there m c h = ap (λ b. length b) h.bytes ∙ part-whole 4096 m (c + 4) (let n = h.number in omega (arith, n))

length-content : (m : List ℕ) (c i : ℕ) → IsThere m c → i < 7 → length (content_bytes (data_block m c) i) ≡ 512
length-content m c i h low = part-whole 512 (data_block m c) (i + 1) (let n = length-there m c h in omega (arith, n, low))

state-byte : (m : List ℕ) (c i : ℕ) → IsThere m c → i < 7 → byte (drop (16 + 4 * i) (data_block m c)) 0 ≡ byte m (head_place (7 * c + i))
state-byte m c i h low = descriptor-byte m c i 0 h.bytes low (lit< tt) ∙ ap (λ k. byte m k) (omega arith)

-- one whose state is not that of a live one
no-live : (m : List ℕ) (c i : ℕ) → IsThere m c → i < 7 → byte m (head_place (7 * c + i)) ≢ 252 → HoldsNothing (raw_slot m c i)
no-live m c i h low n =
    subst (λ s. HoldsNothing s) (sym (slot-written (data_block m c) i h.slots))
    (quiet (written_in (data_block m c) i) (content_bytes (data_block m c) i) (unlive-four (drop (16 + 4 * i) (data_block m c)) (λ e. n (sym (state-byte m c i h low) ∙ e))))

pub never-nothing : (m w m' : List ℕ) (c i : ℕ) → Drawn w m m' → IsThere m c → IsThere m' c → i < 7 → NeverReads m w (head_place (7 * c + i)) 252 → HoldsNothing (raw_slot m c i) × HoldsNothing (raw_slot m' c i)
never-nothing m w m' c i d h h' low n =
    (no-live m c i h low (never-was m w (head_place (7 * c + i)) 252 n), no-live m' c i h' low (never-is m w m' (head_place (7 * c + i)) 252 d n))

pub never-of : (m w : List ℕ) (s : ℕ) → IsNeverLive m w s → NeverReads m w (head_place s) 252
never-of m w s (dead n f) = n
never-of m w s (unused n f) = n

-- the same bytes
pub same-slot : (m w m' : List ℕ) (c i : ℕ) → Drawn w m m' → IsThere m c → IsThere m' c → i < 7 → ((j : ℕ) → j < 4 → byte m' (head_place (7 * c + i) + j) ≡ byte m (head_place (7 * c + i) + j))
    → AreFirm w (content_place (7 * c + i)) 512 → raw_slot m' c i ≡ raw_slot m c i
same-slot m w m' c i d h h' low e f =
    let s = 7 * c + i in
    let head : written_in (data_block m' c) i ≡ written_in (data_block m c) i = same-header (drop (16 + 4 * i) (data_block m c)) (drop (16 + 4 * i) (data_block m' c)) (λ j small.
    descriptor-byte m' c i j h'.bytes low small ∙ (e j small ∙ sym (descriptor-byte m c i j h.bytes low small))) in
    let n : length (content_bytes (data_block m c) i) ≡ 512 = length-content m c i h low in
    let n' : length (content_bytes (data_block m' c) i) ≡ 512 = length-content m' c i h' low in
    let content : content_bytes (data_block m' c) i ≡ content_bytes (data_block m c) i = ext_get_or 0 (content_bytes (data_block m' c) i) (content_bytes (data_block m c) i) (n' ∙ sym n) (λ j q.
    let small : j < 512 = omega (arith, q, n') in
    content-byte m' c i j h'.bytes low small ∙ (firm-byte m w m' (content_place s + j) d (f j small) ∙ sym (content-byte m c i j h.bytes low small))) in
    slot-written (data_block m' c) i h'.slots ∙ (rw (head, content) refl ∙ sym (slot-written (data_block m c) i h.slots))

content-zeros : (m w : List ℕ) (c i : ℕ) → IsThere m c → i < 7 → AreFirmly m w (content_place (7 * c + i)) 512 0 → content_bytes (data_block m c) i ≡ zeros
unfolding zeros
content-zeros m w c i h low f =
    let n : length (content_bytes (data_block m c) i) ≡ 512 = length-content m c i h low in
    ext_get_or 0 (content_bytes (data_block m c) i) zeros (n ∙ sym length-zeros) (λ j q.
    let small : j < 512 = omega (arith, q, n) in
    content-byte m c i j h.bytes low small ∙ (f.reads j small ∙ sym (get_or-replicate {A = ℕ} 512 j 0 0 small)))

pub fading-drawn : (m w m' : List ℕ) (c i : ℕ) → Drawn w m m' → IsThere m c → IsThere m' c → i < 7 → IsFading m w (7 * c + i) → SlotDrawn (IsFading m w (7 * c + i)) (raw_slot m c i) (raw_slot m' c i)
fading-drawn m w m' c i d h h' low f =
    let s = 7 * c + i in
    let at = head_place s in
    elim (cases_eq (byte m' at) 252) as (λ _. SlotDrawn (IsFading m w (7 * c + i)) (raw_slot m c i) (raw_slot m' c i)) [
      | inl e ↦ same (same-slot m w m' c i d h h' low (λ j small. elim (cases_eq j 0) as (λ _. byte m' (at + j) ≡ byte m (at + j)) [
        | inl z ↦ (let p : at + j ≡ at = omega arith in rw p (e ∙ sym f.live))
        | inr nz ↦ (let p : (at + 1) + (j - 1) ≡ at + j = omega arith in let q = f.firm (j - 1) (omega arith) in firm-byte m w m' (at + j) d (rw p at q))
      ]) f.zeros.firm)
      | inr n ↦ faded f
          (λ tag x e. with-live (written_in (data_block m c) i) tag (content_bytes (data_block m c) i) x (sym (slot-written (data_block m c) i h.slots) ∙ e) ∙ content-zeros m w c i h low f.zeros)
          (slot-written (data_block m' c) i h'.slots
          ∙ ap (λ q. slot_with q (content_bytes (data_block m' c) i)) (dead-header (drop (16 + 4 * i) (data_block m' c)) 0 (λ e. n (sym (state-byte m' c i h' low) ∙ e)) (lit< tt) (λ e.
          let even : bit_at (byte m' at) 0 ≡ 0 = d.firm at 0 (ap (λ x. bit_at x 0) f.weak) ∙ ap (λ x. bit_at x 0) f.live in
          let odd : bit_at (byte m' at) 0 ≡ 1 = ap (λ x. bit_at x 0) (sym (state-byte m' c i h' low) ∙ e) in
          omega (arith, even, odd))))
    ]

-- a firm slot
pub slot-drawn : (m w m' : List ℕ) (c i : ℕ) → Drawn w m m' → IsThere m c → IsThere m' c → i < 7 → IsFirmSlot m w (7 * c + i) → SlotDrawn (IsFading m w (7 * c + i)) (raw_slot m c i) (raw_slot m' c i)
slot-drawn m w m' c i d h h' low (live e f g) = same (same-slot m w m' c i d h h' low (λ j small. firm-byte m w m' (head_place (7 * c + i) + j) d (f j small)) g)
slot-drawn m w m' c i d h h' low (never_live n) = (let p = never-nothing m w m' c i d h h' low (never-of m w (7 * c + i) n) in idle p.0 p.1)
slot-drawn m w m' c i d h h' low (fading f) = fading-drawn m w m' c i d h h' low f

-- A slot that reads as free after a draw, and its sector.
pub free-state : (m : List ℕ) (c i : ℕ) → IsThere m c → i < 7 → raw_slot m c i ≡ Free → (j : ℕ) → j < 4 → byte m (head_place (7 * c + i) + j) ≡ 255
free-state m c i h low free j small =
    sym (descriptor-byte m c i j h.bytes low small) ∙ (get_or-drop (16 + 4 * i) (data_block m c) j 0 ∙ fresh-descriptor c i m free j small)

pub firmly-read : (m w m' : List ℕ) (at n v : ℕ) → Drawn w m m' → AreFirmly m w at n v → (k : ℕ) → k < n → byte m' (at + k) ≡ v
firmly-read m w m' at n v d f k low = firm-byte m w m' (at + k) d (f.firm k low) ∙ f.reads k low

pub erased-content : (m' : List ℕ) (c i : ℕ) → IsThere m' c → i < 7 → ((j : ℕ) → j < 512 → byte m' (content_place (7 * c + i) + j) ≡ 255) → content_bytes (data_block m' c) i ≡ blank_sector
erased-content m' c i h low each =
    let n : length (content_bytes (data_block m' c) i) ≡ 512 = length-content m' c i h low in
    let b : length (part 512 blank 1) ≡ 512 = part-whole 512 blank 1 (let z = length-blank in omega (arith, z)) in
    ext_get_or 0 (content_bytes (data_block m' c) i) (part 512 blank 1) (n ∙ sym b) (λ j q.
    let small : j < 512 = omega (arith, q, n) in
    content-byte m' c i j h.bytes low small ∙ (each j small ∙ sym (get-part 512 blank 1 j small ∙ byte-blank (512 * 1 + j) (omega (arith, small)))))

pub never-clean : (m w m' : List ℕ) (c i : ℕ) → Drawn w m m' → IsThere m' c → i < 7 → IsNeverLive m w (7 * c + i) → raw_slot m' c i ≡ Free → content_bytes (data_block m' c) i ≡ blank_sector
never-clean m w m' c i d h' low (dead n f) free =
    absurd (never-is m w m' (head_place (7 * c + i) + f.place) 255 d f.used (free-state m' c i h' low free f.place f.within))
never-clean m w m' c i d h' low (unused n f) free = erased-content m' c i h' low (firmly-read m w m' (content_place (7 * c + i)) 512 255 d f)

pub slot-clean : (m w m' : List ℕ) (c i : ℕ) → Drawn w m m' → IsThere m' c → i < 7 → IsFirmSlot m w (7 * c + i) → raw_slot m' c i ≡ Free → content_bytes (data_block m' c) i ≡ blank_sector
slot-clean m w m' c i d h' low (live e f g) free =
    let at = head_place (7 * c + i) in
    let z : at + 0 ≡ at = omega arith in
    let a = free-state m' c i h' low free 0 (lit< tt) in
    let b = firm-byte m w m' (at + 0) d (f 0 (lit< tt)) in
    let p : byte m (at + 0) ≡ 252 = rw z e in
    absurd (omega (arith, a, b, p))
slot-clean m w m' c i d h' low (never_live n) free = never-clean m w m' c i d h' low n free
slot-clean m w m' c i d h' low (fading f) free =
    let at = head_place (7 * c + i) in
    let z : at + 0 ≡ at = omega arith in
    let a = free-state m' c i h' low free 0 (lit< tt) in
    let even : bit_at (byte m' at) 0 ≡ 0 = d.firm at 0 (ap (λ x. bit_at x 0) f.weak) ∙ ap (λ x. bit_at x 0) f.live in
    let odd : bit_at (byte m' at) 0 ≡ 1 = ap (λ x. bit_at x 0) (rw z at a) in
    absurd (omega (arith, even, odd))
