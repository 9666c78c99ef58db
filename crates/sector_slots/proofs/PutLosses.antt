-- What a slot reads as at the next power-on into which a sector was written when the power went: free, dead, or live with the sector.
use Rattle.std.proofs.Common.{◌≡◌, ◌≢◌, ℕ, ◌+◌, ◌-◌, ◌*◌, ◌<◌, ◌≤◌, ◌⊎◌, false, List, [], ◌∷◌, length, refl, sym, ap, ◌∙◌, arith, inl, inr}
use Rattle.std.specs.Prelude.{bit_and, drop, min, take}
use Rattle.std.specs.Int.{bit_at}
use Rattle.std.proofs.lemmas.Bool.{cases_lt}
use Rattle.std.proofs.lemmas.List.{ext_get_or, get_or-drop, get_or-take, length-drop, length-take-le}
use Rattle.std.proofs.lemmas.Nat.Bits.{bit_at-lt, bit_at_above, bit_at_and, bit_at_ones, same_from_bits}
use Rattle.chip_model.specs.Memory.{byte}
use Rattle.chip_model.specs.Parts.{part}
use Rattle.chip_model.specs.Wavering.{Bits, Drawn}
use Rattle.chip_model.proofs.PartLaws.{get-part, part-whole}
use Rattle.nor_driver.specs.State.{changed_whole}
use Rattle.nor_layout.specs.declared.header.Header.TheVariants as headers
use Rattle.nor_layout.specs.declared.header.Tag.{Tag}
use Rattle.nor_layout.specs.Headers.{header_of}
use Rattle.erase_journal.specs.Blocks.{is_opened}
use Rattle.erase_journal.specs.Journals.{IsSettled}
use Rattle.erase_journal.specs.Torn.{ProgramInterrupted, SameAt}
use Rattle.erase_journal.specs.Weak.{AreFirm, AreFirmJournals}
use Rattle.erase_journal.proofs.Draws.{firm-byte}
use Rattle.erase_journal.proofs.Effects.{and-leaves}
use Rattle.erase_journal.proofs.Entries.{data-spoiled}
use Rattle.erase_journal.proofs.Losses.{program-beside}
use Rattle.sector_slots.specs.Half.{IsKnownBlock}
use Rattle.sector_slots.specs.Slots.{Free, Live, Dead, content_bytes, data_block, data_blocks, is_group, kind_at, raw_slot, slot_with, written_in}
use Rattle.sector_slots.specs.Torn.{IsBegunHead, PutInterrupted, SameButPlace, in_commit, in_first_page, in_header, in_second_page, with_descriptor, with_first_page, with_pages}
use Rattle.sector_slots.specs.Weak.{IsSureBlock, block_place, descriptor_place, sector_place}
use Rattle.sector_slots.proofs.ChipBlocks.{headed-sector, headed-state, paged-sector}
use Rattle.sector_slots.proofs.FirmLaws.{bit-firm}
use Rattle.sector_slots.proofs.HalfBlocks.{IsBlockRead, drawn-group, is-there, unlive-is}
use Rattle.sector_slots.proofs.HeadLaws.{header-bytes, slot-dead, slot-written}
use Rattle.sector_slots.proofs.LeftLaws.{with_loss}
use Rattle.sector_slots.proofs.SectorBits.{SameButSector, first-aside, pages-aside, second-aside}
use Rattle.sector_slots.proofs.TornBits.{commit-step, no-bits, one-weak, others-left, programmed-byte, state-kept, zero-stays}
use Rattle.sector_slots.proofs.TornBlocks.{BesidePlace, free-first, sure-free, trusted-slot}
use Rattle.sector_slots.proofs.UnopenedLaws.{journals-beside, program-unopened, shown-leaves}

-- a byte that is programmed over FFh
pub byte-and : (x : ℕ) → x < 256 → bit_and 255 x ≡ x
byte-and x small = same_from_bits (bit_and 255 x) x (λ k. elim (cases_lt k 8) as (λ _. bit_at (bit_and 255 x) k ≡ bit_at x k) [
  | inl low ↦ (let e = bit_at_and 255 x k in let one = bit_at_ones 8 k low in let two = bit_at-lt x k in omega (arith, e, one, two))
  | inr high ↦ (let e = bit_at_and 255 x k in let none = bit_at_above x 8 k small high in omega (arith, e, none))
])

-- A program in the data blocks: no erase goes on after it, and the journals are firm.
program-settled : (a new : Bits) (at : ℕ) (bytes : List ℕ) → 16384 ≤ at → IsSettled a.shown → ProgramInterrupted at bytes a new → IsSettled new.shown
program-settled a new at bytes from settled l =
    let s = data-spoiled at (length bytes) a.shown new.shown settled.sound from (and-leaves a.shown at bytes new.shown (shown-leaves a new at bytes l)) in
    record { sound = s.0; none = s.1.opened ∙ settled.none }

program-journals : (a new : Bits) (at : ℕ) (bytes : List ℕ) → 16384 ≤ at → AreFirmJournals a → ProgramInterrupted at bytes a new → AreFirmJournals new
program-journals a new at bytes from journals l = journals-beside a new (λ i low. program-beside a new at bytes l i (inl (omega (arith, low, from)))) journals

module _ (a : Bits) (c p : ℕ) (header content : List ℕ) (settled : IsSettled a.shown) (journals : AreFirmJournals a) where
  abbrev headed : Bits
  headed = with_descriptor c p header a

  abbrev paged : Bits
  paged = with_first_page c p content headed

  abbrev filled : Bits
  filled = with_pages c p content headed

  headed-both : IsSettled headed.shown × AreFirmJournals headed
  headed-both = (program-settled a headed (descriptor_place c p) header (omega arith) settled (changed_whole refl), program-journals a headed (descriptor_place c p) header (omega arith) journals (changed_whole refl))

  paged-both : IsSettled paged.shown × AreFirmJournals paged
  paged-both = (program-settled headed paged (sector_place c p) (take 256 content) (omega arith) headed-both.0 (changed_whole refl), program-journals headed paged (sector_place c p) (take 256 content) (omega arith) headed-both.1 (changed_whole refl))

  filled-both : IsSettled filled.shown × AreFirmJournals filled
  filled-both = (program-settled paged filled (sector_place c p + 256) (drop 256 content) (omega arith) paged-both.0 (changed_whole refl), program-journals paged filled (sector_place c p + 256) (drop 256 content) (omega arith) paged-both.1 (changed_whole refl))

-- So at no draw a block has an open entry after a write that was interrupted.
pub put-unopened : (a new : Bits) (c p : ℕ) (tag : Tag) (content : List ℕ) → IsSettled a.shown → AreFirmJournals a → PutInterrupted c p tag content a new → (v : List ℕ) → Drawn new.weak new.shown v → (e : ℕ) → is_opened v e ≡ false
put-unopened a new c p tag content settled journals (in_header header begun l) v d e = program-unopened a new (descriptor_place c p) header (omega arith) settled journals l v d e
put-unopened a new c p tag content settled journals (in_first_page header begun l) v d e =
    let h = headed-both a c p header content settled journals in
    program-unopened (with_descriptor c p header a) new (sector_place c p) (take 256 content) (omega arith) h.0 h.1 l v d e
put-unopened a new c p tag content settled journals (in_second_page header begun l) v d e =
    let h = paged-both a c p header content settled journals in
    program-unopened (with_first_page c p content (with_descriptor c p header a)) new (sector_place c p + 256) (drop 256 content) (omega arith) h.0 h.1 l v d e
put-unopened a new c p tag content settled journals (in_commit header begun l) v d e =
    let h = filled-both a c p header content settled journals in
    program-unopened (with_pages c p content (with_descriptor c p header a)) new (descriptor_place c p) (252 ∷ []) (omega arith) h.0 h.1 l v d e

-- The bytes beside the place are as they were.
after-header : (a new : Bits) (c p : ℕ) (header : List ℕ) → IsBegunHead header → SameButSector c p (with_descriptor c p header a) new → SameButPlace c p a new
after-header a new c p header begun same k out1 out2 =
    let b = program-beside a (with_descriptor c p header a) (descriptor_place c p) header (changed_whole refl) k (let four = begun.size in elim out1 as (λ _. (k < descriptor_place c p) ⊎ (descriptor_place c p + length header ≤ k)) [ inl low ↦ inl low | inr high ↦ inr (omega (arith, high, four)) ]) in
    let s = same k out2 in
    (s.0 ∙ b.0, s.1 ∙ b.1)

pub put-place : (a new : Bits) (c p : ℕ) (tag : Tag) (content : List ℕ) → length content ≡ 512 → PutInterrupted c p tag content a new → SameButPlace c p a new
put-place a new c p tag content size (in_header header begun l) k out1 out2 = program-beside a new (descriptor_place c p) header l k (let four = begun.begun.size in elim out1 as (λ _. (k < descriptor_place c p) ⊎ (descriptor_place c p + length header ≤ k)) [ inl low ↦ inl low | inr high ↦ inr (omega (arith, high, four)) ])
put-place a new c p tag content size (in_first_page header begun l) k out1 out2 = after-header a new c p header begun.begun (first-aside c p content (with_descriptor c p header a) new size l) k out1 out2
put-place a new c p tag content size (in_second_page header begun l) k out1 out2 = after-header a new c p header begun.begun (second-aside c p content (with_descriptor c p header a) new size l) k out1 out2
put-place a new c p tag content size (in_commit header begun l) k out1 out2 =
    let done = with_pages c p content (with_descriptor c p header a) in
    let s = after-header a done c p header begun.begun (pages-aside c p content (with_descriptor c p header a) size) k out1 out2 in
    let e = program-beside done new (descriptor_place c p) (252 ∷ []) l k (elim out1 as (λ _. (k < descriptor_place c p) ⊎ (descriptor_place c p + 1 ≤ k)) [ inl low ↦ inl low | inr high ↦ inr (omega (arith, high)) ]) in
    (e.0 ∙ s.0, e.1 ∙ s.1)

-- What the slot reads as.
module _ (a : Bits) (c p : ℕ) (low : p < 7) (inside : c < data_blocks a.shown) (known : IsKnownBlock a c) (sure : IsSureBlock a false c) (free : raw_slot a.shown c p ≡ Free) (descriptor : (j : ℕ) → j < 4 → byte a.shown (descriptor_place c p + j) ≡ 255) (sector : (j : ℕ) → j < 512 → byte a.shown (sector_place c p + j) ≡ 255)
    (content : List ℕ) (size : length content ≡ 512) (header : List ℕ) (begun : IsBegunHead header) (new : Bits) (v : List ℕ) (d : Drawn new.weak new.shown v) (r : IsBlockRead (BesidePlace p) (with_loss a new) v c) where
  abbrev at : ℕ
  at = descriptor_place c p

  abbrev head : Bits
  head = with_descriptor c p header a

  firm-place : AreFirm a.weak at 4 × AreFirm a.weak (sector_place c p) 512
  firm-place = sure-free a c p low known free (trusted-slot a c p low sure)

  there : byte (data_block v c) (16 + 4 * p) ≡ byte v at
  there = is-there (BesidePlace p) (with_loss a new) v c r (16 + 4 * p) (omega (arith, low))

  group : is_group (kind_at v c) ≡ false
  group = drawn-group (BesidePlace p) (with_loss a new) v c r

  head-weak : (k : ℕ) → bit_at (byte head.weak at) k ≡ 0
  head-weak k = zero-stays a.weak at header at k (bit-firm a.weak at k ((let e : at ≡ at + 0 = omega arith in ap (λ q. byte a.weak q) e) ∙ firm-place.0 0 (omega arith)))

  head-state : byte head.shown at ≡ 254
  head-state = headed-state a c p low known.bytes descriptor sector content size header begun

  -- while its descriptor was programmed
  header-slot : ProgramInterrupted at header a new → (raw_slot v c p ≡ Free) ⊎ (raw_slot v c p ≡ Dead)
  header-slot l =
      let kept = state-kept a new at header 255 1 l (let four = begun.size in omega (arith, four)) (free-first a c p low known free) (ap (λ x. min 1 (bit_at x 1)) begun.state) (bit-firm a.weak at 1 ((let e : at ≡ at + 0 = omega arith in ap (λ q. byte a.weak q) e) ∙ firm-place.0 0 (omega arith))) in
      unlive-is (BesidePlace p) (with_loss a new) v c r p (ap (λ y. bit_at y 1) there ∙ kept.reads v d)

  -- while its sector was
  sector-slot : SameButSector c p head new → raw_slot v c p ≡ Dead
  sector-slot same =
      let s = same at (inl (omega (arith, low))) in
      let state : byte (data_block v c) (16 + 4 * p) ≡ 254 = there ∙ (firm-byte new.shown new.weak v at d (s.1 ∙ no-bits (byte head.weak at) head-weak) ∙ (s.0 ∙ head-state)) in
      slot-dead (data_block v c) p group (λ e. omega (arith, e, state)) (λ e. omega (arith, e, state))

  -- or as it was committed
  module _ (tag : Tag) (live : header_of (252 ∷ byte header 1 ∷ byte header 2 ∷ byte header 3 ∷ []) ≡ headers.Live tag) (l : ProgramInterrupted at (252 ∷ []) (with_pages c p content head) new) (bytes : (k : ℕ) → byte header k < 256) (small : (k : ℕ) → byte content k < 256) where
    abbrev page : Bits
    page = with_first_page c p content head

    abbrev full : Bits
    full = with_pages c p content head

    last : (k : ℕ) → k ≢ at → SameAt full new k
    last k other = program-beside full new at (252 ∷ []) l k (elim (cases_lt k at) [ inl before ↦ inl before | inr from ↦ inr (omega (arith, other, from)) ])

    commit-state : (byte (data_block v c) (16 + 4 * p) ≡ 254) ⊎ (byte (data_block v c) (16 + 4 * p) ≡ 252)
    commit-state =
        let s = pages-aside c p content head size at (inl (omega (arith, low))) in
        one-weak 1 254 252 (byte (data_block v c) (16 + 4 * p)) commit-step (λ k other. ap (λ x. bit_at x k) there
        ∙ (state-kept full new at (252 ∷ []) 254 k l (omega arith) (s.0 ∙ head-state) (others-left 1 254 252 k commit-step.others other) (ap (λ x. bit_at x k) s.1 ∙ head-weak k)).reads v d)

    rest-byte : (j : ℕ) → 1 ≤ j → j < 4 → byte (data_block v c) (16 + 4 * p + j) ≡ byte header j
    rest-byte j from to =
        let z : block_place c + (16 + 4 * p + j) ≡ at + j = omega arith in
        let s = pages-aside c p content head size (at + j) (inl (omega (arith, low, to))) in
        let e = last (at + j) (λ q. omega (arith, q, from)) in
        let firm : byte new.weak (at + j) ≡ 0 = e.1 ∙ (s.1 ∙ no-bits (byte head.weak (at + j)) (λ k. zero-stays a.weak at header (at + j) k (bit-firm a.weak (at + j) k (firm-place.0 j to)))) in
        is-there (BesidePlace p) (with_loss a new) v c r (16 + 4 * p + j) (omega (arith, low, to))
        ∙ (ap (λ q. byte v q) z
        ∙ (firm-byte new.shown new.weak v (at + j) d firm
        ∙ (e.0 ∙ (s.0 ∙ (programmed-byte a.shown at header j (let four = begun.size in omega (arith, four, to)) (descriptor j to) ∙ byte-and (byte header j) (bytes j))))))

    sector-byte : (j : ℕ) → j < 512 → byte (data_block v c) (512 * (p + 1) + j) ≡ byte content j
    sector-byte j to =
        let place = sector_place c p + j in
        let z : block_place c + (512 * (p + 1) + j) ≡ place = omega arith in
        let e = last place (omega (arith, low)) in
        let firm : byte new.weak place ≡ 0 = e.1 ∙ no-bits (byte full.weak place) (λ k.
        zero-stays page.weak (sector_place c p + 256) (drop 256 content) place k
        (zero-stays head.weak (sector_place c p) (take 256 content) place k
        (zero-stays a.weak at header place k (bit-firm a.weak place k (firm-place.1 j to))))) in
        is-there (BesidePlace p) (with_loss a new) v c r (512 * (p + 1) + j) (omega (arith, low, to))
        ∙ (ap (λ q. byte v q) z ∙ (firm-byte new.shown new.weak v place d firm ∙ (e.0 ∙ page-byte j to))) where
          page-byte : (j : ℕ) → j < 512 → byte full.shown (sector_place c p + j) ≡ byte content j
          page-byte j to = elim (cases_lt j 256) as (λ _. byte full.shown (sector_place c p + j) ≡ byte content j) [
            | inl first ↦
                let n = length-take-le 256 content (omega (arith, size)) in
                (program-beside page full (sector_place c p + 256) (drop 256 content) (changed_whole refl) (sector_place c p + j) (inl (omega (arith, first)))).0
                ∙ (programmed-byte head.shown (sector_place c p) (take 256 content) j (omega (arith, n, first)) (headed-sector a c p low known.bytes descriptor sector content size header begun j to)
                ∙ (ap (λ x. bit_and 255 x) (get_or-take 256 content j 0 first) ∙ byte-and (byte content j) (small j)))
            | inr second ↦
                let n = length-drop 256 content in
                let z : sector_place c p + 256 + (j - 256) ≡ sector_place c p + j = omega (arith, second) in
                let z' : 256 + (j - 256) ≡ j = omega (arith, second) in
                ap (λ q. byte full.shown q) (sym z)
                ∙ (programmed-byte page.shown (sector_place c p + 256) (drop 256 content) (j - 256) (omega (arith, n, size, second, to)) (ap (λ q. byte page.shown q) z ∙ paged-sector a c p low known.bytes descriptor sector content size header begun j second to)
                ∙ (ap (λ x. bit_and 255 x) (get_or-drop 256 content (j - 256) 0 ∙ ap (λ q. byte content q) z') ∙ byte-and (byte content j) (small j)))
          ]

    live-slot : length v ≡ length a.shown → byte (data_block v c) (16 + 4 * p) ≡ 252 → raw_slot v c p ≡ Live tag content
    live-slot same done =
        let b = data_block v c in
        let n : length b ≡ 4096 = ap (λ x. length x) r.is_own ∙ part-whole 4096 v (c + 4) (omega (arith, same, inside)) in
        let at0 : 16 + 4 * p + 0 ≡ 16 + 4 * p = omega arith in
        let h : written_in b p ≡ headers.Live tag = header-bytes (drop (16 + 4 * p) b) (252 ∷ byte header 1 ∷ byte header 2 ∷ byte header 3 ∷ [])
        (get_or-drop (16 + 4 * p) b 0 0 ∙ (ap (λ q. byte b q) at0 ∙ done))
        (get_or-drop (16 + 4 * p) b 1 0 ∙ rest-byte 1 (omega arith) (omega arith))
        (get_or-drop (16 + 4 * p) b 2 0 ∙ rest-byte 2 (omega arith) (omega arith))
        (get_or-drop (16 + 4 * p) b 3 0 ∙ rest-byte 3 (omega arith) (omega arith)) ∙ live in
        let m : length (part 512 b (p + 1)) ≡ 512 = part-whole 512 b (p + 1) (omega (arith, n, low)) in
        let x : content_bytes b p ≡ content = ext_get_or 0 (part 512 b (p + 1)) content (m ∙ sym size) (λ j below.
        let to : j < 512 = omega (arith, m, below) in
        get-part 512 b (p + 1) j to ∙ sector-byte j to) in
        slot-written b p group ∙ (ap (λ q. slot_with q (content_bytes b p)) h ∙ ap (λ q. Live tag q) x)

    commit-slot : length v ≡ length a.shown → (raw_slot v c p ≡ Dead) ⊎ (raw_slot v c p ≡ Live tag content)
    commit-slot same = elim commit-state [
      | inl still ↦ inl (slot-dead (data_block v c) p group (λ e. omega (arith, e, still)) (λ e. omega (arith, e, still)))
      | inr done ↦ inr (live-slot same done)
    ]

pub put-slot : (a : Bits) (c p : ℕ) → p < 7 → c < data_blocks a.shown → IsKnownBlock a c → IsSureBlock a false c → raw_slot a.shown c p ≡ Free → ((j : ℕ) → j < 4 → byte a.shown (descriptor_place c p + j) ≡ 255) → ((j : ℕ) → j < 512 → byte a.shown (sector_place c p + j) ≡ 255)
    → (tag : Tag) (content : List ℕ) → length content ≡ 512 → ((k : ℕ) → byte content k < 256) → (new : Bits) → PutInterrupted c p tag content a new → (v : List ℕ) → Drawn new.weak new.shown v → IsBlockRead (BesidePlace p) (with_loss a new) v c → length v ≡ length a.shown
    → ((raw_slot v c p ≡ Free) ⊎ (raw_slot v c p ≡ Dead)) ⊎ (raw_slot v c p ≡ Live tag content)
put-slot a c p low inside known sure free descriptor sector tag content size small new (in_header header begun l) v d r same = inl (header-slot a c p low inside known sure free descriptor sector content size header begun.begun new v d r l)
put-slot a c p low inside known sure free descriptor sector tag content size small new (in_first_page header begun l) v d r same =
    inl (inr (sector-slot a c p low inside known sure free descriptor sector content size header begun.begun new v d r (first-aside c p content (with_descriptor c p header a) new size l)))
put-slot a c p low inside known sure free descriptor sector tag content size small new (in_second_page header begun l) v d r same =
    inl (inr (sector-slot a c p low inside known sure free descriptor sector content size header begun.begun new v d r (second-aside c p content (with_descriptor c p header a) new size l)))
put-slot a c p low inside known sure free descriptor sector tag content size small new (in_commit header begun l) v d r same =
    elim (commit-slot a c p low inside known sure free descriptor sector content size header begun.begun new v d r tag begun.live l begun.each small same) [ inl dead ↦ inl (inr dead) | inr live ↦ inr live ]
