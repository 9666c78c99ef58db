-- What is known of each block of a firm chip of slots, also while one is copied, and of the weak bits of one into which a sector is written.
use Rattle.std.proofs.Common.{◌≡◌, ◌≢◌, ℕ, ◌+◌, ◌-◌, ◌*◌, ◌<◌, ◌≤◌, ◌⊎◌, Bool, true, false, List, [], ◌∷◌, length, refl, sym, ap, ◌∙◌, subst, arith, inl, inr}
use Rattle.std.specs.Prelude.{◌/◌, ◌%◌, ◌==◌, bit_and, drop, take}
use Rattle.std.specs.Int.{bit_at}
use Rattle.std.proofs.lemmas.Bool.{cases_eq, cases_lt, ne_eqb, true≢false}
use Rattle.std.proofs.lemmas.List.{length-drop, length-take-le}
use Rattle.chip_model.specs.Memory.{byte}
use Rattle.chip_model.specs.Wavering.{Bits}
use Rattle.chip_model.proofs.PartLaws.{get-part}
use Rattle.nor_driver.specs.State.{changed_whole, program_bits}
use Rattle.nor_layout.specs.declared.header.Tag.{Tag}
use Rattle.nor_layout.specs.declared.kind.Kind.{Kind}
use Rattle.nor_layout.specs.declared.kind.Kind.TheVariants as kinds
use Rattle.nor_layout.specs.Journals.{block_len}
use Rattle.erase_journal.specs.Blocks.{blank}
use Rattle.erase_journal.specs.Torn.{ProgramInterrupted, SameAt, SameBeside, SameBlock}
use Rattle.erase_journal.proofs.BlockLaws.{byte-blank}
use Rattle.erase_journal.proofs.Counts.{how_many-find}
use Rattle.erase_journal.proofs.Losses.{program-beside}
use Rattle.sector_slots.specs.Half.{HasMark, IsKnownBlock}
use Rattle.sector_slots.specs.Slots.{Slot, Free, Live, NoGeneration, Dead, Outside, blank_sector, content_bytes, copies, data_block, data_blocks, is_copy_of, is_group, is_void, kind_at, raw_slot, slot_at, slot_count, IsSpareIn}
use Rattle.sector_slots.specs.Sectors.{HasSlotsAlone}
use Rattle.sector_slots.specs.Blocks.{AreAtRest, AreSound, IsAtRest, IsCopying, IsTarget, IsUncommitted, copying, crowded, settled}
use Rattle.sector_slots.specs.Copying.{copy_slot}
use Rattle.sector_slots.specs.Losses.{HasWholeSources, IsFirmDisk}
use Rattle.sector_slots.specs.Torn.{IsBegunHead, PutInterrupted, SameButPlace, in_commit, in_first_page, in_header, in_second_page, with_descriptor, with_first_page, with_pages}
use Rattle.sector_slots.specs.Weak.{HasByteBits, block_place, descriptor_place, sector_place}
use Rattle.sector_slots.proofs.CopyLaws.{rest-counted}
use Rattle.sector_slots.proofs.FirmLaws.{here, slot_number}
use Rattle.sector_slots.proofs.HeadLaws.{committed-void, free-bytes, rest-marked, source_in}
use Rattle.sector_slots.proofs.HalfBlocks.{counted-whole}
use Rattle.sector_slots.proofs.SectorBits.{pages-aside}
use Rattle.sector_slots.proofs.TornBits.{high-kept, program-length, programmed-byte, zero-stays}

-- a block of slots is one with a known mark, also while one is copied
uncommitted-marked : (k : Kind) → IsUncommitted k → is_group k ≡ false → HasMark k
uncommitted-marked kinds.Plain p slots = tt
uncommitted-marked kinds.Void p slots = tt
uncommitted-marked (kinds.Committed source) p slots = tt
uncommitted-marked kinds.Settled p slots = tt
uncommitted-marked (kinds.Group tag) p slots = absurd (true≢false slots)
uncommitted-marked kinds.DeadGroup p slots = absurd (true≢false slots)
uncommitted-marked kinds.SpoiltGroup p slots = absurd (true≢false slots)
uncommitted-marked kinds.Unknown p slots = absurd p

copying-marked : (k : Kind) (t n : ℕ) → IsCopying k t n → HasMark k
copying-marked kinds.Plain t n p = absurd p
copying-marked kinds.Void t n p = tt
copying-marked (kinds.Committed source) t n p = tt
copying-marked kinds.Settled t n p = absurd p
copying-marked (kinds.Group tag) t n p = absurd p
copying-marked kinds.DeadGroup t n p = absurd p
copying-marked kinds.SpoiltGroup t n p = absurd p
copying-marked kinds.Unknown t n p = absurd p

sound-marked : (m : List ℕ) (c : ℕ) → AreSound m → HasSlotsAlone m → c < data_blocks m → HasMark (kind_at m c)
sound-marked m c (settled h) alone low = rest-marked (kind_at m c) (h.rest c low) (alone c low)
sound-marked m c (crowded rest room) alone low = rest-marked (kind_at m c) (rest c low) (alone c low)
sound-marked m c (copying t h) alone low = elim (cases_eq c t) as (λ _. HasMark (kind_at m c)) [
  | inl is ↦ subst (λ q. HasMark (kind_at m q)) (sym is) (copying-marked (kind_at m t) t (data_blocks m) h.copying)
  | inr other ↦ uncommitted-marked (kind_at m c) (h.others c low other) (alone c low)
]

-- one that isn't void counts, or there is a committed copy of it
marked-counts : (k : Kind) → k ≢ kinds.Void → is_void k ≡ false
marked-counts kinds.Plain other = refl
marked-counts kinds.Void other = absurd (other refl)
marked-counts (kinds.Committed source) other = refl
marked-counts kinds.Settled other = refl
marked-counts (kinds.Group tag) other = refl
marked-counts kinds.DeadGroup other = refl
marked-counts kinds.SpoiltGroup other = refl
marked-counts kinds.Unknown other = refl

same-test : (b s : ℕ) → (s == b) ≡ true → s ≡ b
same-test b s e = elim (cases_eq s b) as (λ _. s ≡ b) [ inl is ↦ is | inr other ↦ absurd (true≢false (sym e ∙ ne_eqb s b other)) ]

copy-committed : (b : ℕ) (k : Kind) → is_copy_of b k ≡ true → k ≡ kinds.Committed b
copy-committed b kinds.Plain e = absurd (true≢false (sym e))
copy-committed b kinds.Void e = absurd (true≢false (sym e))
copy-committed b (kinds.Committed source) e = ap (λ s. kinds.Committed s) (same-test b source e)
copy-committed b kinds.Settled e = absurd (true≢false (sym e))
copy-committed b (kinds.Group tag) e = absurd (true≢false (sym e))
copy-committed b kinds.DeadGroup e = absurd (true≢false (sym e))
copy-committed b kinds.SpoiltGroup e = absurd (true≢false (sym e))
copy-committed b kinds.Unknown e = absurd (true≢false (sym e))

find-copy : (kind : ℕ → Kind) (n c : ℕ) → copies kind n c ≢ 0 → (t : ℕ) × (t < n) × (kind t ≡ kinds.Committed (c + 4))
unfolding copies
find-copy kind n c some = let f = how_many-find (λ d. is_copy_of (c + 4) (kind d)) n (omega (arith, some)) in (f.0, f.1, copy-committed (c + 4) (kind f.0) f.2)

-- So much is known of each block of a firm disk.
pub disk-known : (a : Bits) (suspect : ℕ → Bool) → IsFirmDisk a suspect → HasWholeSources a.shown → (c : ℕ) → c < data_blocks a.shown → IsKnownBlock a c
disk-known a suspect disk sources c low = record {
  settled = disk.settled;
  marked = sound-marked a.shown c disk.sound.blocks disk.alone low;
  whole = λ other i within. elim (cases_eq (copies (kind_at a.shown) (data_blocks a.shown) c) 0) as (λ _. raw_slot a.shown c i ≢ NoGeneration) [
    | inl none ↦ counted-whole a.shown c i disk.sound low within (marked-counts (kind_at a.shown c) other) none
    | inr some ↦ (let f = find-copy (kind_at a.shown) (data_blocks a.shown) c some in sources c f.0 i low f.1 f.2 within)
  ];
  bytes = disk.bytes c low;
}

-- no block is a committed copy while nothing is copied, or before the commit
pub rest-sources : (m : List ℕ) → AreAtRest (kind_at m) (data_blocks m) → HasWholeSources m
rest-sources m rest s t i low inside is within = absurd (subst (λ k. IsAtRest k) is (rest t inside))

pub void-sources : (m : List ℕ) (t : ℕ) → IsTarget t (data_blocks m) (kind_at m) → kind_at m t ≡ kinds.Void → HasWholeSources m
void-sources m t target void s e i low inside is within = elim (cases_eq e t) as (λ _. raw_slot m s i ≢ NoGeneration) [
  | inl same ↦ absurd (committed-void (kind_at m t) (s + 4) (ap (λ q. kind_at m q) (sym same) ∙ is) void)
  | inr other ↦ absurd (subst (λ k. IsAtRest k) is (target.others e inside other))
]

-- so each slot of the source of a copying is whole, before its commit
pub source-whole : (a : Bits) (suspect : ℕ → Bool) (s t : ℕ) → IsFirmDisk a suspect → IsTarget t (data_blocks a.shown) (kind_at a.shown) → kind_at a.shown t ≡ kinds.Void → s < data_blocks a.shown → s ≢ t → (i : ℕ) → i < 7 → raw_slot a.shown s i ≢ NoGeneration
source-whole a suspect s t disk target void low other = (disk-known a suspect disk (void-sources a.shown t target void) s low).whole (λ e. subst (λ k. IsAtRest k) e (target.others s low other))

-- a slot that is free has no generation to lack
pub free-whole : (s : Slot) → s ≡ Free → s ≢ NoGeneration
free-whole s free none = let q : 0 ≡ 2 = ap slot_number (sym free ∙ none) in omega (arith, q)

-- nor is a copy without one
pub copied-whole : (s : Slot) → copy_slot s ≢ NoGeneration
copied-whole Free e = free-whole Free refl e
copied-whole (Live tag x) e = let q : 1 ≡ 2 = ap slot_number e in omega (arith, q)
copied-whole NoGeneration e = free-whole Free refl e
copied-whole Dead e = free-whole Free refl e
copied-whole Outside e = free-whole Free refl e

-- and the source of the one committed copy: its slots are whole, or it is wholly free
pub one-source : (m : List ℕ) (s t : ℕ) → IsTarget t (data_blocks m) (kind_at m) → kind_at m t ≡ kinds.Committed (s + 4) → ((i : ℕ) → i < 7 → raw_slot m s i ≢ NoGeneration) → HasWholeSources m
one-source m s t target is whole r e i low inside says within = elim (cases_eq e t) as (λ _. raw_slot m r i ≢ NoGeneration) [
  | inl same ↦
      let q : s + 4 ≡ r + 4 = ap source_in (sym is ∙ (ap (λ d. kind_at m d) (sym same) ∙ says)) in
      let z : s ≡ r = omega (arith, q) in
      subst (λ d. raw_slot m d i ≢ NoGeneration) z (whole i within)
  | inr other ↦ absurd (subst (λ k. IsAtRest k) says (target.others e inside other))
]

pub spare-sources : (m : List ℕ) (s t : ℕ) → IsTarget t (data_blocks m) (kind_at m) → kind_at m t ≡ kinds.Committed (s + 4) → IsSpareIn m s → HasWholeSources m
spare-sources m s t target is free = one-source m s t target is (λ i within. free-whole (raw_slot m s i) (free.free i within))

-- a block beside the one that was changed
pub beside-same : (a new : Bits) (c e : ℕ) → SameBeside (c + 4) a new → e ≢ c → SameBlock (e + 4) a new
beside-same a new c e same other k small = same (block_place e + k) (omega arith) (elim (cases_lt e c) as (λ _. (block_place e + k < block_len * (c + 4)) ⊎ (block_len * (c + 4) + block_len ≤ block_place e + k)) [
  | inl below ↦ inl (omega (arith, below, small))
  | inr above ↦ inr (omega (arith, above, other))
])

pub place-same : (a new : Bits) (c p : ℕ) → p < 7 → SameButPlace c p a new → (e : ℕ) → e ≢ c → SameBlock (e + 4) a new
place-same a new c p within same e other k small = elim (cases_lt e c) as (λ _. SameAt a new (block_place e + k)) [
  | inl below ↦ same (block_place e + k) (inl (omega (arith, below, small))) (inl (omega (arith, below, small)))
  | inr above ↦ same (block_place e + k) (inr (omega (arith, above, other, within))) (inr (omega (arith, above, other, within)))
]

-- Of each byte of a block eight bits are weak at most, also where a program in it was interrupted, or is done.
program-byte-bits : (a new : Bits) (c at : ℕ) (bytes : List ℕ) → ProgramInterrupted (block_place c + at) bytes a new → HasByteBits a c → ((j : ℕ) → j < length bytes → byte a.shown (block_place c + (at + j)) < 256) → HasByteBits new c
program-byte-bits a new c at bytes l bits small k j low high = elim (cases_lt k at) as (λ _. bit_at (byte new.weak (block_place c + k)) j ≡ 0) [
  | inl before ↦ ap (λ x. bit_at x j) (program-beside a new (block_place c + at) bytes l (block_place c + k) (inl (omega (arith, before)))).1 ∙ bits k j low high
  | inr from ↦ elim (cases_lt k (at + length bytes)) as (λ _. bit_at (byte new.weak (block_place c + k)) j ≡ 0) [
    | inr after ↦ ap (λ x. bit_at x j) (program-beside a new (block_place c + at) bytes l (block_place c + k) (inr (omega (arith, after)))).1 ∙ bits k j low high
    | inl inside ↦
        let e : block_place c + (at + (k - at)) ≡ block_place c + k = omega (arith, from) in
        high-kept a new (block_place c + at) bytes (block_place c + k) j l (subst (λ q. byte a.shown q < 256) e (small (k - at) (omega (arith, inside, from)))) high (bits k j low high)
  ]
]

done-byte-bits : (a : Bits) (c at : ℕ) (bytes : List ℕ) → HasByteBits a c → HasByteBits (program_bits a at bytes) c
done-byte-bits a c at bytes bits k j low high = zero-stays a.weak at bytes (block_place c + k) j (bits k j low high)

-- A sector is written into a free slot whose bytes are erased.
module _ (a : Bits) (c p : ℕ) (low : p < 7) (bits : HasByteBits a c) (descriptor : (j : ℕ) → j < 4 → byte a.shown (descriptor_place c p + j) ≡ 255) (sector : (j : ℕ) → j < 512 → byte a.shown (sector_place c p + j) ≡ 255) (content : List ℕ) (size : length content ≡ 512) (header : List ℕ) (begun : IsBegunHead header) where
  abbrev headed : Bits
  headed = with_descriptor c p header a

  abbrev paged : Bits
  paged = with_first_page c p content headed

  headed-bits : HasByteBits headed c
  headed-bits = done-byte-bits a c (descriptor_place c p) header bits

  paged-bits : HasByteBits paged c
  paged-bits = done-byte-bits headed c (sector_place c p) (take 256 content) headed-bits

  pub headed-sector : (j : ℕ) → j < 512 → byte headed.shown (sector_place c p + j) ≡ 255
  headed-sector j small = (program-beside a headed (descriptor_place c p) header (changed_whole refl) (sector_place c p + j) (inr (let four = begun.size in omega (arith, four, low)))).0 ∙ sector j small

  pub paged-sector : (j : ℕ) → 256 ≤ j → j < 512 → byte paged.shown (sector_place c p + j) ≡ 255
  paged-sector j from small =
      let n = length-take-le 256 content (omega (arith, size)) in
      (program-beside headed paged (sector_place c p) (take 256 content) (changed_whole refl) (sector_place c p + j) (inr (omega (arith, n, from)))).0 ∙ headed-sector j small

  pub headed-state : byte headed.shown (descriptor_place c p) ≡ 254
  headed-state =
      let z : descriptor_place c p + 0 ≡ descriptor_place c p = omega arith in
      ap (λ q. byte headed.shown q) (sym z) ∙ (programmed-byte a.shown (descriptor_place c p) header 0 (let four = begun.size in omega (arith, four)) (descriptor 0 (omega arith)) ∙ ap (λ x. bit_and 255 x) begun.state)

  header-bits : (new : Bits) → ProgramInterrupted (descriptor_place c p) header a new → HasByteBits new c
  header-bits new l = program-byte-bits a new c (16 + 4 * p) header l bits (λ j small.
      let e : descriptor_place c p + j ≡ block_place c + (16 + 4 * p + j) = omega arith in
      let y = ap (λ q. byte a.shown q) e in
      let z = descriptor j (let four = begun.size in omega (arith, four, small)) in
      omega (arith, y, z))

  first-bits : (new : Bits) → ProgramInterrupted (sector_place c p) (take 256 content) headed new → HasByteBits new c
  first-bits new l = program-byte-bits headed new c (512 * (p + 1)) (take 256 content) l headed-bits (λ j small.
      let e : sector_place c p + j ≡ block_place c + (512 * (p + 1) + j) = omega arith in
      let y = ap (λ q. byte headed.shown q) e in
      let n = length-take-le 256 content (omega (arith, size)) in
      let z = headed-sector j (omega (arith, n, small)) in
      omega (arith, y, z))

  second-bits : (new : Bits) → ProgramInterrupted (sector_place c p + 256) (drop 256 content) paged new → HasByteBits new c
  second-bits new l =
      let at : sector_place c p + 256 ≡ block_place c + (512 * (p + 1) + 256) = omega arith in
      program-byte-bits paged new c (512 * (p + 1) + 256) (drop 256 content) (subst (λ q. ProgramInterrupted q (drop 256 content) paged new) at l) paged-bits (λ j small.
      let e : sector_place c p + (256 + j) ≡ block_place c + (512 * (p + 1) + 256 + j) = omega arith in
      let y = ap (λ q. byte paged.shown q) e in
      let n = length-drop 256 content in
      let z = paged-sector (256 + j) (omega arith) (omega (arith, n, size, small)) in
      omega (arith, y, z))

  commit-bits : (new : Bits) → ProgramInterrupted (descriptor_place c p) (252 ∷ []) (with_pages c p content headed) new → HasByteBits new c
  commit-bits new l =
      let filled = with_pages c p content headed in
      program-byte-bits filled new c (16 + 4 * p) (252 ∷ []) l (done-byte-bits paged c (sector_place c p + 256) (drop 256 content) paged-bits) (λ j small.
      let e : descriptor_place c p ≡ block_place c + (16 + 4 * p + j) = omega (arith, small) in
      let y = ap (λ q. byte filled.shown q) e in
      let z = (pages-aside c p content headed size (descriptor_place c p) (inl (omega (arith, low)))).0 ∙ headed-state in
      omega (arith, y, z))

pub put-bytes : (a new : Bits) (c p : ℕ) (tag : Tag) (content : List ℕ) → p < 7 → length content ≡ 512 → HasByteBits a c → ((j : ℕ) → j < 4 → byte a.shown (descriptor_place c p + j) ≡ 255) → ((j : ℕ) → j < 512 → byte a.shown (sector_place c p + j) ≡ 255)
    → PutInterrupted c p tag content a new → HasByteBits new c
put-bytes a new c p tag content low size bits descriptor sector (in_header header begun l) = header-bits a c p low bits descriptor sector content size header begun.begun new l
put-bytes a new c p tag content low size bits descriptor sector (in_first_page header begun l) = first-bits a c p low bits descriptor sector content size header begun.begun new l
put-bytes a new c p tag content low size bits descriptor sector (in_second_page header begun l) = second-bits a c p low bits descriptor sector content size header begun.begun new l
put-bytes a new c p tag content low size bits descriptor sector (in_commit header begun l) = commit-bits a c p low bits descriptor sector content size header begun.begun new l

pub put-length : (a new : Bits) (c p : ℕ) (tag : Tag) (content : List ℕ) → PutInterrupted c p tag content a new → length new.shown ≡ length a.shown
put-length a new c p tag content (in_header header begun l) = program-length a new (descriptor_place c p) header l
put-length a new c p tag content (in_first_page header begun l) =
    let headed = with_descriptor c p header a in
    program-length headed new (sector_place c p) (take 256 content) l ∙ program-length a headed (descriptor_place c p) header (changed_whole refl)
put-length a new c p tag content (in_second_page header begun l) =
    let headed = with_descriptor c p header a in
    let paged = with_first_page c p content headed in
    program-length paged new (sector_place c p + 256) (drop 256 content) l
    ∙ (program-length headed paged (sector_place c p) (take 256 content) (changed_whole refl) ∙ program-length a headed (descriptor_place c p) header (changed_whole refl))
put-length a new c p tag content (in_commit header begun l) =
    let headed = with_descriptor c p header a in
    let paged = with_first_page c p content headed in
    let filled = with_pages c p content headed in
    program-length filled new (descriptor_place c p) (252 ∷ []) l
    ∙ (program-length paged filled (sector_place c p + 256) (drop 256 content) (changed_whole refl)
    ∙ (program-length headed paged (sector_place c p) (take 256 content) (changed_whole refl) ∙ program-length a headed (descriptor_place c p) header (changed_whole refl)))

-- A free slot of a firm disk is erased, while nothing is copied.
pub free-descriptor : (a : Bits) (suspect : ℕ → Bool) (c p : ℕ) → IsFirmDisk a suspect → c < data_blocks a.shown → p < 7 → raw_slot a.shown c p ≡ Free → (j : ℕ) → j < 4 → byte a.shown (descriptor_place c p + j) ≡ 255
free-descriptor a suspect c p disk low within free j small =
    let e : descriptor_place c p + j ≡ block_place c + (16 + 4 * p + j) = omega arith in
    ap (λ q. byte a.shown q) e ∙ (sym (here a.shown c (16 + 4 * p + j) disk.settled (omega (arith, within, small))) ∙ free-bytes (data_block a.shown c) p (disk.alone c low) free j small)

pub free-sector : (a : Bits) (suspect : ℕ → Bool) (c p : ℕ) → IsFirmDisk a suspect → AreAtRest (kind_at a.shown) (data_blocks a.shown) → c < data_blocks a.shown → p < 7 → raw_slot a.shown c p ≡ Free → (j : ℕ) → j < 512 → byte a.shown (sector_place c p + j) ≡ 255
free-sector a suspect c p disk rest low within free j small =
    let m = a.shown in
    let s = 7 * c + p in
    let at : s / 7 ≡ c = omega (arith, within) in
    let place : s % 7 ≡ p = omega (arith, within) in
    let inside : s < slot_count m = omega (arith, low, within) in
    let is : slot_at m s ≡ Free = rest-counted (kind_at m) (raw_slot m) (data_blocks m) s rest inside ∙ (ap (λ q. raw_slot m q (s % 7)) at ∙ (ap (λ i. raw_slot m c i) place ∙ free)) in
    let clean : content_bytes (data_block m c) p ≡ blank_sector = ap (λ i. content_bytes (data_block m c) i) (sym place) ∙ (ap (λ q. content_bytes (data_block m q) (s % 7)) (sym at) ∙ disk.clean.slots s inside is) in
    let e : sector_place c p + j ≡ block_place c + (512 * (p + 1) + j) = omega arith in
    ap (λ q. byte m q) e
    ∙ (sym (here m c (512 * (p + 1) + j) disk.settled (omega (arith, within, small)))
    ∙ (sym (get-part 512 (data_block m c) (p + 1) j small) ∙ (ap (λ x. byte x j) clean ∙ (get-part 512 blank 1 j small ∙ byte-blank (512 * 1 + j) (omega (arith, small))))))
