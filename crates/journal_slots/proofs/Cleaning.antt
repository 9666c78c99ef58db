-- What is read of a block's free slots, and what it says of a memory.
use Rattle.std.proofs.Common.{◌≡◌, ◌≢◌, ℕ, ◌+◌, ◌-◌, ◌*◌, ◌<◌, List, Bool, length, refl, sym, ap, ◌∙◌, subst, arith, inl, inr}
use Rattle.std.specs.Prelude.{◌/◌, ◌%◌, take, drop, slice_range, Result, Ok, Err, IfOk}
use Rattle.std.proofs.lemmas.Bool.{cases_eq}
use Rattle.std.proofs.lemmas.List.{ext_get_or, get_or-take, get_or-drop, length-take-le}
use Rattle.nor_driver.specs.declared.error.NorError.{NorError}
use Rattle.nor_layout.specs.declared.header.Header.{Header}
use Rattle.nor_layout.specs.declared.header.Header.TheVariants as headers
use Rattle.chip_model.specs.Memory.{byte}
use Rattle.chip_model.specs.Parts.{part}
use Rattle.chip_model.proofs.PartLaws.{get-part, part-whole}
use Rattle.erase_journal.specs.Blocks.{blank}
use Rattle.erase_journal.proofs.BlockLaws.{length-blank, byte-blank}
use Rattle.sector_slots.specs.Slots.{Free, Outside, slot_in, content_bytes, descriptor_in, read_header, blank_sector, data_blocks, data_block, kind_at, raw_slot, slot_at, slot_count, IsClean}
use Rattle.sector_slots.specs.Blocks.{AreAtRest}
use Rattle.sector_slots.proofs.SlotLaws.{counted-raw}
use Rattle.sector_slots.proofs.CopyLaws.{at-rest-copies, at-rest-counts, copies-none, counted-in}
use Rattle.journal_slots.specs.Clean.{IsCleanBlock, AreCleanBlocks}
use Rattle.journal_slots.proofs.Places.{number_of, slot-free}
use Rattle.journal_slots.proofs.Reading.{known-free}

-- bytes that are those of an erased block
pub erased-is-blank : (b : List ℕ) → length b ≡ 4096 → ((k : ℕ) → k < length b → byte b k ≡ 255) → b ≡ blank
erased-is-blank b n each = ext_get_or 0 b blank (n ∙ sym length-blank) (λ k low. each k low ∙ sym (byte-blank k (omega (arith, low, n))))

pub blank-is-erased : (b : List ℕ) → b ≡ blank → (k : ℕ) → k < length b → byte b k ≡ 255
blank-is-erased b e k low = ap (λ x. byte x k) e ∙ byte-blank k (let n : length b ≡ 4096 = ap (λ x. length x) e ∙ length-blank in omega (arith, low, n))

-- and of a sector
length-sector : length blank_sector ≡ 512
length-sector = part-whole 512 blank 1 (omega (arith, length-blank))

byte-sector : (k : ℕ) → k < 512 → byte blank_sector k ≡ 255
byte-sector k low = get-part 512 blank 1 k low ∙ byte-blank (512 * 1 + k) (omega (arith, low))

pub erased-is-sector : (x : List ℕ) → length x ≡ 512 → ((k : ℕ) → k < length x → byte x k ≡ 255) → x ≡ blank_sector
erased-is-sector x n each = ext_get_or 0 x blank_sector (n ∙ sym length-sector) (λ k low. each k low ∙ sym (byte-sector k (omega (arith, low, n))))

pub sector-is-erased : (x : List ℕ) → x ≡ blank_sector → (k : ℕ) → k < length x → byte x k ≡ 255
sector-is-erased x e k low = ap (λ y. byte y k) e ∙ byte-sector k (let n : length x ≡ 512 = ap (λ y. length y) e ∙ length-sector in omega (arith, low, n))

-- the bytes at a place, cut out
pub place-bytes : (b : List ℕ) (i at : ℕ) → at ≡ 512 * (i + 1) → slice_range b at (at + 512) ≡ content_bytes b i
unfolding part
place-bytes b i at e =
    let size : at + 512 - at ≡ 512 = omega arith in
    ap (λ q. take q (drop at b)) size ∙ ap (λ q. take 512 (drop q b)) e

pub length-content : (b : List ℕ) (i : ℕ) → length b ≡ 4096 → i < 7 → length (content_bytes b i) ≡ 512
length-content b i n low = part-whole 512 b (i + 1) (omega (arith, n, low))

-- blocks that are clean make a clean memory
free-is-inside : Free ≢ Outside
free-is-inside e = let q : 0 ≡ 4 = ap number_of e in omega (arith, q)

pub blocks-clean : (m : List ℕ) → AreCleanBlocks m → IsClean m
blocks-clean m clean = record {
  slots = λ s low free. (clean (s / 7) (omega (arith, low))).slots (s % 7) (omega arith) (counted-raw m s Free free free-is-inside);
  spare = λ c low spare. (clean c low).spare spare.plain spare.free;
}

-- and where no copying goes on, no other blocks do
rest-counts : (m : List ℕ) (s : ℕ) → AreAtRest (kind_at m) (data_blocks m) → s < slot_count m → slot_at m s ≡ raw_slot m (s / 7) (s % 7)
rest-counts m s rest low =
    counted-in (kind_at m) (raw_slot m) (data_blocks m) s (at-rest-counts (kind_at m (s / 7)) (rest (s / 7) (omega (arith, low))))
    (copies-none (kind_at m) (data_blocks m) (s / 7) (λ d h. at-rest-copies (s / 7 + 4) (kind_at m d) (rest d h)))

pub clean-blocks : (m : List ℕ) → AreAtRest (kind_at m) (data_blocks m) → IsClean m → AreCleanBlocks m
clean-blocks m rest clean c low = record {
  slots = λ i small free.
      let s = 7 * c + i in
      let b : s / 7 ≡ c = omega (arith, small) in
      let p : s % 7 ≡ i = omega (arith, small) in
      let in_range : s < slot_count m = omega (arith, low, small) in
      let here : slot_at m s ≡ Free = rest-counts m s rest in_range ∙ (ap (λ q. raw_slot m q (s % 7)) b ∙ (ap (λ q. raw_slot m c q) p ∙ free)) in
      subst (λ q. content_bytes (data_block m c) q ≡ blank_sector) p (subst (λ q. content_bytes (data_block m q) (s % 7) ≡ blank_sector) b (clean.slots s in_range here));
  spare = λ plain free. clean.spare c low (record { plain = plain; free = free });
}

-- the sector at a place, by its bytes
pub place-erased : (b : List ℕ) (i : ℕ) → length b ≡ 4096 → i < 7 → ((k : ℕ) → k < length (slice_range b (512 * (i + 1)) (512 * (i + 1) + 512)) → byte (slice_range b (512 * (i + 1)) (512 * (i + 1) + 512)) k ≡ 255) → content_bytes b i ≡ blank_sector
place-erased b i n low each =
    erased-is-sector (content_bytes b i) (length-content b i n low) (subst (λ x. (k : ℕ) → k < length x → byte x k ≡ 255) (place-bytes b i (512 * (i + 1)) refl) each)

pub place-not_erased : (b : List ℕ) (i : ℕ) → (((k : ℕ) → k < length (slice_range b (512 * (i + 1)) (512 * (i + 1) + 512)) → byte (slice_range b (512 * (i + 1)) (512 * (i + 1) + 512)) k ≡ 255) → ⊥) → content_bytes b i ≡ blank_sector → ⊥
place-not_erased b i never e = never (subst (λ x. (k : ℕ) → k < length x → byte x k ≡ 255) (sym (place-bytes b i (512 * (i + 1)) refl)) (sector-is-erased (content_bytes b i) e))

-- a block by its descriptors
abbrev pub HeadsAre : List Header → List ℕ → Type 0
HeadsAre places b = (i : ℕ) → i < 7 → read_header places i ≡ descriptor_in b i

pub heads-clean : (b : List ℕ) (places : List Header) → HeadsAre places b → IsCleanBlock b → (i : ℕ) → i < 7 → read_header places i ≡ headers.Free → content_bytes b i ≡ blank_sector
heads-clean b places same w i low free = w.slots i low (known-free b i (sym free ∙ same i low))

pub clean-heads : (b : List ℕ) (places : List Header) → HeadsAre places b → ((i : ℕ) → i < 7 → read_header places i ≡ headers.Free → content_bytes b i ≡ blank_sector) → (i : ℕ) → i < 7 → slot_in b i ≡ Free → content_bytes b i ≡ blank_sector
clean-heads b places same clean i low free = clean i low (same i low ∙ slot-free b i free)

pub heads-free : (b : List ℕ) (places : List Header) → HeadsAre places b → ((i : ℕ) → i < 7 → read_header places i ≡ headers.Free) → (i : ℕ) → i < 7 → slot_in b i ≡ Free
heads-free b places same free i low = known-free b i (sym (free i low) ∙ same i low)

pub free-heads : (b : List ℕ) (places : List Header) → HeadsAre places b → ((i : ℕ) → i < 7 → slot_in b i ≡ Free) → (i : ℕ) → i < 7 → read_header places i ≡ headers.Free
free-heads b places same free i low = same i low ∙ slot-free b i (free i low)

-- a block that was read whole
pub whole-read : (b x : List ℕ) → length b ≡ 4096 → x ≡ slice_range b 0 4096 → x ≡ b
whole-read b x n e =
    let long : length x ≡ 4096 = ap (λ q. length q) e ∙ length-take-le 4096 (drop 0 b) (let z : drop 0 b ≡ b = refl in omega (arith, n, ap (λ q. length q) z)) in
    ext_get_or 0 x b (long ∙ sym n) (λ k low.
    let z : 0 + k ≡ k = omega arith in
    ap (λ q. byte q k) e ∙ (get_or-take 4096 (drop 0 b) k 0 (omega (arith, low, long)) ∙ (get_or-drop 0 b k 0 ∙ ap (λ q. byte b q) z)))

-- one block more
pub clean-next : (m : List ℕ) (b : ℕ) → ((c : ℕ) → c < b → IsCleanBlock (data_block m c)) → IsCleanBlock (data_block m b) → (c : ℕ) → c < b + 1 → IsCleanBlock (data_block m c)
clean-next m b before here c low = elim (cases_eq c b) as (λ _. IsCleanBlock (data_block m c)) [
  | inl e ↦ subst (λ q. IsCleanBlock (data_block m q)) (sym e) here
  | inr ne ↦ before c (omega (arith, low, ne))
]

-- a fact of an answer that makes another
pub if-ok : (r : Result Bool NorError) (P Q : Bool → Type 0) → ((b : Bool) → P b → Q b) → IfOk r P → IfOk r Q
if-ok (Ok b) P Q f h = f b h
if-ok (Err e) P Q f h = h
