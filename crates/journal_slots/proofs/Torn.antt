-- The bits of a place whose programs are interrupted, and of those beside it.
use Rattle.std.proofs.Common.{◌≡◌, ℕ, ◌+◌, ◌-◌, ◌*◌, ◌<◌, ◌≤◌, ◌⊎◌, List, length, sym, ap, ◌∙◌, subst, inl, inr, arith}
use Rattle.std.specs.Prelude.{bit_and, drop, slice_range, take}
use Rattle.chip_model.specs.Wavering.{Bits}
use Rattle.nor_layout.specs.declared.header.Tag.{Tag}
use Rattle.nor_driver.specs.State.{program_bits}
use Rattle.erase_journal.specs.Journals.{IsSettled}
use Rattle.erase_journal.specs.Torn.{ProgramInterrupted}
use Rattle.erase_journal.proofs.Drawing.{same-bits}
use Rattle.erase_journal.proofs.Losses.{program-beside}
use Rattle.erase_journal.proofs.Torn.{same-after}
use Rattle.sector_slots.specs.Slots.{data_block}
use Rattle.sector_slots.specs.Torn.{HeadInterrupted, IsBegunDescriptor, PutInterrupted, SameButPlace, in_first_page, in_it, in_second_page}
use Rattle.sector_slots.specs.Torn.{with_descriptor, with_first_page, with_pages}
use Rattle.sector_slots.specs.Weak.{block_place, descriptor_place, sector_place}
use Rattle.sector_slots.proofs.FirmLaws.{here}
use Rattle.sector_slots.proofs.SectorBits.{SameButSector, first-aside, pages-aside, second-aside}
use Rattle.journal_slots.specs.Programs.{IsFirmByte, PagesInterrupted, as_read, in_first, in_second, killed}
use Rattle.journal_slots.proofs.Bytes.{last-page}
use Rattle.journal_slots.proofs.Reading.{head-byte, head-descriptor}

-- the programs of a sector's pages
pub pages-beside : (c i : ℕ) (content : List ℕ) (a b : Bits) → length content ≡ 512 → PagesInterrupted c i content a b → SameButSector c i a b
pages-beside c i content a b size (in_first l) = first-aside c i content a b size l
pages-beside c i content a b size (in_second l) = second-aside c i content a b size l

pub pages-place : (c i : ℕ) (content : List ℕ) (a b : Bits) → length content ≡ 512 → PagesInterrupted c i content a b → SameButPlace c i a b
pages-place c i content a b size l k out1 out2 = pages-beside c i content a b size l k out2

-- the program of the second page, by the places that the code gives
first-firm : (c i at : ℕ) (content : List ℕ) (a b : Bits) → at ≡ 512 * (i + 1) → b ≡ program_bits a (block_place c + at) (take 256 content) → b ≡ with_first_page c i content a
first-firm c i at content a b e done = done ∙ ap (λ q. program_bits a (block_place c + q) (take 256 content)) e

second-place : (c i at : ℕ) → at ≡ 512 * (i + 1) → block_place c + (at + 256) ≡ sector_place c i + 256
second-place c i at e = omega (arith, e)

pub second-cut : (c i at : ℕ) (content : List ℕ) (a b d : Bits) → at ≡ 512 * (i + 1) → b ≡ program_bits a (block_place c + at) (take 256 content)
    → ProgramInterrupted (block_place c + (at + 256)) (take (length content - 256) (drop 256 content)) b d → ProgramInterrupted (sector_place c i + 256) (drop 256 content) (with_first_page c i content a) d
second-cut c i at content a b d e done l =
    let page = take (length content - 256) (drop 256 content) in
    subst (λ (x : Bits). ProgramInterrupted (sector_place c i + 256) (drop 256 content) x d) (first-firm c i at content a b e done)
    (subst (λ (x : List ℕ). ProgramInterrupted (sector_place c i + 256) x b d) (last-page content)
    (subst (λ q. ProgramInterrupted q page b d) (second-place c i at e) l))

pub both-pages : (c i at : ℕ) (content : List ℕ) (a b d : Bits) → at ≡ 512 * (i + 1) → b ≡ program_bits a (block_place c + at) (take 256 content)
    → d ≡ program_bits b (block_place c + (at + 256)) (take (length content - 256) (drop 256 content)) → d ≡ with_pages c i content a
both-pages c i at content a b d e done next =
    next ∙ (ap (λ q. program_bits b q (take (length content - 256) (drop 256 content))) (second-place c i at e)
    ∙ (ap (λ (x : List ℕ). program_bits b (sector_place c i + 256) x) (last-page content)
    ∙ ap (λ (x : Bits). program_bits x (sector_place c i + 256) (drop 256 content)) (first-firm c i at content a b e done)))

-- a program of a descriptor, after those of its sector
pub place-aside : (c i : ℕ) (bytes content : List ℕ) (a b d : Bits) → length bytes ≤ 4 → length content ≡ 512 → b ≡ with_pages c i content a → ProgramInterrupted (descriptor_place c i) bytes b d → SameButPlace c i a d
place-aside c i bytes content a b d few size done l k out1 out2 =
    same-after a b d k
    (subst (λ (x : Bits). SameButSector c i a x) (sym done) (pages-aside c i content a size) k out2)
    (program-beside b d (descriptor_place c i) bytes l k (elim out1 as (λ _. (k < descriptor_place c i) ⊎ (descriptor_place c i + length bytes ≤ k)) [ inl low ↦ inl low | inr high ↦ inr (omega (arith, high, few)) ]))

-- a descriptor was programmed, by the place that the code gives, and both pages after it
pub descriptor-firm : (c i at : ℕ) (header : List ℕ) (a b : Bits) → at ≡ 16 + 4 * i → b ≡ program_bits a (block_place c + at) header → b ≡ with_descriptor c i header a
descriptor-firm c i at header a b e done = done ∙ ap (λ q. program_bits a (block_place c + q) header) e

pub place-firm : (c i at : ℕ) (header content : List ℕ) (a b d : Bits) → at ≡ 16 + 4 * i → b ≡ program_bits a (block_place c + at) header → d ≡ with_pages c i content b → d ≡ with_pages c i content (with_descriptor c i header a)
place-firm c i at header content a b d e done next = next ∙ ap (λ (x : Bits). with_pages c i content x) (descriptor-firm c i at header a b e done)

-- the programs of a sector's pages, after that of a descriptor
pub put-pages : (c i : ℕ) (tag : Tag) (header content : List ℕ) (a b d : Bits) → IsBegunDescriptor tag header → b ≡ with_descriptor c i header a → PagesInterrupted c i content b d → PutInterrupted c i tag content a d
put-pages c i tag header content a b d begun done (in_first l) = in_first_page header begun (subst (λ (x : Bits). ProgramInterrupted (sector_place c i) (take 256 content) x d) done l)
put-pages c i tag header content a b d begun done (in_second l) = in_second_page header begun (subst (λ (x : Bits). ProgramInterrupted (sector_place c i + 256) (drop 256 content) (with_first_page c i content x) d) done l)

-- a program of a head, after a read
pub head-interrupted : (c : ℕ) (m w m' w' : List ℕ) (b : Bits) (head h : List ℕ) → m' ≡ m → w' ≡ w → IsSettled m' → length h ≡ 44 → head ≡ slice_range (data_block m c) 0 44
    → ((k : ℕ) → k < 44 → IsFirmByte head h k) → ProgramInterrupted (block_place c + 0) h (record { shown = m'; weak = w' }) b → HeadInterrupted c (record { shown = m; weak = w }) b
head-interrupted c m w m' w' b head h same firm settled size read each l =
    let z : block_place c + 0 ≡ block_place c = omega arith in
    let bits = same-bits m' m w' w same firm in
    let was = λ (k : ℕ) (low : k < 44). head-byte (data_block m c) head k read low ∙ here m c k (subst (λ q. IsSettled q) same settled) (omega (arith, low)) in
    in_it h size
    (λ k low. elim (each k low) [
      | as_read e ↦ inl (e ∙ was k low)
      | killed i li at dead e ↦ inr (i, li, at, sym (head-descriptor (data_block m c) head i read li) ∙ dead, e ∙ ap (λ x. bit_and x 251) (was k low))
    ])
    (subst (λ q. ProgramInterrupted q h (record { shown = m; weak = w }) b) z (subst (λ (x : Bits). ProgramInterrupted (block_place c + 0) h x b) bits l))
