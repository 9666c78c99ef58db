-- The bits beside a sector whose pages are programmed, and the generation of a descriptor that is begun.
use Rattle.std.proofs.Common.{◌≡◌, ℕ, ◌+◌, ◌<◌, ◌≤◌, ◌⊎◌, List, length, refl, ap, arith, inl, inr}
use Rattle.std.specs.Prelude.{drop, take}
use Rattle.std.proofs.lemmas.Bool.{cases_eq, ne_eqb}
use Rattle.std.proofs.lemmas.List.{length-drop, length-take-le}
use Rattle.chip_model.specs.Memory.{byte}
use Rattle.chip_model.specs.Wavering.{Bits}
use Rattle.nor_driver.specs.State.{changed_whole}
use Rattle.nor_layout.specs.declared.header.Generation.{Generation}
use Rattle.nor_layout.specs.declared.header.Generation.TheVariants.{Zero, One, Two, Three}
use Rattle.nor_layout.specs.declared.header.Header.TheVariants as headers
use Rattle.nor_layout.specs.declared.header.Tag.{Tag}
use Rattle.nor_layout.specs.Headers.{generation_byte, generation_of, live_of}
use Rattle.erase_journal.specs.Torn.{ProgramInterrupted, SameAt}
use Rattle.erase_journal.proofs.Losses.{program-beside}
use Rattle.erase_journal.proofs.Torn.{same-after}
use Rattle.sector_slots.specs.Torn.{IsBegunDescriptor, with_first_page, with_pages}
use Rattle.sector_slots.specs.Weak.{sector_place}
use Rattle.sector_slots.proofs.HeadLaws.{header_number}

-- each byte but those of the sector of a place is as it was
abbrev pub SameButSector : ℕ → ℕ → Bits → Bits → Type 0
SameButSector c i a b = (k : ℕ) → (k < sector_place c i) ⊎ (sector_place c i + 512 ≤ k) → SameAt a b k

-- a program in a sector
sector-aside : (c i at : ℕ) (bytes : List ℕ) (a b : Bits) → sector_place c i ≤ at → at + length bytes ≤ sector_place c i + 512 → ProgramInterrupted at bytes a b → SameButSector c i a b
sector-aside c i at bytes a b from to l k (inl low) = program-beside a b at bytes l k (inl (omega (arith, low, from)))
sector-aside c i at bytes a b from to l k (inr high) = program-beside a b at bytes l k (inr (omega (arith, high, to)))

-- one of its first page
pub first-aside : (c i : ℕ) (content : List ℕ) (a b : Bits) → length content ≡ 512 → ProgramInterrupted (sector_place c i) (take 256 content) a b → SameButSector c i a b
first-aside c i content a b size l = sector-aside c i (sector_place c i) (take 256 content) a b (omega arith) (let n = length-take-le 256 content (omega (arith, size)) in omega (arith, n)) l

-- one of its second page, after the first
pub second-aside : (c i : ℕ) (content : List ℕ) (a b : Bits) → length content ≡ 512 → ProgramInterrupted (sector_place c i + 256) (drop 256 content) (with_first_page c i content a) b → SameButSector c i a b
second-aside c i content a b size l k out =
    let d = with_first_page c i content a in
    same-after a d b k (first-aside c i content a d size (changed_whole refl) k out)
    (sector-aside c i (sector_place c i + 256) (drop 256 content) d b (omega arith) (let n = length-drop 256 content in omega (arith, n, size)) l k out)

-- both are programmed
pub pages-aside : (c i : ℕ) (content : List ℕ) (a : Bits) → length content ≡ 512 → SameButSector c i a (with_pages c i content a)
pages-aside c i content a size = second-aside c i content a (with_pages c i content a) size (changed_whole refl)

-- a descriptor that is live once its state is FCh has a generation
with-generation : (b n : ℕ) (tag : Tag) → live_of (generation_of b) n ≡ headers.Live tag → (g : Generation) × (b ≡ generation_byte g)
with-generation b n tag e = elim (cases_eq b 252) [
  | inl zero_th ↦ (Zero, zero_th)
  | inr n0 ↦ elim (cases_eq b 253) [
    | inl first ↦ (One, first)
    | inr n1 ↦ elim (cases_eq b 254) [
      | inl second ↦ (Two, second)
      | inr n2 ↦ elim (cases_eq b 255) [
        | inl third ↦ (Three, third)
        | inr n3 ↦ absurd (let q = ap header_number (rw (ne_eqb b 252 n0, ne_eqb b 253 n1, ne_eqb b 254 n2, ne_eqb b 255 n3) at e) in omega (arith, q))
      ]
    ]
  ]
]

pub begun-generation : (tag : Tag) (h : List ℕ) → IsBegunDescriptor tag h → (g : Generation) × (byte h 1 ≡ generation_byte g)
begun-generation tag h begun = with-generation (byte h 1) _ tag begun.live
