-- The bytes of a data block's mark, descriptors and sectors, in the memory.
use Rattle.std.proofs.Common.{◌≡◌, ℕ, suc, ◌+◌, ◌*◌, ◌<◌, ◌≤◌, ◌⊎◌, Bool, true, false, ◌&&◌, cond, List, refl, sym, ap, ◌∙◌, arith, inl, inr}
use Rattle.std.specs.Prelude.{◌/◌, drop, nat_lt}
use Rattle.std.specs.Int.{bit_at}
use Rattle.std.proofs.lemmas.Bool.{cases_eq}
use Rattle.std.proofs.lemmas.Bool.Decides.{nat_tests}
use Rattle.std.proofs.lemmas.List.{get_or-drop}
use Rattle.std.proofs.lemmas.Nat.Bits.{same_from_bits, bit_at-zero, bit_at-suc}
use Rattle.chip_model.specs.Memory.{byte}
use Rattle.chip_model.specs.Parts.{part}
use Rattle.chip_model.specs.Wavering.{Drawn}
use Rattle.chip_model.proofs.PartLaws.{get-part}
use Rattle.erase_journal.specs.Journals.{entries_for}
use Rattle.erase_journal.specs.Blocks.{block, blank, is_believed0}
use Rattle.sector_slots.specs.Slots.{data_block, content_bytes}
use Rattle.firm_chip.specs.FirmChips.{data_place, head_place, content_place, IsBegunAtMost}
use Rattle.firm_chip.proofs.Draws.{AreChipJournals, believed-drawn, named-drawn}

block-by : (t : Bool) (p q : List ℕ) → ((cond t blank p ≡ blank) × (cond t blank q ≡ blank)) ⊎ ((cond t blank p ≡ p) × (cond t blank q ≡ q))
block-by true p q = inl (refl, refl)
block-by false p q = inr (refl, refl)

-- the bytes that a data block represents: erased before and after, or those of the memory
pub block-drawn : (m w m' : List ℕ) (c : ℕ) → AreChipJournals m w → Drawn w m m'
    → ((data_block m c ≡ blank) × (data_block m' c ≡ blank)) ⊎ ((data_block m c ≡ part 4096 m (c + 4)) × (data_block m' c ≡ part 4096 m' (c + 4)))
unfolding block
block-drawn m w m' c f d =
    let e : is_believed0 m' ≡ is_believed0 m = believed-drawn m w m' f d in
    let n : entries_for m' (c + 4) ≡ entries_for m (c + 4) = named-drawn m w m' f d (c + 4) in
    rw (e, n) (block-by (is_believed0 m && nat_lt 0 (entries_for m (c + 4))) (part 4096 m (c + 4)) (part 4096 m' (c + 4)))

tested : (m : List ℕ) (b : ℕ) → 1 ≤ entries_for m b → nat_lt 0 (entries_for m b) ≡ true
tested m b some = grind (arith, nat_tests)

-- one that is being erased
pub erasing-blank : (m : List ℕ) (c : ℕ) → is_believed0 m ≡ true → 1 ≤ entries_for m (c + 4) → data_block m c ≡ blank
unfolding block
erasing-blank m c b some = let t = tested m (c + 4) some in rw (b, t) refl

-- a byte of it
pub byte-there : (m : List ℕ) (c j at : ℕ) → data_block m c ≡ part 4096 m (c + 4) → j < 4096 → data_place c + j ≡ at → byte (data_block m c) j ≡ byte m at
byte-there m c j at e low is = ap (λ b. byte b j) e ∙ (get-part 4096 m (c + 4) j low ∙ ap (λ k. byte m k) is)

-- a byte of a descriptor, and of a sector
pub descriptor-byte : (m : List ℕ) (c i j : ℕ) → data_block m c ≡ part 4096 m (c + 4) → i < 7 → j < 4 → byte (drop (16 + 4 * i) (data_block m c)) j ≡ byte m (head_place (7 * c + i) + j)
descriptor-byte m c i j e low small = get_or-drop (16 + 4 * i) (data_block m c) j 0 ∙ byte-there m c (16 + 4 * i + j) (head_place (7 * c + i) + j) e (omega arith) (omega arith)

pub content-byte : (m : List ℕ) (c i j : ℕ) → data_block m c ≡ part 4096 m (c + 4) → i < 7 → j < 512 → byte (content_bytes (data_block m c) i) j ≡ byte m (content_place (7 * c + i) + j)
content-byte m c i j e low small = get-part 512 (data_block m c) (i + 1) j small ∙ byte-there m c (512 * (i + 1) + j) (content_place (7 * c + i) + j) e (omega arith) (omega arith)

-- the state of a mark that was begun at most
pub begun-drawn : (m w m' : List ℕ) (c : ℕ) → Drawn w m m' → IsBegunAtMost m w c → (byte m' (data_place c + 4) ≡ 255) ⊎ (byte m' (data_place c + 4) ≡ 254)
begun-drawn m w m' c d h =
    let at = data_place c + 4 in
    let none : byte w at / 2 ≡ 0 = (let a = h.weak in omega (arith, a)) in
    let half : byte m' at / 2 ≡ byte m at / 2 = same_from_bits (byte m' at / 2) (byte m at / 2) (λ k.
    sym (bit_at-suc (byte m' at) k) ∙ (d.firm at (suc k) (bit_at-suc (byte w at) k ∙ (ap (λ x. bit_at x k) none ∙ bit_at-zero k)) ∙ bit_at-suc (byte m at) k)) in
    let a = h.least in
    let b = h.most in
    elim (cases_eq (byte m' at) 255) as (λ _. (byte m' at ≡ 255) ⊎ (byte m' at ≡ 254)) [ inl e ↦ inl e | inr n ↦ inr (omega (arith, half, a, b, n)) ]

pub begun-was : (m w : List ℕ) (c : ℕ) → IsBegunAtMost m w c → (byte m (data_place c + 4) ≡ 255) ⊎ (byte m (data_place c + 4) ≡ 254)
begun-was m w c h =
    let a = h.least in
    let b = h.most in
    elim (cases_eq (byte m (data_place c + 4)) 255) as (λ _. (byte m (data_place c + 4) ≡ 255) ⊎ (byte m (data_place c + 4) ≡ 254)) [ inl e ↦ inl e | inr n ↦ inr (omega (arith, a, b, n)) ]
