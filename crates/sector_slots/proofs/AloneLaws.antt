-- Where no block is of a group, none is once a block changed and isn't of one.
use Rattle.std.proofs.Common.{◌≡◌, ℕ, ◌+◌, ◌/◌, ◌<◌, false, List, sym, ap, ◌∙◌, arith, inl, inr}
use Rattle.std.proofs.lemmas.Bool.{cases_eq}
use Rattle.erase_journal.specs.Blocks.{OnlyBlock, SameBlocks}
use Rattle.nor_layout.specs.Kinds.{kind_of}
use Rattle.sector_slots.specs.Slots.{is_group, data_blocks, kind_at}
use Rattle.sector_slots.specs.Sectors.{HasSlotsAlone, GroupsFit}
use Rattle.sector_slots.specs.Steps.{OnlyPlace}
use Rattle.sector_slots.proofs.MachineLaws.{block-data}

pub block-alone : (c : ℕ) (m m' : List ℕ) → OnlyBlock (c + 4) m m' → (is_group (kind_at m c) ≡ false → is_group (kind_at m' c) ≡ false) → HasSlotsAlone m → HasSlotsAlone m'
block-alone c m m' only now h d high =
    let n = only.chip.same_length in
    let low : d < data_blocks m = omega (arith, high, n) in
    elim (cases_eq d c) as (λ _. is_group (kind_at m' d) ≡ false) [
      | inl e ↦ ap (λ a. is_group (kind_at m' a)) e ∙ now (ap (λ a. is_group (kind_at m a)) (sym e) ∙ h d low)
      | inr ne ↦ ap is_group ((block-data c m m' only).same_kind d low ne) ∙ h d low
    ]

pub place-alone : (w : ℕ) (m m' : List ℕ) → OnlyPlace w m m' → HasSlotsAlone m → HasSlotsAlone m'
place-alone w m m' only = block-alone (w / 7) m m' only.only (λ q. ap is_group only.kind ∙ q)

pub blocks-alone : (m m' : List ℕ) → SameBlocks m m' → HasSlotsAlone m → HasSlotsAlone m'
blocks-alone m m' same h d high =
    let n = same.chip.same_length in
    let low : d < data_blocks m = omega (arith, high, n) in
    ap (λ b. is_group (kind_of b)) (same.each (d + 4) (omega arith) (omega (arith, low))) ∙ h d low

-- where no block is of a group, what is asked of those that are is met
pub alone-fit : (m : List ℕ) → HasSlotsAlone m → GroupsFit m
alone-fit m h = record {
  sectors = record { apart = λ s t g j k x y l r. (let a = l.number in let b = r.number in h (s / 7) (omega (arith, a)) ∙ sym (h (t / 7) (omega (arith, b)))) };
  layout = λ two. h;
}
