-- The sectors of a memory of which one slot changes, where no copying goes on.
use Rattle.std.proofs.Common.{◌≡◌, ◌≢◌, ℕ, ◌+◌, ◌-◌, ◌<◌, ◌⊎◌, List, length, sym, ap, ◌∙◌, subst, arith, inl, inr}
use Rattle.std.specs.Prelude.{◌/◌, ◌%◌}
use Rattle.chip_model.specs.Geometry.{block_count, sector_count}
use Rattle.nor_layout.specs.declared.header.Generation.{Generation}
use Rattle.nor_layout.specs.declared.header.Tag.{Tag}
use Rattle.nor_layout.specs.Headers.{next_generation}
use Rattle.erase_journal.specs.Blocks.{SameChip}
use Rattle.sector_slots.specs.Slots.{Slot, Free, Live, Dead, data_blocks, kind_at, raw_slot, slot_at, slot_count, IsSpareIn, OnlySlot}
use Rattle.sector_slots.specs.Blocks.{AreAtRest, AreSettled, IsSettledBlocks}
use Rattle.sector_slots.proofs.CopyLaws.{counted-in, at-rest-counts, at-rest-copies, copies-none}
use Rattle.sector_slots.specs.Sectors.{LiveAt, NextGeneration, OthersKept, with_sector, IsSingle, GroupsFit, HoldsSectors}
use Rattle.sector_slots.proofs.SectorLaws.{kind_in, put-done}
use Rattle.sector_slots.proofs.WinnerLaws.{stands-computed}
use Rattle.sector_slots.proofs.PlaceLaws.{later, later-is, place-others, place-settled, place-holds, put-leaves, retire-holds}
use Rattle.sector_slots.specs.Steps.{PutLeaves, written, OnlyPlace}
use Rattle.sector_slots.specs.Sectors.{sector_at}
use Rattle.sector_map.specs.Replace.{IsPlaced, IsInSlots}

pub live-not-free : (s : Slot) (tag : Tag) (x : List ℕ) → s ≡ Live tag x → s ≢ Free
live-not-free s tag x live free = let h : 1 ≡ 0 = ap kind_in (sym live ∙ free) in omega (arith, h)

pub dead-not-live : (s : Slot) (tag : Tag) (x : List ℕ) → s ≡ Dead → s ≢ Live tag x
dead-not-live s tag x dead live = let h : 3 ≡ 1 = ap kind_in (sym dead ∙ live) in omega (arith, h)

pub slot-only : (w : ℕ) (m m' : List ℕ) → OnlyPlace w m m' → OnlySlot w m m'
slot-only w m m' h = record { chip = h.only.chip; others = λ s low ne. later-is m m' s h.only.chip.same_length ∙ (place-others w m m' h).each s low ne }

pub others-kept : (w : ℕ) (m m' : List ℕ) → OnlySlot w m m' → OthersKept (slot_count m) w (slot_at m) (slot_at m')
others-kept w m m' only = record { each = only.others }

-- where no copying goes on each slot is its block's
pub at-rest-slot : (m : List ℕ) (w : ℕ) → AreAtRest (kind_at m) (data_blocks m) → w < slot_count m → slot_at m w ≡ raw_slot m (w / 7) (w % 7)
at-rest-slot m w rest low = counted-in (kind_at m) (raw_slot m) (data_blocks m) w (at-rest-counts (kind_at m (w / 7)) (rest (w / 7) (omega (arith, low))))
    (copies-none (kind_at m) (data_blocks m) (w / 7) (λ d l. at-rest-copies (w / 7 + 4) (kind_at m d) (rest d l)))

pub spare-apart : (m : List ℕ) (r b : ℕ) (tag : Tag) (x : List ℕ) → AreAtRest (kind_at m) (data_blocks m) → IsSpareIn m r → b < slot_count m → slot_at m b ≡ Live tag x → r ≢ b / 7
spare-apart m r b tag x rest spare low live e =
    live-not-free (slot_at m b) tag x live (at-rest-slot m b rest low ∙ (ap (λ c. raw_slot m c (b % 7)) (sym e) ∙ spare.free (b % 7) (omega arith)))

pub settled-at : (m m' : List ℕ) → SameChip m m' → IsSettledBlocks (kind_at m') (raw_slot m') (data_blocks m) → AreSettled m'
settled-at m m' chip s = subst (λ n. IsSettledBlocks (kind_at m') (raw_slot m') (block_count n - 4)) (sym chip.same_length) s

-- blocks stay settled where a slot outside a wholly free block changes
pub placed-settled : (w : ℕ) (m m' : List ℕ) → AreSettled m → IsPlaced w m → OnlyPlace w m m' → AreSettled m'
placed-settled w m m' s p only = settled-at m m' only.only.chip (place-settled w p.reserve m m' p.number p.spare p.apart s.rest only)

-- a live slot lies outside each wholly free block
pub live-placed : (w : ℕ) (tag : Tag) (x m : List ℕ) → AreSettled m → w < slot_count m → slot_at m w ≡ Live tag x → IsPlaced w m
live-placed w tag x m s low live = record { reserve = s.reserve; number = s.number; spare = s.spare; apart = spare-apart m s.reserve w tag x s.rest s.spare low live }

-- a sector was written into a free slot
pub put-holds : (w : ℕ) (tag : Tag) (x m m' : List ℕ) (sectors : ℕ → List ℕ) → w < slot_count m → tag.number < sector_count (length m) → slot_at m w ≡ Free → OnlyPlace w m m' → slot_at m' w ≡ Live tag x
    → AreSettled m → IsPlaced w m → IsSingle m → NextGeneration (slot_at m) (slot_count m) tag.number tag.generation → IsInSlots tag.number m → HoldsSectors sectors m → HoldsSectors (with_sector sectors tag.number x) m'
put-holds w tag x m m' sectors low within free only e s p single generation own h =
    let fit : GroupsFit m' = elim (put-leaves w p.reserve tag x m m' sectors low within free only (written e) p.number p.spare p.apart s.rest single generation own h) as (λ _. GroupsFit m') [ inl a ↦ a.groups | inr b ↦ b.groups ] in
    place-holds w p.reserve m m' (with_sector sectors tag.number x) p.number p.spare p.apart s.rest only
    (put-done (slot_at m) (later m m') (slot_count m) w tag.number tag.generation (sector_count (length m)) x sectors low within free (place-others w m m' only)
    (sym (later-is m m' w only.only.chip.same_length) ∙ e) single generation h.slots) fit

pub put-left : (w : ℕ) (tag : Tag) (x m m' : List ℕ) (sectors : ℕ → List ℕ) → w < slot_count m → tag.number < sector_count (length m) → slot_at m w ≡ Free → OnlyPlace w m m' → PutLeaves tag x (slot_at m' w)
    → AreSettled m → IsPlaced w m → IsSingle m → NextGeneration (slot_at m) (slot_count m) tag.number tag.generation → IsInSlots tag.number m → HoldsSectors sectors m → HoldsSectors sectors m' ⊎ HoldsSectors (with_sector sectors tag.number x) m'
put-left w tag x m m' sectors low within free only left s p single generation own h =
    put-leaves w p.reserve tag x m m' sectors low within free only left p.number p.spare p.apart s.rest single generation own h

-- the older of two slots of a sector was retired, or its retirement was cut
pub retire-left : (w b g : ℕ) (j k : Generation) (x y m m' : List ℕ) (sectors : ℕ → List ℕ) → OnlyPlace b m m' → LiveAt (slot_at m) (slot_count m) b g j y → LiveAt (slot_at m) (slot_count m) w g k x → w ≢ b
    → k ≡ next_generation j → (slot_at m' b ≡ slot_at m b) ⊎ (slot_at m' b ≡ Dead) → AreSettled m → HoldsSectors sectors m → HoldsSectors sectors m'
retire-left w b g j k x y m m' sectors only old new other generation left s h =
    let p = live-placed b (record { number = g; generation = j }) y m s old.number old.is in
    retire-holds w b p.reserve g j k x y m m' sectors only old new other generation left p.number p.spare p.apart s.rest h

-- the sectors of a memory are those that are computed
pub holds-computed : (m : List ℕ) (sectors : ℕ → List ℕ) (g : ℕ) → HoldsSectors sectors m → g < sector_count (length m) → sector_at m g ≡ sectors g
holds-computed m sectors g s low = stands-computed (slot_at m) (slot_count m) (sector_count (length m)) sectors g s.slots low
