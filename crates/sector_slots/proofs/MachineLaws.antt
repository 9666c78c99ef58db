-- Each step of a copying keeps the map of sectors.
use Rattle.std.proofs.Common.{◌≡◌, ◌≢◌, ℕ, ◌+◌, ◌-◌, ◌*◌, ◌<◌, ◌⊎◌, List, length, sym, ap, ◌∙◌, subst, arith, inl, inr}
use Rattle.chip_model.specs.Geometry.{block_count, sector_count}
use Rattle.erase_journal.specs.Blocks.{SameChip, OnlyBlock}
use Rattle.nor_layout.specs.Kinds.{kind_of}
use Rattle.sector_slots.specs.Slots.{Slot, NoGeneration, is_group, slot_in, counted, data_blocks, kind_at, raw_slot, slot_at, slot_count}
use Rattle.sector_slots.specs.Sectors.{Single, SlotsRepresent, IsSingle, GroupsFit, HoldsSectors}
use Rattle.sector_slots.specs.Blocks.{IsAtRest, IsSettledBlocks, SoundBlocks, settled, crowded, copying, AreSettled, dead_group}
use Rattle.sector_slots.specs.Copying.{OnlyData, SameLive, Settles, ErasesVoid}
use Rattle.sector_slots.proofs.CopyLaws.{begin-live, copy-same, erase_source-same, settle-live, erase_void-live}
use Rattle.sector_slots.specs.Copying.{shifted}
use Rattle.sector_slots.proofs.CommitLaws.{commit-moves}
use Rattle.sector_slots.proofs.MoveLaws.{same-back, live-stands, live-single, moves-stands, moves-single}
use Rattle.sector_slots.proofs.GroupLaws.{only-stays, quiet-stays, fit-step, fit-sized, apart-single}
use Rattle.sector_slots.proofs.RetireLaws.{spare-quiet, memory-sees, retired-back, single-fewer, retire_group-each, retire_group-stands, retire_group-rest, erase_group-live, erase_group-settled}
use Rattle.sector_slots.proofs.BlockLaws.{begin-target, copy-target, commit-target, erase_source-target, settle-settled, erase_void-settled, erase_void-sound, target-cut}
use Rattle.sector_slots.specs.Machine.{SlotStep, begins, copies, commits, erases_source, settles, erases_void, retires_group, erases_group}

-- one block of the chip that changes is one data block that does
pub block-data : (c : ℕ) (m m' : List ℕ) → OnlyBlock (c + 4) m m' → OnlyData c (data_blocks m) (kind_at m) (kind_at m') (raw_slot m) (raw_slot m')
block-data c m m' only = record {
  same_kind = λ d low other. ap kind_of (only.others (d + 4) (omega arith) (omega arith) (λ e. other (omega (arith, e))));
  same_slots = λ d i low other. ap (λ b. slot_in b i) (only.others (d + 4) (omega arith) (omega arith) (λ e. other (omega (arith, e))));
}

-- what is said with the size of the memory before is said of the memory after
abbrev after_slots : List ℕ → ℕ → ℕ → Slot
after_slots m' n = counted (kind_at m') (raw_slot m') (block_count n - 4)

pub holds-sized : (m m' : List ℕ) (sectors : ℕ → List ℕ) → SameChip m m' → SlotsRepresent (after_slots m' (length m)) (slot_count m) (sector_count (length m)) sectors → SoundBlocks (kind_at m') (raw_slot m') (data_blocks m) → GroupsFit m'
    → HoldsSectors sectors m'
holds-sized m m' sectors chip s b g = record {
  slots = subst (λ n. SlotsRepresent (after_slots m' n) (7 * (block_count n - 4)) (sector_count n) sectors) (sym chip.same_length) s;
  blocks = subst (λ n. SoundBlocks (kind_at m') (raw_slot m') (block_count n - 4)) (sym chip.same_length) b;
  groups = g;
}

pub single-sized : (m m' : List ℕ) → SameChip m m' → Single (after_slots m' (length m)) (slot_count m) → IsSingle m'
single-sized m m' chip s = subst (λ n. Single (after_slots m' n) (7 * (block_count n - 4))) (sym chip.same_length) s

same-live : (f f' : ℕ → Slot) (n : ℕ) → ((s : ℕ) → s < n → f' s ≡ f s) → SameLive f f' n
same-live f f' n same s low = inl (same s low)

pub step-holds : (s t : ℕ) (m m' : List ℕ) (sectors : ℕ → List ℕ) → SlotStep s t m m' → HoldsSectors sectors m → HoldsSectors sectors m'
step-holds s t m m' sectors (begins chip h) holds =
    let live = begin-live t (data_blocks m) (kind_at m) (kind_at m') (raw_slot m) (raw_slot m') h in
    holds-sized m m' sectors chip (live-stands (slot_at m) (after_slots m' (length m)) (slot_count m) (sector_count (length m)) sectors live holds.slots)
    (copying t (target-cut t (data_blocks m) (kind_at m') (begin-target t (data_blocks m) (kind_at m) (kind_at m') (raw_slot m) (raw_slot m') h)))
    (fit-step m m' chip (only-stays t (data_blocks m) (kind_at m) (kind_at m') (raw_slot m) (raw_slot m') (after_slots m' (length m)) h.only (ap is_group h.now ∙ sym (ap is_group h.spare.plain))) (same-back (slot_at m) (after_slots m' (length m)) (slot_count m) live) holds.groups)
step-holds s t m m' sectors (copies chip h) holds =
    let live = same-live (slot_at m) (after_slots m' (length m)) (slot_count m) (copy-same t (data_blocks m) (kind_at m) (kind_at m') (raw_slot m) (raw_slot m') h) in
    holds-sized m m' sectors chip (live-stands (slot_at m) (after_slots m' (length m)) (slot_count m) (sector_count (length m)) sectors live holds.slots)
    (copying t (target-cut t (data_blocks m) (kind_at m') (copy-target t (data_blocks m) (kind_at m) (kind_at m') (raw_slot m) (raw_slot m') h)))
    (fit-step m m' chip (only-stays t (data_blocks m) (kind_at m) (kind_at m') (raw_slot m) (raw_slot m') (after_slots m' (length m)) h.only (ap is_group h.now ∙ sym (ap is_group h.was))) (same-back (slot_at m) (after_slots m' (length m)) (slot_count m) live) holds.groups)
step-holds s t m m' sectors (commits chip h single) holds =
    let moves = commit-moves s t (data_blocks m) (kind_at m) (kind_at m') (raw_slot m) (raw_slot m') h holds.slots.sound.whole in
    holds-sized m m' sectors chip (moves-stands (slot_at m) (after_slots m' (length m)) (slot_count m) (sector_count (length m)) sectors (shifted s t) (shifted t s) moves single holds.slots)
    (copying t (target-cut t (data_blocks m) (kind_at m') (commit-target s t (data_blocks m) (kind_at m) (kind_at m') (raw_slot m) (raw_slot m') h)))
    (fit-sized m m' chip (apart-single (kind_at m') (after_slots m' (length m)) (slot_count m) (moves-single (slot_at m) (after_slots m' (length m)) (slot_count m) (shifted s t) (shifted t s) moves single)) (only-stays t (data_blocks m) (kind_at m) (kind_at m') (raw_slot m) (raw_slot m') (after_slots m' (length m)) h.only (ap is_group h.now ∙ sym (ap is_group h.was))) holds.groups.layout)
step-holds s t m m' sectors (erases_source chip h) holds =
    let live = same-live (slot_at m) (after_slots m' (length m)) (slot_count m) (erase_source-same s t (data_blocks m) (kind_at m) (kind_at m') (raw_slot m) (raw_slot m') h) in
    holds-sized m m' sectors chip (live-stands (slot_at m) (after_slots m' (length m)) (slot_count m) (sector_count (length m)) sectors live holds.slots)
    (copying t (target-cut t (data_blocks m) (kind_at m') (erase_source-target s t (data_blocks m) (kind_at m) (kind_at m') (raw_slot m) (raw_slot m') h)))
    (fit-step m m' chip (quiet-stays s (data_blocks m) (kind_at m) (kind_at m') (raw_slot m) (raw_slot m') (after_slots m' (length m)) h.only (ap is_group h.now.plain) (spare-quiet s (data_blocks m) (kind_at m') (raw_slot m') h.now)) (same-back (slot_at m) (after_slots m' (length m)) (slot_count m) live) holds.groups)
step-holds s t m m' sectors (settles chip h) holds =
    let live = settle-live s t (data_blocks m) (kind_at m) (kind_at m') (raw_slot m) (raw_slot m') h in
    holds-sized m m' sectors chip (live-stands (slot_at m) (after_slots m' (length m)) (slot_count m) (sector_count (length m)) sectors live holds.slots)
    (settled (settle-settled s t (data_blocks m) (kind_at m) (kind_at m') (raw_slot m) (raw_slot m') h))
    (fit-step m m' chip (only-stays t (data_blocks m) (kind_at m) (kind_at m') (raw_slot m) (raw_slot m') (after_slots m' (length m)) h.only (ap is_group h.now ∙ sym (ap is_group h.was))) (same-back (slot_at m) (after_slots m' (length m)) (slot_count m) live) holds.groups)
step-holds s t m m' sectors (erases_void chip h) holds =
    let live = erase_void-live t (data_blocks m) (kind_at m) (kind_at m') (raw_slot m) (raw_slot m') h in
    holds-sized m m' sectors chip (live-stands (slot_at m) (after_slots m' (length m)) (slot_count m) (sector_count (length m)) sectors live holds.slots)
    (erase_void-sound t (data_blocks m) (kind_at m) (kind_at m') (raw_slot m) (raw_slot m') h holds.blocks)
    (fit-step m m' chip (only-stays t (data_blocks m) (kind_at m) (kind_at m') (raw_slot m) (raw_slot m') (after_slots m' (length m)) h.only (ap is_group h.now.plain ∙ sym (ap is_group h.was))) (same-back (slot_at m) (after_slots m' (length m)) (slot_count m) live) holds.groups)
step-holds s t m m' sectors (retires_group chip h) holds =
    let sees = memory-sees m in
    let sees' = memory-sees m' in
    let stands = retire_group-stands s t (data_blocks m) (sector_count (length m)) (kind_at m) (kind_at m') (raw_slot m) (raw_slot m') sectors sees sees' h holds.slots in
    holds-sized m m' sectors chip stands
    (crowded (retire_group-rest s t (data_blocks m) (kind_at m) (kind_at m') (raw_slot m) (raw_slot m') h) (dead_group s h.number h.now))
    (fit-step m m' chip (only-stays s (data_blocks m) (kind_at m) (kind_at m') (raw_slot m) (raw_slot m') (after_slots m' (length m)) h.only (ap is_group h.now ∙ sym (ap is_group h.was)))
    (retired-back (slot_at m) (after_slots m' (length m)) (slot_count m) (retire_group-each s t (data_blocks m) (kind_at m) (kind_at m') (raw_slot m) (raw_slot m') sees sees' h)) holds.groups)
step-holds s t m m' sectors (erases_group chip h) holds =
    let live = erase_group-live t (data_blocks m) (kind_at m) (kind_at m') (raw_slot m) (raw_slot m') (memory-sees m) h in
    holds-sized m m' sectors chip (live-stands (slot_at m) (after_slots m' (length m)) (slot_count m) (sector_count (length m)) sectors live holds.slots)
    (settled (erase_group-settled t (data_blocks m) (kind_at m) (kind_at m') (raw_slot m) (raw_slot m') h))
    (fit-step m m' chip (quiet-stays t (data_blocks m) (kind_at m) (kind_at m') (raw_slot m) (raw_slot m') (after_slots m' (length m)) h.only (ap is_group h.now.plain) (spare-quiet t (data_blocks m) (kind_at m') (raw_slot m') h.now)) (same-back (slot_at m) (after_slots m' (length m)) (slot_count m) live) holds.groups)

pub step-single : (s t : ℕ) (m m' : List ℕ) → SlotStep s t m m' → ((v : ℕ) → v < slot_count m → slot_at m v ≢ NoGeneration) → IsSingle m → IsSingle m'
step-single s t m m' (begins chip h) whole single = single-sized m m' chip (live-single (slot_at m) (after_slots m' (length m)) (slot_count m) (begin-live t (data_blocks m) (kind_at m) (kind_at m') (raw_slot m) (raw_slot m') h) single)
step-single s t m m' (copies chip h) whole single = single-sized m m' chip (live-single (slot_at m) (after_slots m' (length m)) (slot_count m) (same-live (slot_at m) (after_slots m' (length m)) (slot_count m) (copy-same t (data_blocks m) (kind_at m) (kind_at m') (raw_slot m) (raw_slot m') h)) single)
step-single s t m m' (commits chip h one) whole single = single-sized m m' chip (moves-single (slot_at m) (after_slots m' (length m)) (slot_count m) (shifted s t) (shifted t s) (commit-moves s t (data_blocks m) (kind_at m) (kind_at m') (raw_slot m) (raw_slot m') h whole) single)
step-single s t m m' (erases_source chip h) whole single = single-sized m m' chip (live-single (slot_at m) (after_slots m' (length m)) (slot_count m) (same-live (slot_at m) (after_slots m' (length m)) (slot_count m) (erase_source-same s t (data_blocks m) (kind_at m) (kind_at m') (raw_slot m) (raw_slot m') h)) single)
step-single s t m m' (settles chip h) whole single = single-sized m m' chip (live-single (slot_at m) (after_slots m' (length m)) (slot_count m) (settle-live s t (data_blocks m) (kind_at m) (kind_at m') (raw_slot m) (raw_slot m') h) single)
step-single s t m m' (erases_void chip h) whole single = single-sized m m' chip (live-single (slot_at m) (after_slots m' (length m)) (slot_count m) (erase_void-live t (data_blocks m) (kind_at m) (kind_at m') (raw_slot m) (raw_slot m') h) single)
step-single s t m m' (retires_group chip h) whole single =
    single-sized m m' chip (single-fewer (slot_at m) (after_slots m' (length m)) (slot_count m)
    (retired-back (slot_at m) (after_slots m' (length m)) (slot_count m) (retire_group-each s t (data_blocks m) (kind_at m) (kind_at m') (raw_slot m) (raw_slot m') (memory-sees m) (memory-sees m') h)) single)
step-single s t m m' (erases_group chip h) whole single = single-sized m m' chip (live-single (slot_at m) (after_slots m' (length m)) (slot_count m) (erase_group-live t (data_blocks m) (kind_at m) (kind_at m') (raw_slot m) (raw_slot m') (memory-sees m) h) single)

pub last-settles : (s t : ℕ) (m m' : List ℕ) → SameChip m m'
    → Settles s t (data_blocks m) (kind_at m) (kind_at m') (raw_slot m) (raw_slot m') ⊎ (ErasesVoid t (data_blocks m) (kind_at m) (kind_at m') (raw_slot m) (raw_slot m') × ((d : ℕ) → d < data_blocks m → d ≢ t → IsAtRest (kind_at m d)))
    → AreSettled m'
last-settles s t m m' chip either =
    let b : IsSettledBlocks (kind_at m') (raw_slot m') (data_blocks m) = elim either as (λ _. IsSettledBlocks (kind_at m') (raw_slot m') (data_blocks m)) [
      | inl h ↦ settle-settled s t (data_blocks m) (kind_at m) (kind_at m') (raw_slot m) (raw_slot m') h
      | inr h ↦ erase_void-settled t (data_blocks m) (kind_at m) (kind_at m') (raw_slot m) (raw_slot m') h.0 h.1
    ] in
    subst (λ n. IsSettledBlocks (kind_at m') (raw_slot m') (block_count n - 4)) (sym chip.same_length) b
