-- A suspect block is made firm, or a wholly free one is erased once more: the chip is firm after it, and a loss of power in it loses nothing.
use Rattle.std.proofs.Common.{◌≡◌, ◌≢◌, ℕ, ◌+◌, ◌-◌, ◌<◌, List, length, ap, ◌∙◌, subst, arith}
use Rattle.std.specs.Prelude.{◌/◌, ◌%◌}
use Rattle.chip_model.specs.Geometry.{block_count}
use Rattle.chip_model.specs.Wavering.{Bits}
use Rattle.nor_layout.specs.declared.kind.Kind.{Kind}
use Rattle.nor_layout.specs.declared.kind.Kind.TheVariants as kinds
use Rattle.nor_driver.specs.State.{NorState, IsFirmer, bits_in}
use Rattle.erase_journal.specs.Blocks.{OnlyBlock, WithErased}
use Rattle.erase_journal.specs.Journals.{IsSettled}
use Rattle.erase_journal.specs.Steps.{SucceedsSettled}
use Rattle.erase_journal.specs.Torn.{BlockInterrupted, OpensOnly, SameBeside}
use Rattle.erase_journal.specs.Weak.{AreFirmJournals}
use Rattle.sector_slots.specs.Slots.{Free, slot_at, slot_count, data_blocks, kind_at, raw_slot, IsSpareIn}
use Rattle.sector_slots.specs.Blocks.{IsAtRest, AreAtRest}
use Rattle.sector_slots.specs.Losses.{IsLowestFreePlace, killed, erased}
use Rattle.sector_slots.specs.Torn.{StateInterrupted}
use Rattle.sector_slots.specs.Weak.{HasSureRoom, HasSureSpare, IsWhollyFirm, spare, void, committed, descriptor_place}
use Rattle.sector_slots.proofs.BlankLaws.{erased-spare}
use Rattle.sector_slots.proofs.ChipBlocks.{rest-sources}
use Rattle.sector_slots.proofs.DiskLaws.{disk-after, single-newer, wholly-room, sure-slots-stay}
use Rattle.sector_slots.proofs.MachineLaws.{block-data}
use Rattle.sector_stock.specs.declared.index.BlockState.{BlockState}
use Rattle.sector_stock.specs.Index.{IsFirmIn}
use Rattle.sector_stock.specs.IndexSteps.{HasNoneFreeBefore}
use Rattle.sector_stock.specs.Losses.{suspects_in, IsFirmDiskIn, LosesNothing}
use Rattle.sector_stock.specs.Room.{HasRoom}
use Rattle.sector_stock.specs.Takes.{MakesFirm}
use Rattle.sector_stock.proofs.Copying.{same-sectors-sound}
use Rattle.sector_stock.proofs.Firming.{erased-firm, firm-room}
use Rattle.sector_stock.proofs.Losing.{loses-in}
use Rattle.sector_stock.proofs.Renewing.{spare-erasable}
use Rattle.sector_stock.proofs.Trusting.{raw-free, before-raw}

-- a block at rest is neither void nor committed
rest-void : (k : Kind) → IsAtRest k → k ≢ kinds.Void
rest-void k h e = subst (λ a. IsAtRest a) e h

rest-committed : (k : Kind) (b : ℕ) → IsAtRest k → k ≢ kinds.Committed b
rest-committed k b h e = subst (λ a. IsAtRest a) e h

-- so where no copying goes on, the room is a wholly free block
pub rest-room : (a : Bits) → AreAtRest (kind_at a.shown) (data_blocks a.shown) → HasSureRoom a → HasSureSpare a
rest-room a rest (spare c low is sure) = record { block = c; number = low; spare = is; slots = sure }
rest-room a rest (void c low is) = absurd (rest-void (kind_at a.shown c) (rest c low) is)
rest-room a rest (committed s t low inside is sure) = absurd (rest-committed (kind_at a.shown t) (s + 4) (rest t inside) is)

-- it stays so, where one block changed that isn't wholly free
pub part-room : (a b : Bits) → IsFirmer a b → (s : ℕ) → AreAtRest (kind_at a.shown) (data_blocks a.shown) → (IsSpareIn a.shown s → ⊥) → OnlyBlock (s + 4) a.shown b.shown → HasSureRoom a → HasSureRoom b
part-room a b f s rest part only room =
    let n : data_blocks b.shown ≡ data_blocks a.shown = ap (λ k. block_count k - 4) only.chip.same_length in
    let was = rest-room a rest room in
    let low = was.number in
    let other : was.block ≢ s = λ e. part (subst (λ d. IsSpareIn a.shown d) e was.spare) in
    let kept = block-data s a.shown b.shown only in
    let same : (i : ℕ) → i < 7 → raw_slot b.shown was.block i ≡ raw_slot a.shown was.block i = λ i small. kept.same_slots was.block i low other in
    spare was.block (omega (arith, low, n)) (record { plain = kept.same_kind was.block low other ∙ was.spare.plain; free = λ i small. same i small ∙ was.spare.free i small }) (sure-slots-stay a b f was.block same was.slots)

-- A block was made firm.
pub firmed-disk : (a b : NorState) (blocks blocks' : List BlockState) → IsFirmDiskIn (bits_in a) blocks → HasRoom a.memory → SucceedsSettled a b → MakesFirm a.memory b.memory → IsFirmIn (bits_in b) blocks' → HasSureRoom (bits_in b)
    → IsFirmDiskIn (bits_in b) blocks'
firmed-disk a b blocks blocks' h room done firm store sure =
    let k = firm.keeps in
    disk-after a b (suspects_in blocks) (suspects_in blocks') h done k.chip.same_length (same-sectors-sound a.memory b.memory k.sectors h.sound) (k.alone h.alone) (k.clean h.clean)
    (single-newer (bits_in b) (firm-room a.memory b.memory room firm).single) store sure

-- A wholly free block was erased, or its erase was interrupted.
pub erased-disk : (c : ℕ) (a b : NorState) (blocks blocks' : List BlockState) → IsFirmDiskIn (bits_in a) blocks → HasRoom a.memory → c < data_blocks a.memory → IsSpareIn a.memory c → SucceedsSettled a b → WithErased (c + 4) a.memory b.memory
    → IsWhollyFirm b.weak c → IsFirmIn (bits_in b) blocks' → IsFirmDiskIn (bits_in b) blocks'
erased-disk c a b blocks blocks' h room low is done w wholly store =
    let n : data_blocks b.memory ≡ data_blocks a.memory = ap (λ k. block_count k - 4) w.only.chip.same_length in
    firmed-disk a b blocks blocks' h room done (erased-firm c a.memory b.memory room low is w) store (wholly-room (bits_in b) c (omega (arith, low, n)) (erased-spare b.memory c w.erased) wholly)

pub erase-loses : (c : ℕ) (a b : NorState) (blocks : List BlockState) → IsFirmDiskIn (bits_in a) blocks → AreAtRest (kind_at a.memory) (data_blocks a.memory) → c < data_blocks a.memory → IsSpareIn a.memory c → length b.memory ≡ length a.memory
    → SameBeside (c + 4) (bits_in a) (bits_in b) → (IsSettled a.memory → AreFirmJournals (bits_in a) → BlockInterrupted (c + 4) (bits_in a) (bits_in b)) → (IsSettled a.memory → AreFirmJournals (bits_in a) → OpensOnly (c + 4) (bits_in b)) → LosesNothing a.memory (bits_in b)
erase-loses c a b blocks h rest low is size beside cut opens = loses-in (bits_in a) (suspects_in blocks) (bits_in b) h (erased c low (spare-erasable c a.memory rest low is) (rest-sources a.memory rest) size beside (cut h.settled h.journals) (opens h.settled h.journals))

-- The first free slot of a block that isn't wholly free was killed, or that was interrupted.
pub lowest-place : (w : ℕ) (m : List ℕ) → AreAtRest (kind_at m) (data_blocks m) → w < slot_count m → slot_at m w ≡ Free → HasNoneFreeBefore w m → IsLowestFreePlace (w / 7) (w % 7) m
lowest-place w m rest low free first = record { number = omega (arith, low); within = omega arith; free = raw-free m w free; lowest = before-raw m w rest low first }

pub kill-loses : (w : ℕ) (a b : NorState) (blocks : List BlockState) → IsFirmDiskIn (bits_in a) blocks → AreAtRest (kind_at a.memory) (data_blocks a.memory) → IsLowestFreePlace (w / 7) (w % 7) a.memory → (IsSpareIn a.memory (w / 7) → ⊥)
    → StateInterrupted (descriptor_place (w / 7) (w % 7)) 251 (bits_in a) (bits_in b) → LosesNothing a.memory (bits_in b)
kill-loses w a b blocks h rest lowest part cut = loses-in (bits_in a) (suspects_in blocks) (bits_in b) h (killed (w / 7) (w % 7) rest lowest part cut)
