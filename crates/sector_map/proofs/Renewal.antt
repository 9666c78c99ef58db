-- The journals were erased, and each data block is as it was; and a data block that was erased.
use Rattle.std.proofs.Common.{◌≡◌, ℕ, ◌-◌, ◌<◌, Bool, true, List, length, refl, sym, ap, ◌∙◌, subst, arith, inl, inr}
use Rattle.std.specs.Prelude.{Option, ◌/◌}
use Rattle.chip_model.specs.Geometry.{block_count, sector_count}
use Rattle.chip_model.specs.Wavering.{Bits}
use Rattle.nor_driver.specs.State.{NorState, bits_in}
use Rattle.nor_driver.proofs.CallLaws.{ready-after}
use Rattle.nor_layout.specs.declared.header.Generation.{Generation}
use Rattle.erase_journal.specs.Blocks.{SameBlocks}
use Rattle.erase_journal.specs.Journals.{IsHealthy}
use Rattle.erase_journal.specs.Steps.{SucceedsSettled}
use Rattle.erase_journal.specs.Torn.{OpensNone, SameData}
use Rattle.erase_journal.proofs.SettledLaws.{settled-healthy}
use Rattle.sector_slots.specs.Slots.{slot_at, slot_count, data_blocks, kind_at, raw_slot, is_group, IsSpareIn}
use Rattle.sector_slots.specs.Blocks.{AreSettled, IsSettledBlocks}
use Rattle.sector_slots.specs.Sectors.{LiveAt, IsSingle, IsSoundMap, sector_at}
use Rattle.sector_slots.proofs.BlankLaws.{holds-sound, sound-holds, erased-spare}
use Rattle.sector_slots.specs.Losses.{IsFirmDisk}
use Rattle.sector_slots.specs.Losses as losses
use Rattle.sector_slots.specs.Weak.{IsSureBlock, spare}
use Rattle.sector_slots.proofs.ChipBlocks.{rest-sources}
use Rattle.sector_slots.proofs.DiskLaws.{disk-after, single-newer, sure-slots-stay}
use Rattle.sector_slots.proofs.FirmLaws.{block-stays}
use Rattle.sector_stock.specs.declared.given.Copied.{Copied}
use Rattle.sector_stock.specs.declared.index.BlockState.{BlockState}
use Rattle.sector_stock.specs.Losses.{AreSuspect, IsFirmDiskIn, suspects_in}
use Rattle.sector_stock.proofs.FirmLosses.{rest-room}
use Rattle.sector_stock.specs.Room.{HasRoom}
use Rattle.sector_stock.specs.Takes.{Renews, erases, moves, converts_group}
use Rattle.sector_map.specs.Firm.{StaysAlike}
use Rattle.sector_map.specs.Losses.{KeepsAtLoss}
use Rattle.sector_map.specs.Maps.{IsServing, IsStore, KeptServing, KeepsMap}
use Rattle.sector_map.specs.declared.table.LiveSlots.{LiveSlots}
use Rattle.sector_map.proofs.Alike.{alike-slot, alike-tabled, settled-same, firm-journals, firm-mends}
use Rattle.sector_map.proofs.KeepLosses.{at-loss-none, same-bits}
use Rattle.sector_map.proofs.MapCalls.{Moved, keeps-none, moved-keeps, served-room}
use Rattle.sector_map.proofs.Retiring.{single-tabled}

pub renews-erased : (s : ℕ) (o : Option Copied) (m b : List ℕ) → Renews s o m b → IsSpareIn b s
renews-erased s o m b (erases none h) = erased-spare b s h.erased
renews-erased s o m b (moves c is to h) = subst (λ z. IsSpareIn b z) to h.erased
renews-erased s o m b (converts_group c is to h) = subst (λ z. IsSpareIn b z) to h.erased

live-alike : (w g : ℕ) (k : Generation) (x m b : List ℕ) → StaysAlike m b → LiveAt (slot_at b) (slot_count b) w g k x → LiveAt (slot_at m) (slot_count m) w g k x
live-alike w g k x m b h l =
    let n : data_blocks b ≡ data_blocks m = ap (λ c. block_count c - 4) h.chip.same_length in
    let inside = l.number in
    let low : w < slot_count m = omega (arith, inside, n) in
    record { number = low; is = sym (alike-slot m b h.blocks w low) ∙ l.is }

alike-moved : (m b : List ℕ) → StaysAlike m b → IsSoundMap m → IsSingle m → AreSettled m → Moved m b
alike-moved m b h sound single settled =
    let n : data_blocks b ≡ data_blocks m = ap (λ c. block_count c - 4) h.chip.same_length in
    let mends = firm-mends m b h in
    record {
      chip = h.chip;
      sound = holds-sound b (sector_at m) (mends.sectors (sector_at m) (sound-holds m sound));
      single = record { one = λ w v g j k x y l r. single.one w v g j k x y (live-alike w g j x m b h l) (live-alike v g k y m b h r) };
      blocks = subst (λ c. IsSettledBlocks (kind_at b) (raw_slot b) (block_count c - 4)) (sym h.chip.same_length) (settled-same m b h.blocks settled);
      alone = λ a c inside. let low : c < data_blocks m = omega (arith, inside, n) in ap is_group (h.blocks.kinds c low) ∙ a c low;
      own = λ g o w k x l.
          let was = live-alike w g k x m b h l in
          let inside = was.number in
          ap is_group (h.blocks.kinds (w / 7) (omega (arith, inside))) ∙ o w k x was;
      sectors = λ c. mends.sectors;
      clean = mends.clean;
    }

pub journals-keep : (table : List LiveSlots) (a : NorState) (i : Bool) (b : List ℕ) → IsServing table a i → SameBlocks a.memory b → IsHealthy b → KeepsMap a.memory b
journals-keep table a i b served h healthy = moved-keeps a.memory b (alike-moved a.memory b (firm-journals a.memory b h) served.store.slots (single-tabled table a.memory served.tabled) served.blocks) healthy served.store.slots

pub journals-kept : (table : List LiveSlots) (a b : NorState) (i j : Bool) → IsServing table a i → SameBlocks a.memory b.memory → SucceedsSettled a b → j ≡ true → KeptServing table a b j
journals-kept table a b i j served h done is =
    let alike = firm-journals a.memory b.memory h in
    let moved = alike-moved a.memory b.memory alike served.store.slots (single-tabled table a.memory served.tabled) served.blocks in
    let keeps = moved-keeps a.memory b.memory moved (settled-healthy b.memory done.settled) served.store.slots in
    record {
      keeps = keeps;
      served = record {
        ready = ready-after a b done.kept served.ready;
        settled = done.settled;
        store = keeps.store;
        blocks = moved.blocks;
        tabled = record {
          size = served.tabled.size ∙ ap (λ c. sector_count c) (sym h.chip.same_length);
          tabled = alike-tabled table a.memory b.memory alike.blocks served.tabled.tabled;
          single = served.tabled.single;
        };
        index = is;
      };
    }

pub journals-room : (table : List LiveSlots) (a b : NorState) (i : Bool) → IsServing table a i → SameBlocks a.memory b.memory → SucceedsSettled a b → HasRoom b.memory
journals-room table a b i served h done = served-room table b true ((journals-kept table a b i true served h done refl).served)

-- All blocks may be suspect.
doubted : (b : Bits) (suspect : Bool) (c : ℕ) → IsSureBlock b suspect c → IsSureBlock b true c
doubted b suspect c h = record {
  edges = h.edges;
  mark = elim h.mark [ inl m ↦ inl m | inr d ↦ inr (refl, d.1) ];
  slots = λ i low. elim (h.slots i low) [ inl s ↦ inl s | inr d ↦ inr (refl, d.1) ];
}

-- A firm disk stays one whose journals were erased, if all its blocks are suspect.
pub journals-doubted : (table : List LiveSlots) (a b : NorState) (i : Bool) (p : List BlockState) (suspect : ℕ → Bool) → ((c : ℕ) → c < data_blocks b.memory → suspect c ≡ true) → IsServing table a i → SameBlocks a.memory b.memory → SucceedsSettled a b → IsFirmDiskIn (bits_in a) p → IsFirmDisk (bits_in b) suspect
journals-doubted table a b i p suspect all served h done disk =
    let n : data_blocks b.memory ≡ data_blocks a.memory = ap (λ c. block_count c - 4) h.chip.same_length in
    let alike = firm-journals a.memory b.memory h in
    let moved = alike-moved a.memory b.memory alike disk.sound (single-tabled table a.memory served.tabled) served.blocks in
    let f = done.kept.bits in
    let was = rest-room (bits_in a) served.blocks.rest disk.room in
    let inside = was.number in
    disk-after a b (suspects_in p) suspect disk done h.chip.same_length moved.sound (moved.alone disk.alone) (moved.clean disk.clean) (single-newer (bits_in b) moved.single)
    (λ c low.
    let before : c < data_blocks a.memory = omega (arith, low, n) in
    subst (λ s. IsSureBlock (bits_in b) s c) (sym (all c low))
    (doubted (bits_in b) (suspects_in p c) c (block-stays (bits_in a) (bits_in b) f (suspects_in p c) c (alike.blocks.kinds c before) (λ k small. alike.blocks.slots c k before small) (disk.store c before))))
    (spare was.block (omega (arith, inside, n)) (record { plain = alike.blocks.kinds was.block inside ∙ was.spare.plain; free = λ k small. alike.blocks.slots was.block k inside small ∙ was.spare.free k small })
    (sure-slots-stay (bits_in a) (bits_in b) f was.block (λ k small. alike.blocks.slots was.block k inside small) was.slots))

pub journals-disk : (table : List LiveSlots) (a b : NorState) (i : Bool) (p q : List BlockState) → IsServing table a i → SameBlocks a.memory b.memory → SucceedsSettled a b → length q ≡ data_blocks b.memory → AreSuspect q → IsFirmDiskIn (bits_in a) p → IsFirmDiskIn (bits_in b) q
journals-disk table a b i p q served h done listed suspect disk = journals-doubted table a b i p (suspects_in q) (λ c low. suspect c (omega (arith, low, listed))) served h done disk

-- The erase of the journals was cut,
pub journals-lose : (a b : NorState) (p : List BlockState) → AreSettled a.memory → IsStore a.memory → length b.memory ≡ length a.memory → SameData (bits_in a) (bits_in b) → OpensNone (bits_in b) → IsFirmDiskIn (bits_in a) p → KeepsAtLoss a.memory (bits_in b)
journals-lose a b p blocks store size same opens disk = record {
  before = bits_in a;
  suspect = suspects_in p;
  disk = disk;
  keeps = keeps-none a.memory store;
  change = losses.StepInterrupted.none (rest-sources a.memory blocks.rest) size same opens;
}

-- or what was read after it.
pub listing-loses : (table : List LiveSlots) (a b c : NorState) (i : Bool) (p : List BlockState) → IsServing table a i → SameBlocks a.memory b.memory → SucceedsSettled a b → KeepsMap a.memory b.memory → c.memory ≡ b.memory → c.weak ≡ b.weak → IsFirmDiskIn (bits_in a) p → KeepsAtLoss a.memory (bits_in c)
listing-loses table a b c i p served h done keeps same weak disk =
    let blocks = ((journals-kept table a b i true served h done refl).served).blocks in
    at-loss-none a.memory (bits_in b) (bits_in c) (λ c. true) (journals-doubted table a b i p (λ c. true) (λ c low. refl) served h done disk) (rest-sources b.memory blocks.rest) keeps (same-bits b c same weak)
